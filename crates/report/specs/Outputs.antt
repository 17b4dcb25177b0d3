-- What a line holds, and how it goes into an output.
use Rattle.std.specs.Prelude.{ℕ, List, ◌++◌, length, drop}
use Rattle.report.specs.declared.line.Line.{Line}

-- the bytes of a line
abbrev pub text_of : Line → List ℕ
text_of l = l.bytes.items

-- an output with a text at its front, as it was behind it
abbrev pub put : List ℕ → List ℕ → List ℕ
put text out = text ++ drop (length text) out
