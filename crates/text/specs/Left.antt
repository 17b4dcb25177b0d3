-- The lines that an iterator over a text still gives.
use Rattle.std.specs.Prelude.{ℕ, List, drop}
use Rattle.text.specs.declared.line.Line.{Line}
use Rattle.text.specs.declared.Lines.{Lines}
use Rattle.text.specs.Lines.{lines_from}

-- a line, as the lists of lines have it
abbrev pub shown : Line → ℕ × List ℕ
shown line = (line.at, line.raw.now)

abbrev pub lines_left : Lines → List (ℕ × List ℕ)
lines_left s = lines_from s.at (drop s.at s.text.now)
