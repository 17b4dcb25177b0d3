-- The entries that the lines of a text state, in any format.
use Rattle.std.specs.Prelude.{◌≡◌, ℕ, List, [], ◌∷◌, Some, None, Option}
use Rattle.std.specs.Option.{IfNone}
use Rattle.domain.specs.declared.entry.Entry.{Entry}
use Rattle.text.specs.Lines.{lines_from}

-- entries with the one in front that a line states, if it states one
abbrev pub with_entry : Option Entry → List Entry → List Entry
with_entry None es = es
with_entry (Some e) es = e ∷ es

-- the entries in lines: each line that states an entry, if need be with the lines behind it, gives it, and every other line is passed by
abbrev pub entries_of : (ℕ × List ℕ → List (ℕ × List ℕ) → Option Entry) → List (ℕ × List ℕ) → List Entry
entries_of stated [] = []
entries_of stated (l ∷ ls) = with_entry (stated l ls) (entries_of stated ls)

-- the entries in the lines of a text
unfoldable pub entries_in : (ℕ × List ℕ → List (ℕ × List ℕ) → Option Entry) → List ℕ → List Entry
entries_in stated text = entries_of stated (lines_from 0 text)

-- the first entry in lines, and the lines behind its line; none where none is left, and then no line is
abbrev pub Sought : (ℕ × List ℕ → List (ℕ × List ℕ) → Option Entry) → List (ℕ × List ℕ) → Option Entry → List (ℕ × List ℕ) → Type 0
Sought stated ls found rest = (entries_of stated ls ≡ with_entry found (entries_of stated rest)) × IfNone found (entries_of stated rest ≡ [])
