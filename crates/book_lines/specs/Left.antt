-- The fields that an iterator over a line still gives.
use Rattle.std.specs.Prelude.{ℕ, List, [], Some, None}
use Rattle.book_lines.specs.declared.parts.Fields.{Fields}
use Rattle.book_lines.specs.Fields.{fields_of}

abbrev pub fields_left : Fields → List (List ℕ)
fields_left s = elim s.rest [ None ↦ [] | Some rest ↦ fields_of rest.now ]
