-- The statement number and the page.
use Rattle.std.specs.Prelude.{ℕ, ◌+◌, List, take, drop, Some, None, Option}
use Rattle.fields.specs.Runs.{numeral_of}
use Rattle.text.specs.Lines.{from}
use Rattle.mt940_fields.specs.declared.number.PageNumber.{PageNumber}

-- a number alone is on page 1
abbrev pub alone : Option ℕ → Option PageNumber
alone o = elim o [ None ↦ None | Some n ↦ Some (record { number = n; page = 1 }) ]

abbrev pub paired : Option ℕ → Option ℕ → Option PageNumber
paired o q = elim o [ None ↦ None | Some n ↦ elim q [ None ↦ None | Some p ↦ Some (record { number = n; page = p }) ] ]

-- a number of 1 to 5 digits, and perhaps a slash (47) and a page of 1 to 5 digits
unfoldable pub numbers_of : List ℕ → Option PageNumber
numbers_of body = elim (from 47 0 body) [ None ↦ alone (numeral_of 5 body) | Some i ↦ paired (numeral_of 5 (take i body)) (numeral_of 5 (drop (i + 1) body)) ]
