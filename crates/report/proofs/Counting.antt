-- A report has five lines more than items in use.
use Rattle.std.proofs.Common.{◌≡◌, ℕ, suc, ◌+◌, List, [], ◌∷◌, length, refl, ap, arith}
use Rattle.std.proofs.lemmas.List.{length-append}
use Rattle.domain.specs.declared.entry.Item.{Item}
use Rattle.ledger.specs.declared.ledger.Ledger.{Ledger}
use Rattle.report.specs.Reports.{open_rows, report_rows}
use Rattle.report.specs.Tallies.{total_row}

rows_length : (n : ℕ) (xs : List Item) → length (open_rows n xs) ≡ length xs
rows_length n [] = refl
rows_length n (x ∷ xs) = ap suc (rows_length (n + 1) xs)

pub rows_count : (l : Ledger) (xs : List Item) → length (report_rows l xs) ≡ length xs + 5
unfolding report_rows
rows_count l xs = omega (arith, length-append (open_rows 1 xs) (total_row xs ∷ []), rows_length 1 xs)
