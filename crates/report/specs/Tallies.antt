-- The outstanding items of a side, counted and added.
use Rattle.std.specs.Prelude.{ℕ, cond, List, [], ◌∷◌, ℤ, pos, ◌+ℤ◌, codes, decimal}
use Rattle.std.specs.List.{count_by}
use Rattle.std.specs.Fmt.{signed_decimal}
use Rattle.domain.specs.declared.entry.Item.{Item}
use Rattle.domain.specs.declared.entry.Side.{Side}
use Rattle.domain.specs.declared.entry.Side.TheVariants.{Bank, Book}
use Rattle.domain.specs.Items.{open_on}
use Rattle.report.specs.Rows.{row}

abbrev pub open_count : Side → List Item → ℕ
open_count s xs = count_by (open_on s) xs

abbrev pub open_sum : Side → List Item → ℤ
open_sum s [] = pos 0
open_sum s (x ∷ xs) = cond (open_on s x) x.entry.amount.minor (pos 0) +ℤ open_sum s xs

-- T: open items and their sum, bank then book
abbrev pub total_row : List Item → List ℕ
total_row xs = row (codes "T") (decimal (open_count Bank xs) ∷ signed_decimal (open_sum Bank xs) ∷ decimal (open_count Book xs) ∷ signed_decimal (open_sum Book xs) ∷ [])
