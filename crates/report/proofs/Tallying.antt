-- One item more in a sum.
use Rattle.std.proofs.Common.{◌≡◌, ℕ, ◌+◌, ◌<◌, true, false, cond, List, length, get_or, drop, ℤ, pos, ◌+ℤ◌, sym, ap, ◌∙◌, arith}
use Rattle.std.proofs.lemmas.Bool.{cond-true, cond-false}
use Rattle.std.proofs.lemmas.List.{at_drop_more}
use Rattle.std.proofs.lemmas.Int.{ints}
use Rattle.domain.specs.declared.entry.Item.{Item}
use Rattle.domain.specs.declared.entry.Side.{Side}
use Rattle.report.specs.Tallies.{open_sum}
use Rattle.domain.specs.Items.{open_on}

module _ (s : Side) (xs : List Item) (i : ℕ) (x : Item) (h : i < length xs) (e : x ≡ get_or xs i x) where
  part : Item → ℤ
  part y = cond (open_on s y) y.entry.amount.minor (pos 0)

  sum_more : open_sum s (drop i xs) ≡ part x +ℤ open_sum s (drop (i + 1) xs)
  unfolding part
  sum_more = at_drop_more (open_sum s) xs i x h ∙ ap (λ (y : Item). part y +ℤ open_sum s (drop (i + 1) xs)) (sym e)

  pub sum_open : open_on s x ≡ true → open_sum s (drop i xs) ≡ x.entry.amount.minor +ℤ open_sum s (drop (i + 1) xs)
  unfolding part
  sum_open t = sum_more ∙ ap (λ (z : ℤ). z +ℤ open_sum s (drop (i + 1) xs)) (cond-true (open_on s x) _ _ t)

  pub sum_closed : open_on s x ≡ false → open_sum s (drop i xs) ≡ open_sum s (drop (i + 1) xs)
  unfolding part
  sum_closed t = omega (arith, ints, sum_more, cond-false (open_on s x) x.entry.amount.minor (pos 0) t)
