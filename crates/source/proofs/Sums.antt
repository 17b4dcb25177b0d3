-- How far a sum of entries can lie from nought, what that says of a balance, and that the law lasts.
use Rattle.std.proofs.Common.{◌≡◌, ℕ, ◌*◌, ◌≤◌, List, [], ◌∷◌, ◌++◌, length, ℤ, pos, ◌+ℤ◌, neg_ℤ, ◌≤ℤ◌, Some, ap, ◌∙◌, arith, w64, SFits}
use Rattle.std.proofs.lemmas.Int.{ints}
use Rattle.domain.specs.Limits.{InAmount}
use Rattle.domain.specs.declared.entry.Entry.{Entry}
use Rattle.source.specs.Statement.{Statement, Lawful, moved, total, first, first_of, onward, rest}

-- within n amounts of nought
pub record Near (n : ℕ) (z : ℤ) : Type 0 where
  pub low : neg_ℤ (pos (99999999999999 * n)) ≤ℤ z
  pub high : z ≤ℤ pos (99999999999999 * n)

pub near_total : (es : List Entry) → Near (length es) (total es)
near_total [] = record { low = omega (arith, ints); high = omega (arith, ints) }
near_total (e ∷ es) =
    let h = near_total es in
    record { low = omega (arith, ints, e.amount.within.0, h.low); high = omega (arith, ints, e.amount.within.1, h.high) }

pub total-++ : (xs ys : List Entry) → total (xs ++ ys) ≡ total xs +ℤ total ys
total-++ [] ys = omega (arith, ints)
total-++ (x ∷ xs) ys = omega (arith, ints, total-++ xs ys)

-- a balance from which n entries lead to an amount fits
balance_fits : (reached rest closing : ℤ) (n : ℕ) → reached +ℤ rest ≡ closing → InAmount closing → Near n rest → n ≤ 4096 → SFits w64 reached
balance_fits reached rest closing n e c h few = omega (arith, ints, h.low, h.high, c.0, c.1)

pub lawful_fits : (s : Statement) → Lawful s → SFits w64 s.reached
lawful_fits s l = balance_fits s.reached (total s.remaining) s.closing.minor (length s.remaining) l.balanced s.closing.within (near_total s.remaining) l.few

onward_rest : (es : List Entry) (z : ℤ) → onward es z +ℤ total (rest es) ≡ z +ℤ total es
onward_rest [] z = omega (arith, ints)
onward_rest (e ∷ es) z = omega (arith, ints)

rest_length : (es : List Entry) → length (rest es) ≤ length es
rest_length [] = omega arith
rest_length (e ∷ es) = omega arith

-- the law lasts
pub lawful_moved : (s : Statement) → Lawful s → Lawful (moved s)
lawful_moved s l = record { numbered = l.numbered; balanced = onward_rest s.remaining s.reached ∙ l.balanced; few = omega (arith, rest_length s.remaining, l.few) }

onward_first : (es : List Entry) (z : ℤ) (e : Entry) → Some e ≡ first es → onward es z ≡ z +ℤ e.amount.minor
onward_first [] z e h = absurd (let n : ◌≡◌ {A = ℕ} 0 1 = cc in omega arith)
onward_first (x ∷ es) z e h = let p : x ≡ e = cc in ap (λ y. z +ℤ y.amount.minor) p

-- an entry moves the balance by its amount
pub moved_reached : (s t : Statement) (e : Entry) → Some e ≡ first_of s → t ≡ moved s → t.reached ≡ s.reached +ℤ e.amount.minor
moved_reached s t e h m = ap (λ u. u.reached) m ∙ onward_first s.remaining s.reached e h
