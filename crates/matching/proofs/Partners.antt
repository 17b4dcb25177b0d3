-- A partner, or an original, stands within the items.
use Rattle.std.proofs.Common.{◌≡◌, position, ℕ, ◌<◌, Bool, true, false, List, length, IfSome, Some, None, Option, sym, refl, ap, ◌∙◌, arith}
use Rattle.std.proofs.lemmas.Bool.{cond-true}
use Rattle.std.proofs.lemmas.List.Quantifiers.{position-Some}
use Rattle.domain.specs.declared.entry.Side.TheVariants.{Bank}
use Rattle.domain.specs.declared.entry.Entry.{Entry}
use Rattle.domain.specs.declared.entry.Item.{Item}
use Rattle.domain.specs.Blanks.{blank}
use Rattle.domain.specs.Items.{open_on}
use Rattle.matching.specs.Grouping.{item_at, highest_below}
use Rattle.matching.specs.Matching.{partners, partner_of}
use Rattle.matching.specs.Folding.{open_reversal, undoes, original_of}
use Rattle.matching.proofs.Finds.{highest_at}

-- what a test lets through
pub let_through : {X : Type 0} (b : Bool) (o : Option X) (x : X) → Some x ≡ mathlib.Core.Bool.cond b o None → (b ≡ true) × (o ≡ Some x)
let_through true o x e = (refl, sym e)
let_through false o x e = cc

-- a pair that is found: an outstanding bank item, and the position of a partner
pub partner_is : (permits : Entry → Entry → Bool) (xs : List Item) (i j : ℕ) → Some j ≡ partner_of permits xs i
    → (open_on Bank (item_at xs i) ≡ true) × (j < length xs) × (partners (permits (item_at xs i).entry) (item_at xs j) ≡ true)
partner_is permits xs i j e =
    let p = let_through (open_on Bank (item_at xs i)) (position (partners (permits (item_at xs i).entry)) xs) j e in
    let r = position-Some (partners (permits (item_at xs i).entry)) xs j blank p.1 in
    (p.0, r.0, r.1)

-- a group that is found: an outstanding reversal, and the position below of an item that it undoes
pub original_is : (xs : List Item) (i j : ℕ) → Some j ≡ original_of xs i
    → (open_reversal (item_at xs i) ≡ true) × (j < i) × (undoes (item_at xs i) (item_at xs j) ≡ true)
original_is xs i j e =
    let p = let_through (open_reversal (item_at xs i)) (highest_below (undoes (item_at xs i)) i xs) j e in
    let r = highest_at (undoes (item_at xs i)) i xs j p.1 in
    (p.0, r.0, r.1)

pub original_within : (xs : List Item) (i : ℕ) (o : Option ℕ) → i < length xs → o ≡ original_of xs i → IfSome o (λ j. j < length xs)
original_within xs i None lt e = tt
original_within xs i (Some j) lt e = let r = original_is xs i j e in omega (arith, r.1)

-- the position that an outstanding reversal finds
pub original_found : (xs : List Item) (i : ℕ) (x : Item) → item_at xs i ≡ x → open_reversal x ≡ true → original_of xs i ≡ highest_below (undoes x) i xs
original_found xs i x e o = ap (λ (y : Item). mathlib.Core.Bool.cond (open_reversal y) (highest_below (undoes y) i xs) None) e ∙ cond-true _ _ None o
