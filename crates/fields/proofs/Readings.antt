-- How an amount with a comma is read, and what its reading says of the run.
use Rattle.std.proofs.Common.{◌≡◌, ℕ, Bool, true, false, T, ℤ, Some, sym, refl, ap, ◌∙◌, arith}
use Rattle.domain.specs.declared.amount.Amount.{Amount}
use Rattle.domain.specs.Makers.{as_amount, is_amount, in_amount, provided}

made_minor : (b : Bool) (f : T b → Amount) (z : ℤ) (a : Amount) → ((t : T b) → (f t).minor ≡ z) → provided b f ≡ Some a → a.minor ≡ z
made_minor true f z a h e = let p : f tt ≡ a = cc in ap (λ x. x.minor) (sym p) ∙ h tt
made_minor false f z a h e = absurd (let n : ◌≡◌ {A = ℕ} 0 1 = cc in omega arith)

pub amount_minor : (z : ℤ) (a : Amount) → as_amount z ≡ Some a → a.minor ≡ z
unfolding as_amount
amount_minor z a e = made_minor (is_amount z) (λ t. record { minor = z; within = in_amount z t }) z a (λ t. refl) e
