-- What both statements come to is written as it is where its refusal gets an offset.
use Rattle.std.proofs.Common.{◌≡◌, ℕ, List, Ok, Err, Result, refl, ap, ◌∙◌}
use Rattle.domain.specs.declared.entry.Side.TheVariants.{Bank, Book}
use Rattle.domain.specs.declared.refusal.Refusal.{Refusal}
use Rattle.domain.specs.declared.refusal.Refused.{Refused}
use Rattle.source.specs.Statement.{Statement}
use Rattle.reconcile.specs.Steps.{reconciled_of, output_of}
use Rattle.reconcile.specs.Texts.{bank_of, book_of, and_also, at_zero, recon_of, output_in}

output_at : (r : Result (List ℕ) Refusal) (was : List ℕ) → output_of r was ≡ output_in (at_zero r) was
output_at (Ok text) was = refl
output_at (Err why) was = refl

module _ (x y : List ℕ) (n room : ℕ) (a b : Statement) where
  both_read : Ok a ≡ bank_of x → Ok b ≡ book_of y → at_zero (reconciled_of Bank Book a b n room) ≡ recon_of x y n room
  unfolding recon_of
  both_read h k =
      ap (λ (r : Result Statement Refused). and_also r (λ d. at_zero (reconciled_of Bank Book a d n room))) k
      ∙ ap (λ (r : Result Statement Refused). and_also r (λ c. and_also (book_of y) (λ d. at_zero (reconciled_of Bank Book c d n room)))) h

  pub written : (was out : List ℕ) → Ok a ≡ bank_of x → Ok b ≡ book_of y → out ≡ output_of (reconciled_of Bank Book a b n room) was → out ≡ output_in (recon_of x y n room) was
  written was out h k e = e ∙ output_at (reconciled_of Bank Book a b n room) was ∙ ap (λ (r : Result (List ℕ) Refused). output_in r was) (both_read h k)
