-- What holds of an answer that is made by steps.
use Rattle.std.proofs.Common.{◌≡◌, IfOk, Some, None, Ok, Err, Option, Result, refl}
use Rattle.domain.specs.declared.refusal.Refusal.{Refusal}
use Rattle.mt940_pages.specs.Judging.{need, and_then}

module _ {X Y : Type 0} (P : Y → Type 0) (f : X → Result Y Refusal) where
  pub made_need : (o : Option X) (why : Refusal) → ((x : X) → o ≡ Some x → IfOk (f x) P) → IfOk (need o why f) P
  made_need None why h = tt
  made_need (Some x) why h = h x refl

  pub made_then : (r : Result X Refusal) → ((x : X) → r ≡ Ok x → IfOk (f x) P) → IfOk (and_then r f) P
  made_then (Ok x) h = h x refl
  made_then (Err why) h = tt
