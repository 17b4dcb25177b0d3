-- What a call answers that gives back the ledger where it refuses, and the table that it leaves, as a desk or a refusal.
use Rattle.std.proofs.Common.{◌≡◌, List, Some, None, Ok, Err, Option, Result}
use Rattle.std.specs.Result.{IsErrAnd}
use Rattle.domain.specs.declared.entry.Item.{Item}
use Rattle.domain.specs.declared.refusal.Refusal.{Refusal}
use Rattle.ledger.specs.declared.denied.Denied.{Denied}
use Rattle.ledger.specs.declared.ledger.Ledger.{Ledger}
use Rattle.ledger.specs.Denials.{answered, handed, unless}
use Rattle.reconcile.specs.Steps.{Desk, paired}

abbrev desk : Ledger → List Item → Desk
desk l t = record { ledger = l; table = t }

module _ (o : Option Refusal) (after was : Ledger) (new old t : List Item) where
  pub handed_ok : (l : Ledger) → Ok l ≡ handed o after was → t ≡ unless o new old → ◌≡◌ {A = Result Desk Refusal} (Ok (desk l t)) (answered o (desk after new))
  handed_ok l e f = elim o as (λ p. Ok l ≡ handed p after was → t ≡ unless p new old → ◌≡◌ {A = Result Desk Refusal} (Ok (desk l t)) (answered p (desk after new))) [ None ↦ λ x y. cc | Some why ↦ λ x y. cc ] e f

  pub handed_err : (denied : Denied Ledger) (r : Result Ledger Refusal) → Err denied ≡ handed o after was → IsErrAnd r (λ why. why ≡ denied.why) → paired r t ≡ answered o (desk after new)
  handed_err denied (Ok l) e f = absurd f
  handed_err denied (Err why) e f = elim o as (λ p. Err denied ≡ handed p after was → ◌≡◌ {A = Result Desk Refusal} (Err why) (answered p (desk after new))) [ None ↦ λ x. cc | Some w ↦ λ x. cc ] e
