use Rattle.std.proofs.Common.{◌≡◌, length, None, Ok, Option, sym, ap, ◌∙◌, arith, rules, w64, to_z, of_z}
use Rattle.std.proofs.lemmas.Int.{ints}
use Rattle.domain.specs.declared.refusal.Refusal.{Refusal}
use Rattle.ledger.specs.declared.intake.Intake.{Intake}
use Rattle.ledger.specs.Denials.{answered, handed}
use Rattle.ledger.specs.Intakes.{begin_denied, begun}
use Rattle.ledger.proofs.Answering.{passed}
use Rattle.ledger.proofs.ledger.Ledger.begin.Goals as goal

pub returns : goal.returns
returns c =
    let l = c.args.self in
    let z : to_z w64 (of_z w64 c.minor.result) ≡ c.args.opening.minor = omega (arith, ints, c.minor.ensures) in
    let denied = begin_denied l (length c.args.table.now) c.args.side c.args.number c.args.closing_day in
    let served : denied c.args.opening.minor ≡ None =
    passed _ _ (tt {0}) (search rules ∙ c.check_begin.ensures ∙ (λ i. answered (denied (z i)) (tt {0}))) in
    ap (λ (x : Intake). Ok x) (c.start.ensures ∙ (λ i. begun l c.args.side c.args.number c.args.closing_day (z i)))
    ∙ ap (λ (o : Option Refusal). handed o (begun l c.args.side c.args.number c.args.closing_day c.args.opening.minor) l) (sym served)
