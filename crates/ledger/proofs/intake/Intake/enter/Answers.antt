use Rattle.std.proofs.Common.{Option, sym, ap, ◌∙◌, rules}
use Rattle.domain.specs.declared.refusal.Refusal.{Refusal}
use Rattle.ledger.specs.Denials.{unless}
use Rattle.ledger.specs.Intakes.{entered}
use Rattle.ledger.proofs.Answering.{passed}
use Rattle.ledger.proofs.intake.Intake.enter.Goals as goal

pub returns-clause-intake : goal.returns-clause-intake
returns-clause-intake c =
    search rules ∙ ap (λ (o : Option Refusal). unless o (entered c.args.self.now c.args.entry) c.args.self.now) (sym (passed _ _ _ c.in_ok-check_enter.ensures.why))
