use Rattle.std.proofs.Common.{◌≡◌, None, Some, Err, Option, sym, ap, ◌∙◌, rules}
use Rattle.domain.specs.declared.refusal.Refusal.{Refusal}
use Rattle.ledger.specs.Denials.{answered, table_denied}
use Rattle.ledger.specs.Records.{follow_denied, side_of}
use Rattle.ledger.proofs.Answering.{passed, stopped, follows_stopped}
use Rattle.ledger.proofs.ledger.Ledger.check_take.Goals as goal

pub returns-in_err-check_follows-clause-why : goal.returns-in_err-check_follows-clause-why
returns-in_err-check_follows-clause-why c =
    let l = c.args.self.now in
    let h = c.args.heading.now in
    let n = c.args.n in
    let reached = h.opening in
    let why = c.in_err-check_follows.field-0.0 in
    let served : table_denied n l.used ≡ None = passed _ _ _ c.in_ok-check_table.ensures.why in
    let refused : follow_denied (side_of l h.side) h.number reached h.closing_day.number ≡ Some why =
    stopped (follow_denied (side_of l h.side) h.number reached h.closing_day.number) why (tt {0}) (search rules) in
    let is : c.from_residual-in_err-check_follows.result ≡ Err why = search rules in
    is ∙ ap (λ (o : Option Refusal). answered o tt) (sym (follows_stopped l n h.side h.number reached h.closing_day.number c.args.count why served refused))
