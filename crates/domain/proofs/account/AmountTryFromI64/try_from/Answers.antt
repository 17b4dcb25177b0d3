use Rattle.std.proofs.Common.{sym, ap, ◌∙◌, w64}
use Rattle.std.proofs.lemmas.Int.{to_z-of_z}
use Rattle.domain.specs.Makers.{as_amount, is_amount}
use Rattle.domain.proofs.Same.{as_amount_lem, no_amount, amount_within, made, unmade}
use Rattle.domain.proofs.account.AmountTryFromI64.try_from.Goals as goal

pub returns-then-not-is_amount : goal.returns-then-not-is_amount
returns-then-not-is_amount c = unmade _ _ (no_amount c.args.raw (sym (c.if-not-is_amount.ensures ∙ ap is_amount (to_z-of_z w64 c.args.raw c.ranges.raw))))

pub invariant_of-result : goal.invariant_of-result
invariant_of-result c = record { within = amount_within _ (sym c.if-not-is_amount.ensures) }

pub returns : goal.returns
returns c = made _ _ _ (sym (ap as_amount (to_z-of_z w64 c.args.raw c.ranges.raw)) ∙ as_amount_lem _)
