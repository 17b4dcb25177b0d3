use Rattle.std.proofs.Common.{sym, refl, ap, ◌∙◌}
use Rattle.domain.specs.Currencies.{is_currency}
use Rattle.domain.proofs.Same.{no_currency, as_currency_lem, made, unmade}
use Rattle.domain.proofs.Threes.{three}
use Rattle.domain.proofs.account.CurrencyTryFromRefSliceU8.try_from.Goals as goal

pub returns-then-not-is_currency : goal.returns-then-not-is_currency
returns-then-not-is_currency c = unmade _ _ (no_currency _ (sym c.if-not-is_currency.ensures.is))

pub invariant_of-result : goal.invariant_of-result
invariant_of-result c = record { capitals = ap is_currency (three c.args.code.now (c.if-not-is_currency.ensures.three refl)) ∙ sym c.if-not-is_currency.ensures.is }

pub returns : goal.returns
returns c = made _ _ _ (as_currency_lem _ c.args.code.now (three c.args.code.now (c.if-not-is_currency.ensures.three refl)))
