use Rattle.std.proofs.Common.{sym}
use Rattle.domain.proofs.Same.{as_day_lem, no_day, day_within, made, unmade}
use Rattle.domain.proofs.account.DayTryFromU16.try_from.Goals as goal

pub returns-then-not-is_day : goal.returns-then-not-is_day
returns-then-not-is_day c = unmade _ _ (no_day _ (sym c.if-not-is_day.ensures))

pub invariant_of-result : goal.invariant_of-result
invariant_of-result c = record { within = day_within _ (sym c.if-not-is_day.ensures) }

pub returns : goal.returns
returns c = made _ _ _ (as_day_lem _)
