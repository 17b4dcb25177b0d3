use Rattle.std.proofs.Common.{sym}
use Rattle.domain.proofs.Same.{as_key_lem, no_key, made, unmade}
use Rattle.domain.proofs.reference.KeyTryFromRefSliceU8.try_from.Goals as goal

pub returns-then-not-is_reference : goal.returns-then-not-is_reference
returns-then-not-is_reference c = unmade _ _ (no_key _ (sym c.if-not-is_reference.ensures))

pub invariant_of-result : goal.invariant_of-result
invariant_of-result c = record { real = ∣ (c.args.reference.now, sym c.if-not-is_reference.ensures, sym c.words-high.ensures.high, sym c.words-high.ensures.low) ∣₁ }

pub returns : goal.returns
returns c = made _ _ _ (as_key_lem _ c.args.reference.now (sym c.if-not-is_reference.ensures) c.words-high.ensures.high c.words-high.ensures.low)
