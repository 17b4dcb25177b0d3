use Rattle.std.proofs.Common.{◌≡◌, refl}
use Rattle.domain.specs.declared.amount.Amount.{Amount}
use Rattle.domain.specs.declared.day.Day.{Day}
use Rattle.domain.specs.declared.key.Key.{Key}
use Rattle.domain.specs.declared.entry.Item.{Item}
use Rattle.domain.specs.declared.entry.Kind.TheVariants.{Ordinary}
use Rattle.domain.specs.declared.entry.Side.TheVariants.{Bank}
use Rattle.domain.specs.Blanks.{day_zero, zero_amount, blank_key}
use Rattle.domain.proofs.Same.{day_same, amount_same}
use Rattle.domain.proofs.blank.blank.Goals as goal

abbrev made : Day → Day → Amount → Key → Item
made v d a k = record { entry = record { value_day = v; entry_day = d; amount = a; kind = Ordinary; key = k; place = record { offset = 0; length = 0 } }; side = Bank; group = 0 }

same : (v d : Day) (a : Amount) (k : Key) → v ≡ day_zero → d ≡ day_zero → a ≡ zero_amount → k ≡ blank_key → made v d a k ≡ made day_zero day_zero zero_amount blank_key
same v d a k e f g h = cc

pub returns : goal.returns
returns c = same _ _ _ _ (day_same _ _ refl) (day_same _ _ refl) (amount_same _ _ refl) c.no_key.ensures
