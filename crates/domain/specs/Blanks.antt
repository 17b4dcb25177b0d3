-- The blank item: all zero, ordinary, bank.
use Rattle.std.specs.Prelude.{[], pos, refl}
use Rattle.std.proofs.Common.{zero-le}
use Rattle.domain.specs.declared.amount.Amount.{Amount}
use Rattle.domain.specs.declared.day.Day.{Day}
use Rattle.domain.specs.declared.key.Key.{Key}
use Rattle.domain.specs.declared.entry.Entry.{Entry}
use Rattle.domain.specs.declared.entry.Item.{Item}
use Rattle.domain.specs.declared.entry.Kind.TheVariants.{Ordinary}
use Rattle.domain.specs.declared.entry.Side.TheVariants.{Bank}

abbrev pub zero_amount : Amount
zero_amount = record { minor = pos 0; within = (record { le = tt }, record { le = tt }) }

abbrev pub day_zero : Day
day_zero = record { number = 0; within = zero-le }

abbrev pub blank_key : Key
blank_key = record { high = 0; low = 0; real = ∣ ([], refl, refl, refl) ∣₁ }

abbrev pub blank_entry : Entry
blank_entry = record { value_day = day_zero; entry_day = day_zero; amount = zero_amount; kind = Ordinary; key = blank_key; place = record { offset = 0; length = 0 } }

abbrev pub blank : Item
blank = record { entry = blank_entry; side = Bank; group = 0 }
