-- What a :61: says of its entry.
use Rattle.std.specs.Prelude.{ℕ, cond, List, drop, Some, None, Ok, Err, Option, Result}
use Rattle.std.specs.Result.{result_ok}
use Rattle.domain.specs.declared.day.Day.{Day}
use Rattle.domain.specs.declared.digits.Digits.{Digits}
use Rattle.domain.specs.declared.refusal.Refusal.{Refusal}
use Rattle.domain.specs.declared.refusal.Refusal.TheVariants.{NoSuchDay, BadAmount}
use Rattle.calendar.specs.Dates.{day_in, entry_day_of}
use Rattle.mt940_fields.specs.declared.movement.Movement.{Movement}
use Rattle.mt940_cuts.specs.Cuts.{Cut, parts_of}
use Rattle.mt940_cuts.specs.Marks.{kind_of}
use Rattle.mt940_fields.specs.Signs.{amount_in}
use Rattle.mt940_cuts.specs.Tags.{is_entry_line}

-- the entry day: that of the entry date, or the value day where there is none
abbrev pub entered_on : List ℕ → Option (List ℕ) → Day → Option Day
entered_on value_date entry_date value_day = elim entry_date [ None ↦ Some value_day | Some month_day ↦ entry_day_of value_date month_day ]

-- what a :61: that has its form says of its entry: its value day, its entry day and its amount, judged in this order
unfoldable pub movement_of : Digits → Cut → Result Movement Refusal
movement_of digits p =
    elim (day_in p.value_date) [
      | None ↦ Err NoSuchDay
      | Some v ↦ elim (entered_on p.value_date p.entry_date v) [
        | None ↦ Err NoSuchDay
        | Some e ↦ elim (amount_in digits p.mark p.run) [
          | None ↦ Err BadAmount
          | Some a ↦ Ok (record { value_day = v; entry_day = e; amount = a; kind = kind_of p.mark; key = p.key })
        ]
      ]
    ]

-- what stands behind :61: states of an entry
abbrev pub stated_by : Digits → List ℕ → Option Movement
stated_by digits body = elim (parts_of body) [ None ↦ None | Some p ↦ result_ok (movement_of digits p) ]

-- what a line states of an entry, or none where it states none
unfoldable pub stated_in : Digits → List ℕ → Option Movement
stated_in digits line = cond (is_entry_line line) (stated_by digits (drop 4 line)) None
