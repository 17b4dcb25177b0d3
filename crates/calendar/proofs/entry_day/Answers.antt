use Rattle.std.proofs.Common.{sym, ap, ◌∙◌, arith}
use Rattle.calendar.specs.Dates.{day_in}
use Rattle.calendar.proofs.Inverse.{entry_some}
use Rattle.calendar.proofs.Twos.{year_first}
use Rattle.calendar.proofs.entry_day.Goals as goal

pub returns-in-len2-up-len4 : goal.returns-in-len2-up-len4
returns-in-len2-up-len4 c =
    let v = c.args.value_date.now in
    let m = c.args.month_day.now in
    c.day_in.ensures ∙ ap day_in (year_first v m (grind arith) (grind arith)) ∙ sym (entry_some v m (grind arith))
