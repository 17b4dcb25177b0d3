use Rattle.std.proofs.Common.{refl}
use Rattle.domain.specs.Makers.{as_day}
use Rattle.calendar.specs.Calendar.{first_of}
use Rattle.calendar.specs.Dates.{day_in}
use Rattle.calendar.proofs.Inverse.{back, date_length, forth}
use Rattle.calendar.proofs.calendar_stands.Goals as goal

pub returns : goal.returns
unfolding day_in as_day first_of
returns c = record { last = refl; leap = refl; back = back; six = date_length; forth = forth }
