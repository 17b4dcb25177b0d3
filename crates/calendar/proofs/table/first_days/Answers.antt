use Rattle.std.proofs.Common.{refl}
use Rattle.calendar.proofs.Steps.{table_at}
use Rattle.calendar.proofs.table.first_days.Goals as goal

pub returns : goal.returns
returns c = record { months = refl; each = table_at }
