use Rattle.fields.proofs.Begun.{begins, stands}
use Rattle.fields.proofs.Values.{worth_places}
use Rattle.figures.proofs.comma_amounts_stand.Goals as goal

pub returns : goal.returns
returns c = record { read = λ digits text a n. (begins digits text a n, stands digits text a n); places = worth_places }
