use Rattle.std.proofs.Common.{◌≡◌, ◌^◌, ◌<◌, take}
use Rattle.fields.specs.Runs.{worth}
use Rattle.fields.proofs.worth.Given as goal

abbrev pub invariant-loop-d : goal.invariant-loop-d
invariant-loop-d l = (l.w ≡ worth (take l.d-index l.ds)) × (l.w < 10 ^ l.d-index)
