-- Items that no group has.
use Rattle.std.specs.Prelude.{Bool, ◌&&◌, ◌==◌}
use Rattle.domain.specs.declared.entry.Side.{Side}
use Rattle.domain.specs.declared.entry.Entry.{Entry}
use Rattle.domain.specs.declared.entry.Item.{Item}
use Rattle.domain.specs.Entries.{same_side}

-- an entry as an item of a side that no group has
abbrev pub outstanding_item : Side → Entry → Item
outstanding_item side e = record { entry = e; side = side; group = 0 }

abbrev pub outstanding : Item → Bool
outstanding x = x.group == 0

-- outstanding, and of this side
abbrev pub open_on : Side → Item → Bool
open_on s x = same_side x.side s && outstanding x
