-- Folding and matching the items that a ledger uses.
use Rattle.std.specs.Prelude.{List, ◌++◌, take, drop}
use Rattle.domain.specs.declared.entry.Item.{Item}
use Rattle.ledger.specs.declared.ledger.Ledger.{Ledger}

-- the items in use, and a change of these alone
abbrev pub live : Ledger → List Item → List Item
live l t = take l.used t

abbrev pub on_live : (List Item → List Item) → Ledger → List Item → List Item
on_live change l t = change (live l t) ++ drop l.used t
