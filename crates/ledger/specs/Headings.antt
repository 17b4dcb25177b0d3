-- What a source's statement is taken in by.
use Rattle.domain.specs.declared.entry.Side.{Side}
use Rattle.source.specs.declared.Head.{Head}
use Rattle.ledger.specs.declared.record.Heading.{Heading}

-- what remains of it opens with the balance reached
abbrev pub heading_of : Side → Head → Heading
heading_of side h = record { side = side; number = h.number; closing_day = h.closing_day; opening = h.reached }
