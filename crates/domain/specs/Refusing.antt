-- A refusal at an offset of its text, and the line that says so.
use Rattle.std.specs.Prelude.{ℕ, List, ◌++◌, codes, decimal}
use Rattle.domain.specs.declared.refusal.Refusal.{Refusal}
use Rattle.domain.specs.declared.refusal.Refused.{Refused}
use Rattle.domain.specs.Refusals.{number_of}

abbrev pub refused_at : Refusal → ℕ → Refused
refused_at why offset = record { why = why; offset = offset }

abbrev pub refused_line : Refused → List ℕ
refused_line refused = codes "REFUSED," ++ decimal (number_of refused.why) ++ codes "," ++ decimal refused.offset
