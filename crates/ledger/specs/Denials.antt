-- Why a call is refused, if it is, and what it answers and leaves by that.
use Rattle.std.specs.Prelude.{ℕ, Bool, cond, ◌||◌, Some, None, Ok, Err, Option, Result, ◌==◌, nat_lt}
use Rattle.domain.specs.declared.refusal.Refusal.{Refusal}
use Rattle.domain.specs.declared.refusal.Refusal.TheVariants.{BadTable}
use Rattle.ledger.specs.declared.denied.Denied.{Denied}

-- refused for this where a test holds, else as the rest says: tests stand in the order of their numbers, so the smallest is given
abbrev pub refused_if : Bool → Refusal → Option Refusal → Option Refusal
refused_if test why rest = cond test (Some why) rest

-- a table of n positions has none, more than 8,192 or fewer than are in use
abbrev pub bad_table : ℕ → ℕ → Bool
bad_table n used = n == 0 || (nat_lt 8192 n || nat_lt n used)

abbrev pub table_denied : ℕ → ℕ → Option Refusal
table_denied n used = refused_if (bad_table n used) BadTable None

-- what a call answers
abbrev pub answered : {X : Type 0} → Option Refusal → X → Result X Refusal
answered None x = Ok x
answered (Some why) x = Err why

-- what a call answers that was given a value, which it gives back where it refuses
abbrev pub handed : {X Y : Type 0} → Option Refusal → X → Y → Result X (Denied Y)
handed None x y = Ok x
handed (Some why) x y = Err (record { given = y; why = why })

-- what a call leaves: the new, or where it refuses the old
abbrev pub unless : {X : Type 0} → Option Refusal → X → X → X
unless None new old = new
unless (Some why) new old = old
