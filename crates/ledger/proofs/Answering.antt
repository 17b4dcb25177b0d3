-- What is known of a denial by what a check answered.
use Rattle.std.proofs.Common.{◌≡◌, ℕ, ◌+◌, nat_lt, Bool, true, false, ℤ, Some, None, Ok, Err, Option, Result, refl, sym, ap, ◌∙◌}
use Rattle.domain.specs.declared.entry.Side.{Side}
use Rattle.domain.specs.declared.refusal.Refusal.{Refusal}
use Rattle.domain.specs.declared.refusal.Refusal.TheVariants.{BadTable, NoRoom}
use Rattle.ledger.specs.declared.ledger.Ledger.{Ledger}
use Rattle.ledger.specs.declared.denied.Denied.{Denied}
use Rattle.ledger.specs.Denials.{answered, bad_table, handed, refused_if, table_denied, unless}
use Rattle.ledger.specs.Records.{if_ok, side_of, follow_denied}
use Rattle.source.specs.declared.Head.{Head}
use Rattle.source.specs.Statement.{Statement, HeadOf}
use Rattle.ledger.specs.declared.record.Heading.{Heading}
use Rattle.ledger.specs.Headings.{heading_of}
use Rattle.ledger.specs.Takings.{room_denied, take_denied}
use Rattle.std.specs.Option.{option_or}

pub passed : {X : Type 0} (o : Option Refusal) (x y : X) → Ok x ≡ answered o y → o ≡ None
passed None x y e = refl
passed (Some why) x y e = cc

pub stopped : {X : Type 0} (o : Option Refusal) (why : Refusal) (x : X) → Err why ≡ answered o x → o ≡ Some why
stopped None why x e = cc
stopped (Some w) why x e = let s : why ≡ w = cc in ap Some (sym s)

-- what is left, by the answer
pub unless_by : {X : Type 0} (o : Option Refusal) (new old : X) → unless o new old ≡ if_ok (answered o (tt {0})) new old
unless_by None new old = refl
unless_by (Some why) new old = refl

-- what is given back, by the answer
abbrev pub given_back : {X Y : Type 0} → Result (Unit {0}) Refusal → X → Y → Result X (Denied Y)
given_back (Ok u) x y = Ok x
given_back (Err why) x y = Err (record { given = y; why = why })

pub handed_by : {X Y : Type 0} (o : Option Refusal) (x : X) (y : Y) → handed o x y ≡ given_back (answered o (tt {0})) x y
handed_by None x y = refl
handed_by (Some why) x y = refl

-- behind a table that serves, the rest decides
pub table_passed : (n used : ℕ) (rest : Option Refusal) → table_denied n used ≡ None → refused_if (bad_table n used) BadTable rest ≡ rest
table_passed n used rest e = served (bad_table n used) e
  where
    served : (b : Bool) → refused_if b BadTable None ≡ None → refused_if b BadTable rest ≡ rest
    served true e = cc
    served false e = refl

-- a record that refuses what follows refuses the whole
pub follows_stopped : (l : Ledger) (n : ℕ) (side : Side) (number : ℕ) (reached : ℤ) (day count : ℕ) (why : Refusal) → table_denied n l.used ≡ None → follow_denied (side_of l side) number reached day ≡ Some why
    → room_denied l n side number reached day count ≡ Some why
follows_stopped l n side number reached day count why t f =
    table_passed n l.used _ t ∙ ap (λ (o : Option Refusal). option_or o (refused_if (nat_lt n (l.used + count)) NoRoom None)) f

-- the side and the head of a source say all that decides
pub head_denied : (l : Ledger) (n : ℕ) (g : Heading) (a b : Side) (s : Statement) (h : Head) → g ≡ heading_of a h → a ≡ b → HeadOf s h → room_denied l n g.side g.number g.opening g.closing_day.number h.count ≡ take_denied l n b s
head_denied l n g a b s h m p e =
    (λ i. room_denied l n (m i).side (m i).number (m i).opening (m i).closing_day.number h.count) ∙ (λ i. room_denied l n (p i) (e.number i) (e.reached i) (e.closing_day i).number (e.count i))
