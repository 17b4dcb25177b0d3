-- An open intake: begun, entered into, and posted or withdrawn.
use Rattle.std.specs.Prelude.{ℕ, ◌+◌, ◌-◌, Bool, not, ◌||◌, List, ◌++◌, take, drop, replicate, ℤ, ◌+ℤ◌, None, Option, nat_le, nat_lt, slice_set}
use Rattle.std.specs.Int.{saturate_to_bits}
use Rattle.domain.specs.declared.amount.Amount.{Amount}
use Rattle.domain.specs.declared.day.Day.{Day}
use Rattle.domain.specs.declared.entry.Side.{Side}
use Rattle.domain.specs.declared.entry.Entry.{Entry}
use Rattle.domain.specs.declared.entry.Item.{Item}
use Rattle.domain.specs.declared.refusal.Refusal.{Refusal}
use Rattle.domain.specs.declared.refusal.Refusal.TheVariants.{BadNumber, TooMuch, BadTable, NoRoom, PostingUnbalanced}
use Rattle.domain.specs.Blanks.{blank}
use Rattle.domain.specs.Entries.{same_int}
use Rattle.domain.specs.Items.{outstanding_item}
use Rattle.domain.specs.Limits.{is_number}
use Rattle.ledger.specs.declared.ledger.Ledger.{Ledger}
use Rattle.ledger.specs.declared.intake.Intake.{Intake}
use Rattle.ledger.specs.Denials.{refused_if, bad_table}
use Rattle.ledger.specs.Records.{side_of, follow_denied, settled}

abbrev pub begin_denied : Ledger → ℕ → Side → ℕ → Day → ℤ → Option Refusal
begin_denied l n side number day opening =
    refused_if (not (is_number number)) BadNumber
    (refused_if (bad_table n l.used) BadTable
    (follow_denied (side_of l side) number opening day.number))

-- the balance reached is the opening, and no position is filled yet
abbrev pub begun : Ledger → Side → ℕ → Day → ℤ → Intake
begun l side number day opening =
    record { ledger = l; heading = record { side = side; number = number; closing_day = day; opening = opening }; reached = opening; filled = l.used }

-- the table lacks positions that the intake filled, or (as no begin makes it) the intake has fewer than its ledger uses
abbrev pub bad_intake : ℕ → Intake → Bool
bad_intake n i = bad_table n i.filled || nat_lt i.filled i.ledger.used

-- the positions filled since begin
abbrev pub entered_count : Intake → ℕ
entered_count i = i.filled - i.ledger.used

abbrev pub enter_denied : Intake → ℕ → Option Refusal
enter_denied i n =
    refused_if (nat_le 4096 (entered_count i)) TooMuch
    (refused_if (bad_intake n i) BadTable
    (refused_if (nat_le n i.filled) NoRoom None))

-- The total stays at the end of its range where it would leave it; 4,096 amounts never lead there.
abbrev pub entered : Intake → Entry → Intake
entered i e = record i { reached = saturate_to_bits 63 (i.reached +ℤ e.amount.minor); filled = i.filled + 1 }

abbrev pub entered_table : Intake → Entry → List Item → List Item
entered_table i e t = slice_set t i.filled (outstanding_item i.heading.side e)

abbrev pub post_denied : Intake → ℕ → Amount → Option Refusal
post_denied i n closing = refused_if (bad_intake n i) BadTable (refused_if (not (same_int closing.minor i.reached)) PostingUnbalanced None)

abbrev pub posted_ledger : Intake → Amount → Ledger
posted_ledger i closing = settled i.ledger i.heading.side i.heading.number i.heading.closing_day closing i.filled

abbrev pub withdraw_denied : Intake → ℕ → Option Refusal
withdraw_denied i n = refused_if (bad_intake n i) BadTable None

-- the positions filled since begin are blank again
abbrev pub withdrawn_table : Intake → List Item → List Item
withdrawn_table i t = take i.ledger.used t ++ (replicate (entered_count i) blank ++ drop i.filled t)
