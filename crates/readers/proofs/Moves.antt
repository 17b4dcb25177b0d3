-- A reader that goes on to the next entry, and what it means then.
use Rattle.std.proofs.Common.{◌≡◌, ℕ, ◌-◌, ◌≤◌, List, [], ◌∷◌, length, ℤ, ◌+ℤ◌, Some, None, Option, sym, ap, subst, arith, w64, SFits, to_z, of_z}
use Rattle.domain.specs.declared.entry.Entry.{Entry}
use Rattle.source.specs.Statement.{Lawful, first, first_of, moved}
use Rattle.source.proofs.Sums.{lawful_fits, lawful_moved}
use Rattle.text.specs.declared.Lines.{Lines}
use Rattle.text.specs.Left.{lines_left}
use Rattle.domain.specs.declared.account.Account.{Account}
use Rattle.readers.specs.declared.passage.TheConstants.{LONGEST}
use Rattle.readers.specs.declared.Reader.{Reader}
use Rattle.readers.specs.Entries.{entries_of}
use Rattle.readers.specs.Within.{Within}
use Rattle.readers.proofs.Sums.{sum_fits, sum_is}
use Rattle.readers.specs.Whole.{meaning_of, Ready}

module _ {F : Type 0} (stated : Account → ℕ × List ℕ → List (ℕ × List ℕ) → Option Entry) (r : Reader F) where
  -- the entries in the lines that are left
  abbrev before : List Entry
  before = entries_of (stated r.account) (lines_left r.lines)

  -- where none is left, nothing moves
  module _ (none : before ≡ []) where
    pub none_first : None ≡ first_of (meaning_of stated r)
    unfolding meaning_of
    none_first = ap first (sym none)

    pub none_moves : meaning_of stated r ≡ moved (meaning_of stated r)
    unfolding meaning_of
    none_moves = rw none

  module _ (ready : Ready stated r) (lines : Lines) (short : Within LONGEST (lines_left lines)) (x : Entry) (e : before ≡ x ∷ entries_of (stated r.account) (lines_left lines)) (minor : ℤ) (is : minor ≡ x.amount.minor) where
    pub entry_first : Some x ≡ first_of (meaning_of stated r)
    unfolding meaning_of
    entry_first = ap first (sym e)

    pub entry_some : 1 ≤ r.head.count
    unfolding meaning_of
    entry_some = omega (arith, ready.counted, ap length e)

    reached_fits : SFits w64 r.head.reached
    unfolding meaning_of
    reached_fits = lawful_fits (meaning_of stated r) ready.lawful

    entry_fits : SFits w64 (r.head.reached +ℤ x.amount.minor)
    unfolding meaning_of
    entry_fits = let f = lawful_fits (moved (meaning_of stated r)) (lawful_moved (meaning_of stated r) ready.lawful) in rw e at f

    pub entry_adds : SFits w64 (to_z w64 (of_z w64 r.head.reached) +ℤ to_z w64 (of_z w64 minor))
    entry_adds = sum_fits _ _ x.amount reached_fits entry_fits is

    -- the reader one entry on, the balance that it has reached as the code adds it
    abbrev onward : Reader F
    onward = record {
      lines = lines;
      account = r.account;
      head = record {
        number = r.head.number;
        opening_day = r.head.opening_day;
        closing_day = r.head.closing_day;
        reached = to_z w64 (of_z w64 (to_z w64 (of_z w64 r.head.reached) +ℤ to_z w64 (of_z w64 minor)));
        closing = r.head.closing;
        count = r.head.count - 1;
      };
      format = r.format;
    }

    pub entry_moves : meaning_of stated onward ≡ moved (meaning_of stated r)
    unfolding meaning_of
    entry_moves = let z = sum_is _ _ x.amount reached_fits entry_fits is in rw (e, z)

    entry_counts : r.head.count - 1 ≡ length (meaning_of stated onward).remaining
    unfolding meaning_of
    entry_counts = omega (arith, ready.counted, ap length e)

    pub entry_ready : Ready stated onward
    entry_ready = record { short = short; counted = entry_counts; lawful = subst Lawful (sym entry_moves) (lawful_moved (meaning_of stated r) ready.lawful) }
