-- The sums of a state, as the code adds to them.
use Rattle.std.proofs.Common.{◌≡◌, ℕ, List, ℤ, ◌+ℤ◌, IfOk, Ok, Err, Option, Result, arith, w64, to_z, of_z}
use Rattle.std.proofs.lemmas.Int.{ints}
use Rattle.domain.specs.declared.amount.Amount.{Amount}
use Rattle.domain.specs.declared.entry.Entry.{Entry}
use Rattle.domain.specs.declared.entry.Place.{Place}
use Rattle.domain.specs.declared.refusal.Refusal.{Refusal}
use Rattle.readers.proofs.Sums.{sum_is}
use Rattle.book_lines.specs.Reading.{entry_in}
use Rattle.book.specs.declared.state.State.{State}
use Rattle.book.specs.Judging.{step_of}
use Rattle.book.specs.Laws.{Went, went}
use Rattle.book.specs.Sizes.{Sound}

pub added : (s : State) (a : Amount) (r : ℤ) → Sound s → r ≡ a.minor → to_z w64 (of_z w64 (to_z w64 (of_z w64 s.sum) +ℤ to_z w64 (of_z w64 r))) ≡ s.sum +ℤ a.minor
added s a r h e = sum_is s.sum r a (omega (arith, ints, h.few, h.low, h.high)) (omega (arith, ints, h.few, h.low, h.high, a.within.0, a.within.1)) e

still : (s : State) (o : Option Entry) (r : Result State Refusal) → Sound s → IfOk r (Went s o) → IfOk r Sound
still s o (Ok u) h w = w.sound h
still s o (Err why) h w = tt

-- a line that is not refused keeps them small
pub step_sound : (s : State) (line : List ℕ) (r : Result State Refusal) → Sound s → r ≡ step_of s line → IfOk r Sound
step_sound s line r h e =
    let place : Place = record { offset = 0; length = 0 } in
    rw e (still s (entry_in place line) (step_of s line) h (went s place line))
