-- The laws of MT940 as a format: what a line that is not refused does to the sums, and what they are at the end.
use Rattle.std.specs.Prelude.{◌≡◌, ℕ, true, List, ℤ, pos, Some, None, Ok, Option, refl}
use Rattle.std.proofs.Common.{ap, ◌∙◌, subst, arith}
use Rattle.std.proofs.lemmas.Int.{ints}
use Rattle.std.proofs.lemmas.Bool.{false≢true}
use Rattle.std.proofs.lemmas.Result.{IfOk-at_ok}
use Rattle.std.specs.Option.{option_map}
use Rattle.domain.specs.declared.entry.Place.{Place}
use Rattle.text.specs.Lines.{content_of}
use Rattle.domain.specs.declared.account.Account.{Account}
use Rattle.readers.specs.Tallies as readers
use Rattle.mt940_fields.specs.declared.movement.Movement.{Movement}
use Rattle.mt940_fields.specs.Movements.{stated_in}
use Rattle.mt940_pages.specs.declared.state.State.{State}
use Rattle.mt940_pages.specs.Judging.{is_done, step_of}
use Rattle.mt940_pages.proofs.Goings.{Went, went_step, sum_with, count_with, last_closed}
use Rattle.mt940.specs.Entries.{entry_at, place_of, stated_at}
use Rattle.mt940.specs.Tallies.{Tallies}
use Rattle.mt940.specs.Whole.{begin_for, head_of}

-- a movement's place changes no sum
placed_sum : (o : Option Movement) (z : ℤ) (place : Place) → sum_with z o ≡ readers.sum_with z (option_map (entry_at place) o)
placed_sum None z place = refl
placed_sum (Some m) z place = refl

placed_count : (o : Option Movement) (n : ℕ) (place : Place) → count_with n o ≡ readers.count_with n (option_map (entry_at place) o)
placed_count None n place = refl
placed_count (Some m) n place = refl

-- before the first line no entry has come
pub starts : (account : Account) → Tallies account (pos 0) 0 (begin_for account)
starts account = record {
  digits = refl;
  moved = refl;
  count = refl;
  sound = record { few = omega arith; low = omega (arith, ints); high = omega (arith, ints); numbered = (omega arith, omega arith); balanced = λ f. absurd (false≢true f) };
}

-- a line that is not refused adds just the entry that it states
pub adds : (account : Account) (z : ℤ) (n : ℕ) (s u : State) (line : ℕ × List ℕ) (behind : List (ℕ × List ℕ)) → Tallies account z n s → step_of s (content_of line.1) ≡ Ok u →
    Tallies account (readers.sum_with z (stated_at account line behind)) (readers.count_with n (stated_at account line behind)) u
adds account z n s u line behind t e =
    let o : Option Movement = stated_in account.digits (content_of line.1) in
    let w : Went s o u = subst (λ d. Went s (stated_in d (content_of line.1)) u) t.digits (IfOk-at_ok (Went s (stated_in s.account.digits (content_of line.1))) e (went_step s (content_of line.1))) in
    let place : Place = place_of line behind in
    record {
      digits = w.digits ∙ t.digits;
      moved = w.moved ∙ ap (λ (y : ℤ). sum_with y o) t.moved ∙ placed_sum o z place;
      count = w.count ∙ ap (λ (k : ℕ). count_with k o) t.count ∙ placed_count o n place;
      sound = w.sound t.sound;
    }

-- at the end the entries lead from the opening to the closing
pub closes : (account : Account) (z : ℤ) (n : ℕ) (s : State) → Tallies account z n s → is_done s ≡ true → readers.Closes z n (head_of s)
closes account z n s t d =
    let k = t.sound in
    let b = k.balanced (last_closed s.stage d) in
    record { numbered = k.numbered; balanced = omega (arith, ints, b, t.moved); counted = t.count; few = omega (arith, k.few, t.count) }
