-- The laws of the cash book as a format: what a line that is not refused does to the sums, and what they are at the end.
use Rattle.std.specs.Prelude.{◌≡◌, ℕ, Bool, true, false, List, ℤ, pos, IfOk, Some, None, Ok, Option, Result, ◌==◌, nat_lt, refl}
use Rattle.std.specs.Option.{ok_or}
use Rattle.std.proofs.Common.{leb, sym, arith}
use Rattle.std.proofs.lemmas.Int.{ints}
use Rattle.std.proofs.lemmas.Bool.{and_parts, both_ways, leb-true, ltb-true, false≢true, true≢false}
use Rattle.std.proofs.lemmas.Result.{IfOk-at_ok}
use Rattle.domain.specs.declared.entry.Entry.{Entry}
use Rattle.domain.specs.declared.entry.Place.{Place}
use Rattle.domain.specs.declared.refusal.Refusal.{Refusal}
use Rattle.domain.specs.declared.refusal.Refusal.TheVariants.{Form, Misplaced, NoSuchDay, BadAmount, BadNumber, WrongCount, TooMuch}
use Rattle.domain.proofs.Sames.{decides_same_int}
use Rattle.domain.specs.Accounts.{and_then}
use Rattle.domain.specs.Limits.{is_number}
use Rattle.text.specs.Lines.{content_of}
use Rattle.domain.specs.declared.account.Account.{Account}
use Rattle.readers.specs.Tallies.{sum_with, count_with, Closes}
use Rattle.book_lines.specs.declared.line.Closing.{Closing}
use Rattle.book_lines.specs.declared.line.Line.{Line}
use Rattle.book_lines.specs.declared.line.Line.TheVariants.{Opens, Enters, Closes as Shuts}
use Rattle.book_lines.specs.declared.line.Opening.{Opening}
use Rattle.book_lines.specs.declared.line.Row.{Row}
use Rattle.book_lines.specs.Reading.{line_of, entry_of, entry_in}
use Rattle.book.specs.declared.state.Stage.{Stage}
use Rattle.book.specs.declared.state.Stage.TheVariants.{Start, Within, Done}
use Rattle.book.specs.declared.state.State.{State}
use Rattle.book.specs.Judging.{demand, opened_state, entered_state, closed_state, is_start, is_within, is_done, opened_of, entered_of, closed_of, judged_of, step_of}
use Rattle.book.specs.Sizes.{Sound}
use Rattle.book.specs.Tallies.{Tallies}
use Rattle.book.specs.Whole.{begin_for, head_of, place_of, stated_at}

-- what follows a test that is met, and a value that is given
met : {A : Type 0} (P : A → Type 0) (test : Bool) (why : Refusal) (next : Result A Refusal) → (test ≡ true → IfOk next P) → IfOk (demand test why next) P
met P true why next h = h refl
met P false why next h = tt

known : {X A : Type 0} (P : A → Type 0) (o : Option X) (why : Refusal) (next : X → Result A Refusal) → ((x : X) → o ≡ Some x → IfOk (next x) P) → IfOk (and_then (ok_or o why) next) P
known P (Some x) why next h = h x refl
known P None why next h = tt

within_not_start : (g : Stage) → is_within g ≡ true → is_start g ≡ false
within_not_start Start e = absurd (false≢true e)
within_not_start Within e = refl
within_not_start Done e = absurd (false≢true e)

within_not_done : (g : Stage) → is_within g ≡ true → elim g as (λ _. Bool) [ Start ↦ false | Within ↦ false | Done ↦ true ] ≡ true → ⊥
within_not_done Start w d = false≢true w
within_not_done Within w d = false≢true d
within_not_done Done w d = false≢true w

done_not_start : (g : Stage) → elim g as (λ _. Bool) [ Start ↦ false | Within ↦ false | Done ↦ true ] ≡ true → is_start g ≡ false
done_not_start Start d = absurd (false≢true d)
done_not_start Within d = refl
done_not_start Done d = refl

-- from one state to the next, by a line that states this entry, or none
pub record Went (s : State) (o : Option Entry) (u : State) : Type 0 where
  pub sound : Sound s → Sound u
  pub tallies : (z : ℤ) (n : ℕ) → Tallies z n s → Tallies (sum_with z o) (count_with n o) u

opened : (s : State) (o : Opening) → IfOk (opened_of s o) (Went s None)
opened s o =
    let P : State → Type 0 = Went s None in
    met P _ _ _
    (λ a. known P o.day _ _
    (λ day _. known P o.amount _ _
    (λ amount _. met P _ _ _
    (λ _. met P (is_number o.number) BadNumber (Ok (opened_state s o (record { day = day; amount = amount })))
    (λ b. record {
      sound = λ _. record { few = omega arith; low = omega (arith, ints, amount.within.0); high = omega (arith, ints, amount.within.1) };
      tallies = λ z n t. record {
        summed = omega (arith, ints, (t.started a).0);
        counted = sym (t.started a).1;
        few = t.few;
        started = λ f. absurd (false≢true f);
        numbered = λ _. b;
        closed = λ f. absurd (false≢true f);
      };
    })))))

entered : (s : State) (row : Row) (place : Place) → IfOk (entered_of s row) (Went s (entry_of place (Enters row)))
entered s row place =
    let P : State → Type 0 = Went s (entry_of place (Enters row)) in
    met P (is_within s.stage) Misplaced _
    (λ a. known P row.value_day NoSuchDay _
    (λ value v. known P row.entry_day NoSuchDay _
    (λ day d. known P row.amount BadAmount _
    (λ amount m. met P (nat_lt s.count 4096) TooMuch (Ok (entered_state s amount))
    (λ room.
    let one : Entry = record { value_day = value; entry_day = day; amount = amount; kind = row.kind; key = row.key; place = place } in
    let q : entry_of place (Enters row) ≡ Some one = rw (v, d, m) in
    let few = ltb-true _ _ room in
    rw q (record {
      sound = λ h. record { few = omega arith; low = omega (arith, ints, h.low, amount.within.0); high = omega (arith, ints, h.high, amount.within.1) };
      tallies = λ z n t. record {
        summed = omega (arith, ints, t.summed);
        counted = omega (arith, t.counted);
        few = omega (arith, t.counted, few);
        started = λ f. absurd (both_ways _ (within_not_start s.stage a) f);
        numbered = t.numbered;
        closed = λ f. absurd (within_not_done s.stage a f);
      };
    }))))))

closed : (s : State) (z : Closing) → IfOk (closed_of s z) (Went s None)
closed s z =
    let P : State → Type 0 = Went s None in
    met P _ _ _
    (λ a. known P z.day _ _
    (λ day _. known P z.amount _ _
    (λ amount _. met P _ _ _
    (λ b. met P (z.count == s.count) WrongCount (Ok (closed_state s (record { day = day; amount = amount })))
    (λ _. record {
      sound = λ h. record { few = h.few; low = h.low; high = h.high };
      tallies = λ y n t. record {
        summed = t.summed;
        counted = t.counted;
        few = t.few;
        started = λ f. absurd (false≢true f);
        numbered = λ _. t.numbered (within_not_start s.stage a);
        closed = λ _. (decides_same_int amount.minor s.sum).0 b;
      };
    })))))

judged : (s : State) (place : Place) (x : Line) → IfOk (judged_of s x) (Went s (entry_of place x))
judged s place (Opens o) = opened s o
judged s place (Enters row) = entered s row place
judged s place (Shuts z) = closed s z

pub went : (s : State) (place : Place) (line : List ℕ) → IfOk (step_of s line) (Went s (entry_in place line))
went s place line =
    known (Went s (entry_in place line)) (line_of line) Form (judged_of s)
    (λ x e. rw e (judged s place x))

-- before the first line no entry has come
pub starts : (account : Account) → Tallies (pos 0) 0 (begin_for account)
starts account = record { summed = refl; counted = refl; few = omega arith; started = λ _. (refl, refl); numbered = λ f. absurd (true≢false f); closed = λ f. absurd (false≢true f) }

-- a line that is not refused adds just the entry that it states
pub adds : (account : Account) (z : ℤ) (n : ℕ) (s u : State) (line : ℕ × List ℕ) (behind : List (ℕ × List ℕ)) → Tallies z n s → step_of s (content_of line.1) ≡ Ok u →
    Tallies (sum_with z (stated_at account line behind)) (count_with n (stated_at account line behind)) u
adds account z n s u line behind t e =
    let place : Place = place_of line.0 (content_of line.1) in
    (IfOk-at_ok (Went s (entry_in place (content_of line.1))) e (went s place (content_of line.1))).tallies z n t

-- at the end the entries lead from the opening to the closing
pub closes : (account : Account) (z : ℤ) (n : ℕ) (s : State) → Tallies z n s → is_done s ≡ true → Closes z n (head_of s)
closes account z n s t d =
    let b = and_parts (leb 1 s.number) (leb s.number 99999) (t.numbered (done_not_start s.stage d)) in
    record { numbered = (leb-true _ _ b.0, leb-true _ _ b.1); balanced = omega (arith, ints, t.summed, t.closed d); counted = t.counted; few = t.few }
