-- The longest run, cut at its comma, is what the text begins with; and the other way round.
use Rattle.std.proofs.Common.{◌≡◌, ℕ, ◌+◌, ◌-◌, ◌*◌, ◌^◌, ◌<◌, ◌≤◌, true, false, List, [], ◌∷◌, ◌++◌, length, take, drop, pos, Some, None, Option, Result, sym, refl, ap, ◌∙◌, subst, inl, inr, Ok, one-add, arith}
use Rattle.std.proofs.lemmas.List.{append_assoc, take-append-drop, take_at, length-append}
use Rattle.std.proofs.lemmas.Bool.Decides.{nat_tests}
use Rattle.std.proofs.lemmas.Int.{ints}
use Rattle.std.proofs.lemmas.List.Folds.{length-prefix_len}
use Rattle.std.proofs.lemmas.List.Sums.{split_at_first, passes_at_first}
use Rattle.std.proofs.lemmas.Option.{none-some, cond_some, some_pair_parts, option_and_then_some}
use Rattle.std.proofs.lemmas.Bool.{cases_lt, and_parts, and_from, cases_Bool, cond-true, eqb-true}
use Rattle.domain.specs.declared.amount.Amount.{Amount}
use Rattle.domain.specs.declared.digits.Digits.{Digits}
use Rattle.domain.specs.Accounts.{digit_count}
use Rattle.domain.specs.Makers.{as_amount}
use Rattle.domain.proofs.Same.{as_amount_lem}
use Rattle.fields.specs.Commas
use Rattle.fields.specs.Commas.{is_comma, comma_amount, run_of, commas, is_formed, minor_of, minor_in, with_length, Taken}
use Rattle.fields.specs.Runs.{is_digit, all_digits, in_run, all_in_run, run_length, worth}
use Rattle.fields.proofs.Parts.{commas_none, commas_comma, commas_other, before_other, behind_other, digits_before, digits_behind, all_in_run_lem}
use Rattle.fields.proofs.Readings.{amount_minor}
use Rattle.std.specs.List.{position_or_len}
use Rattle.std.specs.Option.{ok_or, option_and_then}
use Rattle.domain.specs.declared.refusal.Refusal.{Refusal}
use Rattle.domain.specs.declared.refusal.Refusal.TheVariants.{BadAmount}
use Rattle.fields.specs.Written.{place_value, Ends, Begins, ReadsAmount}
use Rattle.fields.proofs.Values.{worth_places}

-- a run with a comma is what stands before it, the comma, and what stands behind it
cut : (run : List ℕ) → 1 ≤ commas run → run ≡ Commas.before run ++ 44 ∷ Commas.behind run
cut run h =
    let w : position_or_len is_comma run < length run = elim (cases_lt (position_or_len is_comma run) (length run)) [ inl l ↦ l | inr g ↦ absurd (omega (arith, commas_none run g)) ] in
    let t = eqb-true _ 44 (passes_at_first is_comma run 0 w) in
    split_at_first is_comma run 0 w ∙ ap (λ (k : ℕ). Commas.before run ++ k ∷ Commas.behind run) t

-- what follows the longest run does not go on with it
run_ends : (bs : List ℕ) → Ends (drop (run_length bs) bs)
run_ends [] = tt
run_ends (b ∷ bs) = elim (cases_Bool (in_run b)) [
  | inl t ↦ rw (t, one-add) (run_ends bs)
  | inr f ↦ rw f f
]

-- the longest run in front of what does not go on with it
run_over : (run rest : List ℕ) → all_in_run run ≡ true → Ends rest → run_length (run ++ rest) ≡ length run
run_over [] [] p e = refl
run_over [] (b ∷ bs) p e = rw e
run_over (x ∷ xs) rest p e =
    let q = and_parts (in_run x) (all_in_run xs) p in
    rw q.0 (omega (arith, run_over xs rest q.1 e))

-- digits are part of a run, and no commas
digit_run : (b : ℕ) → is_digit b ≡ true → (in_run b ≡ true) × (is_comma b ≡ false)
digit_run b d = (grind (arith, nat_tests), grind (arith, nat_tests))

-- digits, a comma and digits: all in a run, with one comma, cut where they were joined
record Joined (ds es : List ℕ) : Type 0 where
  runs : all_in_run (ds ++ 44 ∷ es) ≡ true
  one : commas (ds ++ 44 ∷ es) ≡ 1
  front : Commas.before (ds ++ 44 ∷ es) ≡ ds
  back : Commas.behind (ds ++ 44 ∷ es) ≡ es

digits_alone : (es : List ℕ) → all_digits es ≡ true → (all_in_run es ≡ true) × (commas es ≡ 0)
digits_alone [] p = (refl, refl)
digits_alone (b ∷ bs) p =
    let q = and_parts (is_digit b) (all_digits bs) p in
    let d = digit_run b q.0 in
    let r = digits_alone bs q.1 in
    (and_from (in_run b) (all_in_run bs) d.0 r.0, commas_other b bs d.1 ∙ r.1)

joined : (ds es : List ℕ) → all_digits ds ≡ true → all_digits es ≡ true → Joined ds es
joined [] es p q =
    let r = digits_alone es q in
    record { runs = r.0; one = commas_comma 44 es refl ∙ omega (arith, r.1); front = refl; back = refl }
joined (b ∷ ds) es p q =
    let s = and_parts (is_digit b) (all_digits ds) p in
    let d = digit_run b s.0 in
    let r : Joined ds es = joined ds es s.1 q in
    record {
      runs = and_from (in_run b) (all_in_run (ds ++ 44 ∷ es)) d.0 r.runs;
      one = commas_other b (ds ++ 44 ∷ es) d.1 ∙ r.one;
      front = before_other b (ds ++ 44 ∷ es) d.1 ∙ ap (λ (l : List ℕ). b ∷ l) r.front;
      back = behind_other b (ds ++ 44 ∷ es) d.1 ∙ r.back;
    }

-- the minor units of digits about a comma, by their places
placed : (d : ℕ) (ds es : List ℕ) → worth ds * 10 ^ d + worth es * 10 ^ (d - length es) ≡ place_value ds * 10 ^ d + place_value es * 10 ^ (d - length es)
placed d ds es = let p = worth_places ds in let q = worth_places es in cc

-- what the form of a run says
record Formed (d : ℕ) (run : List ℕ) : Type 0 where
  few : length run ≤ 15
  one : commas run ≡ 1
  some : 1 ≤ length (Commas.before run)
  short : length (Commas.behind run) ≤ d

formed_parts : (d : ℕ) (run : List ℕ) → is_formed d run ≡ true → Formed d run
formed_parts d run e = record { few = grind (arith, nat_tests); one = grind (arith, nat_tests); some = grind (arith, nat_tests); short = grind (arith, nat_tests) }

with_parts : (k : ℕ) (o : Option Amount) (a : Amount) (n : ℕ) → with_length k o ≡ Some (a, n) → (o ≡ Some a) × (k ≡ n)
with_parts k None a n e = absurd (none-some (a, n) e)
with_parts k (Some x) a n e = let p = some_pair_parts x a k n e in (ap (λ (y : Amount). Some y) p.0, p.1)

-- what was read is what the text begins with
by_run : (digits : Digits) (text : List ℕ) (a : Amount) (n : ℕ) → Formed (digit_count digits) (run_of text) → a.minor ≡ pos (minor_of (digit_count digits) (run_of text)) → run_length text ≡ n → Begins digits text a n
by_run digits text a n f m l =
    let run = run_of text in
    let c = cut run (omega (arith, f.one)) in
    let k : length run ≡ length (Commas.before run) + (1 + length (Commas.behind run)) = ap length c ∙ length-append (Commas.before run) (44 ∷ Commas.behind run) ∙ omega arith in
    record {
      before = Commas.before run;
      behind = Commas.behind run;
      rest = drop (run_length text) text;
      is =
          sym (take-append-drop (run_length text) text) ∙ ap (λ (l : List ℕ). l ++ drop (run_length text) text) c
          ∙ append_assoc (Commas.before run) (44 ∷ Commas.behind run) (drop (run_length text) text);
      whole = digits_before run (all_in_run_lem text);
      part = digits_behind run (all_in_run_lem text) f.one;
      ends = run_ends text;
      some = f.some;
      few = f.short;
      short = omega (arith, k, f.few);
      value = m ∙ ap (λ (k : ℕ). pos k) (placed (digit_count digits) (Commas.before run) (Commas.behind run));
      read = sym l ∙ sym (length-prefix_len in_run text) ∙ k;
    }

pub begins : (digits : Digits) (text : List ℕ) (a : Amount) (n : ℕ) → comma_amount digits text ≡ Some (a, n) → Begins digits text a n
unfolding comma_amount
begins digits text a n e =
    let run = run_of text in
    let d = digit_count digits in
    let w = with_parts (run_length text) _ a n e in
    option_and_then_some (λ m. as_amount (pos m)) (minor_in d run) a w.0 (λ m g h.
    let c = cond_some (is_formed d run) (minor_of d run) m g in
    by_run digits text a n (formed_parts d run c.0) (amount_minor (pos m) a h ∙ ap (λ (k : ℕ). pos k) (sym c.1)) w.1)

-- where a text begins with an amount, that is its run
record Run (text ds es : List ℕ) : Type 0 where
  is : run_of text ≡ ds ++ 44 ∷ es
  length : run_length text ≡ length ds + (1 + length es)

run_begun : (digits : Digits) (text : List ℕ) (a : Amount) (n : ℕ) (b : Begins digits text a n) → Run text b.before b.behind
run_begun digits text a n b =
    let run = b.before ++ 44 ∷ b.behind in
    let j : Joined b.before b.behind = joined b.before b.behind b.whole b.part in
    let t : text ≡ run ++ b.rest = b.is ∙ sym (append_assoc b.before (44 ∷ b.behind) b.rest) in
    let l : run_length text ≡ length run = ap run_length t ∙ run_over run b.rest j.runs b.ends in
    record {
      is = ap (take (run_length text)) t ∙ take_at run b.rest (run_length text) (sym l);
      length = l ∙ length-append b.before (44 ∷ b.behind) ∙ omega arith;
    }

taken : (digits : Digits) (text : List ℕ) (a : Amount) (n : ℕ) → Begins digits text a n → Taken text a n
taken digits text a n b = let r = run_begun digits text a n b in record { run = b.read ∙ sym r.length; few = omega (arith, b.read, b.short); least = omega (arith, ints, b.value) }

pub stands : (digits : Digits) (text : List ℕ) (a : Amount) (n : ℕ) → Begins digits text a n → comma_amount digits text ≡ Some (a, n)
unfolding comma_amount
stands digits text a n b =
    let ds = b.before in
    let es = b.behind in
    let run = ds ++ 44 ∷ es in
    let d = digit_count digits in
    let j : Joined ds es = joined ds es b.whole b.part in
    let r = run_begun digits text a n b in
    let k : length run ≡ length ds + (1 + length es) = length-append ds (44 ∷ es) ∙ omega arith in
    let formed : is_formed d run ≡ true = grind (arith, nat_tests, j.one, j.front, j.back, k, b.some, b.few, b.short) in
    let m : minor_of d run ≡ place_value ds * 10 ^ d + place_value es * 10 ^ (d - length es) = cc (placed d ds es, j.front, j.back) in
    let i : minor_in d (run_of text) ≡ Some (place_value ds * 10 ^ d + place_value es * 10 ^ (d - length es)) = ap (minor_in d) r.is ∙ cond-true (is_formed d run) _ None formed ∙ ap (λ (w : ℕ). Some w) m in
    ap (λ o. with_length (run_length text) (option_and_then (λ n. as_amount (pos n)) o)) i
    ∙ ap (with_length (run_length text)) (ap as_amount (sym b.value) ∙ as_amount_lem a)
    ∙ ap (λ (w : ℕ). Some (a, w)) (r.length ∙ sym b.read)

-- what is read, and what is refused
by_reading : (digits : Digits) (text : List ℕ) (o : Option (Amount × ℕ)) → comma_amount digits text ≡ o → ReadsAmount digits text (ok_or o BadAmount)
by_reading digits text (Some p) e = begins digits text p.0 p.1 e
by_reading digits text None e = λ a n b. none-some (a, n) (sym e ∙ stands digits text a n b)

pub reads_amount : (digits : Digits) (text : List ℕ) (r : Result (Amount × ℕ) Refusal) → r ≡ ok_or (comma_amount digits text) BadAmount → ReadsAmount digits text r
reads_amount digits text r e = subst (ReadsAmount digits text) (sym e) (by_reading digits text (comma_amount digits text) refl)

pub begins_ok : (digits : Digits) (text : List ℕ) (a : Amount) (n : ℕ) → Ok (a, n) ≡ ok_or (comma_amount digits text) BadAmount → Begins digits text a n
begins_ok digits text a n e = reads_amount digits text (Ok (a, n)) e

pub taken_ok : (digits : Digits) (text : List ℕ) (a : Amount) (n : ℕ) → Ok (a, n) ≡ ok_or (comma_amount digits text) BadAmount → Taken text a n
taken_ok digits text a n e = taken digits text a n (begins_ok digits text a n e)
