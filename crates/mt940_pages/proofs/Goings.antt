-- What a line that goes on does to the state: it adds just the entry that it states, and the state stays sound.
use Rattle.std.proofs.Common.{◌≡◌, ℕ, ◌+◌, ◌≤◌, true, false, cond, eqb, leb, List, drop, ℤ, ◌+ℤ◌, IfOk, Some, None, Ok, Err, Option, Result, sym, refl, ap, ◌∙◌, subst, arith}
use Rattle.std.proofs.lemmas.Result.{IfOk-at_ok}
use Rattle.std.proofs.lemmas.Int.{ints}
use Rattle.std.proofs.lemmas.Bool.{cond_both, both_ways, and_parts, leb-true, leb-false}
use Rattle.std.specs.Result.{result_ok}
use Rattle.domain.specs.declared.refusal.Refusal.{Refusal}
use Rattle.domain.specs.declared.refusal.Refusal.TheVariants.{Form, BadNumber, Unbalanced, TooMuch}
use Rattle.domain.specs.Entries.{same_int}
use Rattle.domain.specs.Limits.{is_number}
use Rattle.domain.proofs.Sames.{decides_same_int}
use Rattle.text.specs.Lines.{is_formed}
use Rattle.mt940_fields.specs.declared.movement.Movement.{Movement}
use Rattle.mt940_cuts.specs.declared.tag.Tag.{Tag}
use Rattle.mt940_cuts.specs.declared.tag.Tag.TheVariants.{Reference, Related, Account, Number, Opening, Entry, Closing, Note, Hyphen, Further}
use Rattle.mt940_cuts.specs.declared.tag.Page.TheVariants.{First, Later}
use Rattle.mt940_cuts.specs.declared.tag.End.TheVariants.{Last, Middle}
use Rattle.mt940_fields.specs.Balances.{balance_cut, balance_of}
use Rattle.mt940_cuts.specs.Cuts.{Cut, parts_of}
use Rattle.mt940_fields.specs.Movements.{movement_of, stated_by, stated_in}
use Rattle.mt940_fields.specs.Numbers.{numbers_of}
use Rattle.mt940_cuts.specs.Slices.{is_sized}
use Rattle.mt940_cuts.specs.Tags.{code, tag_of, width_of}
use Rattle.mt940_pages.specs.declared.stage.Stage.{Stage}
use Rattle.mt940_pages.specs.declared.stage.Stage.TheVariants.{Start, Named, Tied, Held, Numbered, Body, Item, Noted, Closed, Remark, Done}
use Rattle.mt940_pages.specs.declared.state.Arrival.{Arrival}
use Rattle.mt940_pages.specs.declared.state.State.{State}
use Rattle.mt940_pages.specs.Stages.{placed}
use Rattle.mt940_pages.specs.Judging.{need, staged, passed_of, named_of, next_page, paged, numbered_of, arrived_of, sum_of, opened, opened_first, repeats, opened_later, closed, closed_of, added, entered_of, field_of, is_last, step_of}
use Rattle.mt940_pages.specs.Sizes.{is_closed, Sound}
use Rattle.mt940_pages.proofs.Chains.{made_need, made_then}
use Rattle.mt940_pages.proofs.Orders.{is_closing, is_quiet, Stays, stays}

-- the sum and the count with what a line states
abbrev pub sum_with : ℤ → Option Movement → ℤ
sum_with z o = elim o [ None ↦ z | Some m ↦ z +ℤ m.amount.minor ]

abbrev pub count_with : ℕ → Option Movement → ℕ
count_with n o = elim o [ None ↦ n | Some m ↦ n + 1 ]

pub record Went (s : State) (o : Option Movement) (u : State) : Type 0 where
  pub digits : u.account.digits ≡ s.account.digits
  pub moved : u.moved ≡ sum_with s.moved o
  pub count : u.count ≡ count_with s.count o
  pub sound : Sound s → Sound u

-- the stage alone changes
pass : (s : State) (t : Tag) (h : Stage) → is_closing t ≡ false → placed s.stage t ≡ Ok h → Went s None (staged s h)
pass s t h n e =
    let st : Stays s.stage t h = IfOk-at_ok (Stays s.stage t) e (stays s.stage t n) in
    record {
      digits = refl;
      moved = refl;
      count = refl;
      sound = λ k. record { few = k.few; low = k.low; high = k.high; numbered = k.numbered; balanced = λ c. k.balanced (st c).0 };
    }

went_passed : (s : State) (t : Tag) → is_closing t ≡ false → IfOk (passed_of s t) (Went s None)
unfolding passed_of
went_passed s t n = made_then (Went s None) (λ g. Ok (staged s g)) (placed s.stage t) (λ h e. pass s t h n e)

went_named : (s : State) (t : Tag) (most : ℕ) (body : List ℕ) → is_closing t ≡ false → IfOk (named_of s t most body) (Went s None)
unfolding named_of
went_named s t most body n = cond_both (is_sized most body) (passed_of s t) (Err Form) (λ r. IfOk r (Went s None)) (λ _. went_passed s t n) (λ _. tt)

-- a tag behind which no page is closed
unclosed : (g : Stage) (t : Tag) (h : Stage) → is_closing t ≡ false → is_quiet t ≡ false → placed g t ≡ Ok h → is_closed h ≡ true → ⊥
unclosed g t h n q e c = both_ways (is_quiet t) q (IfOk-at_ok (Stays g t) e (stays g t n) c).1

number_fits : (n : ℕ) → is_number n ≡ true → (1 ≤ n) × (n ≤ 99999)
number_fits n e = let p = and_parts (leb 1 n) (leb n 99999) e in (leb-true 1 n p.0, leb-true n 99999 p.1)

went_numbered : (s : State) (body : List ℕ) → IfOk (numbered_of s body) (Went s None)
unfolding numbered_of next_page
went_numbered s body =
    made_need (Went s None) _ (numbers_of body) Form
    (λ p _. made_then (Went s None) _ (placed s.stage Number)
    (λ g e. cond_both (next_page s p) (Ok (paged s g p)) (Err BadNumber) (λ r. IfOk r (Went s None))
    (λ t. record {
      digits = refl;
      moved = refl;
      count = refl;
      sound = λ k. record {
        few = k.few;
        low = k.low;
        high = k.high;
        numbered = number_fits p.number (and_parts (is_number p.number) _ t).0;
        balanced = λ c. absurd (unclosed s.stage Number g refl refl e c);
      };
    })
    (λ _. tt)))

-- the stage of a balance that has arrived
arrived_stage : (s : State) (t : Tag) (body : List ℕ) → IfOk (arrived_of s t body) (λ a. placed s.stage t ≡ Ok a.stage)
unfolding arrived_of
arrived_stage s t body =
    let P : Arrival → Type 0 = λ a. placed s.stage t ≡ Ok a.stage in
    made_need P _ (balance_cut body) Form
    (λ p _. made_then P _ (placed s.stage t)
    (λ g e. made_then P (λ b. Ok (record { stage = g; balance = b })) (balance_of s.account p) (λ b _. e)))

went_opened : (s : State) (body : List ℕ) → IfOk (opened_first s body) (Went s None)
unfolding opened_first
went_opened s body =
    made_then (Went s None) (λ a. Ok (opened s a)) (arrived_of s (Opening First) body)
    (λ a e.
    let p : placed s.stage (Opening First) ≡ Ok a.stage = IfOk-at_ok (λ a. placed s.stage (Opening First) ≡ Ok a.stage) e (arrived_stage s (Opening First) body) in
    record {
      digits = refl;
      moved = refl;
      count = refl;
      sound = λ k. record { few = k.few; low = k.low; high = k.high; numbered = k.numbered; balanced = λ c. absurd (unclosed s.stage (Opening First) a.stage refl refl p c) };
    })

went_repeated : (s : State) (body : List ℕ) → IfOk (opened_later s body) (Went s None)
unfolding opened_later
went_repeated s body =
    made_then (Went s None) _ (arrived_of s (Opening Later) body)
    (λ a e.
    let p : placed s.stage (Opening Later) ≡ Ok a.stage = IfOk-at_ok (λ a. placed s.stage (Opening Later) ≡ Ok a.stage) e (arrived_stage s (Opening Later) body) in
    cond_both (repeats s a.balance) (Ok (staged s a.stage)) (Err Unbalanced) (λ r. IfOk r (Went s None)) (λ _. pass s (Opening Later) a.stage refl p) (λ _. tt))

went_closed : (s : State) (t : Tag) (body : List ℕ) → IfOk (closed_of s t body) (Went s None)
unfolding closed_of
went_closed s t body =
    made_then (Went s None) _ (arrived_of s t body)
    (λ a _. cond_both (same_int a.balance.amount.minor (sum_of s)) (Ok (closed s a)) (Err Unbalanced) (λ r. IfOk r (Went s None))
    (λ q. record {
      digits = refl;
      moved = refl;
      count = refl;
      sound = λ k. record { few = k.few; low = k.low; high = k.high; numbered = k.numbered; balanced = λ _. (decides_same_int a.balance.amount.minor (sum_of s)).0 q };
    })
    (λ _. tt))

add_sound : (s : State) (g : Stage) (m : Movement) → leb 4096 s.count ≡ false → (is_closed g ≡ true → ⊥) → Sound s → Sound (added s g m)
add_sound s g m f n k =
    let room = leb-false 4096 s.count f in
    record {
      few = omega (arith, room);
      low = omega (arith, ints, k.low, m.amount.within.0);
      high = omega (arith, ints, k.high, m.amount.within.1);
      numbered = k.numbered;
      balanced = λ c. absurd (n c);
    }

went_entered : (s : State) (body : List ℕ) → IfOk (entered_of s body) (Went s (stated_by s.account.digits body))
unfolding entered_of
went_entered s body =
    let P : State → Type 0 = Went s (stated_by s.account.digits body) in
    made_need P _ (parts_of body) Form
    (λ p e. made_then P _ (placed s.stage Entry)
    (λ g f. made_then P _ (movement_of s.account.digits p)
    (λ m h.
    let is : stated_by s.account.digits body ≡ Some m = ap (λ (o : Option Cut). elim o as (λ _. Option Movement) [ None ↦ None | Some q ↦ result_ok (movement_of s.account.digits q) ]) e ∙ ap result_ok h in
    cond_both (leb 4096 s.count) (Err TooMuch) (Ok (added s g m)) (λ r. IfOk r P)
    (λ _. tt)
    (λ room. record {
      digits = refl;
      moved = sym (ap (sum_with s.moved) is);
      count = sym (ap (count_with s.count) is);
      sound = add_sound s g m room (unclosed s.stage Entry g refl refl f);
    }))))

-- a line of a tag, by what stands behind the tag
abbrev stated_as : State → Tag → List ℕ → Option Movement
stated_as s t body = cond (eqb (code t) (code Entry)) (stated_by s.account.digits body) None

went_field : (s : State) (t : Tag) (body : List ℕ) → IfOk (field_of s t body) (Went s (stated_as s t body))
went_field s Reference body = went_named s Reference 16 body refl
went_field s Related body = went_named s Related 16 body refl
went_field s Account body = went_named s Account 35 body refl
went_field s Number body = went_numbered s body
went_field s (Opening First) body = went_opened s body
went_field s (Opening Later) body = went_repeated s body
went_field s Entry body = went_entered s body
went_field s (Closing Last) body = went_closed s (Closing Last) body
went_field s (Closing Middle) body = went_closed s (Closing Middle) body
went_field s Note body = went_passed s Note refl
went_field s Hyphen body = went_passed s Hyphen refl
went_field s Further body = went_passed s Further refl

-- a line states what its tag says
stated_is : (s : State) (line : List ℕ) (t : Tag) → tag_of line ≡ Some t → stated_in s.account.digits line ≡ stated_as s t (drop (width_of t) line)
unfolding stated_in
stated_is s line Reference e = cc
stated_is s line Related e = cc
stated_is s line Account e = cc
stated_is s line Number e = cc
stated_is s line (Opening First) e = cc
stated_is s line (Opening Later) e = cc
stated_is s line Entry e = cc
stated_is s line (Closing Last) e = cc
stated_is s line (Closing Middle) e = cc
stated_is s line Note e = cc
stated_is s line Hyphen e = cc
stated_is s line Further e = cc

pub went_step : (s : State) (line : List ℕ) → IfOk (step_of s line) (Went s (stated_in s.account.digits line))
unfolding step_of
went_step s line =
    let P : State → Type 0 = Went s (stated_in s.account.digits line) in
    cond_both (is_formed line) (need (tag_of line) Form (λ t. field_of s t (drop (width_of t) line))) (Err Form) (λ r. IfOk r P)
    (λ _. made_need P (λ t. field_of s t (drop (width_of t) line)) (tag_of line) Form
    (λ t e. let Q : Option Movement → Type 0 = λ o. IfOk (field_of s t (drop (width_of t) line)) (Went s o) in subst Q (sym (stated_is s line t e)) (went_field s t (drop (width_of t) line))))
    (λ _. tt)

sound_by : (s : State) (o : Option Movement) (r : Result State Refusal) → Sound s → IfOk r (Went s o) → IfOk r Sound
sound_by s o (Ok u) k w = w.sound k
sound_by s o (Err why) k w = tt

pub field_sound : (s : State) (t : Tag) (body : List ℕ) → Sound s → IfOk (field_of s t body) Sound
field_sound s t body k = sound_by s (stated_as s t body) (field_of s t body) k (went_field s t body)

-- at the end the last page has closed
pub last_closed : (g : Stage) → is_last g ≡ true → is_closed g ≡ true
last_closed (Start page) e = e
last_closed (Named page) e = e
last_closed (Tied page) e = e
last_closed (Held page) e = e
last_closed (Numbered page) e = e
last_closed Body e = e
last_closed (Item more) e = e
last_closed (Noted more) e = e
last_closed (Closed end) e = refl
last_closed (Remark end more) e = refl
last_closed Done e = refl
