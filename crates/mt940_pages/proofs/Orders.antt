-- How a page comes to be closed: by a closing alone, and only a note, a further line or the hyphen leaves it so.
use Rattle.std.proofs.Common.{◌≡◌, ℕ, ◌+◌, Bool, true, false, cond, ◌||◌, eqb, ltb, IfOk, Some, None, Option, refl}
use Rattle.std.proofs.lemmas.Bool.{cond_both, both_ways, or_left, or_right}
use Rattle.std.specs.Option.{ok_or}
use Rattle.domain.specs.declared.refusal.Refusal.TheVariants.{Misplaced}
use Rattle.mt940_cuts.specs.declared.tag.Tag.{Tag}
use Rattle.mt940_cuts.specs.declared.tag.Tag.TheVariants.{Reference, Related, Account, Number, Opening, Entry, Closing, Note, Hyphen, Further}
use Rattle.mt940_cuts.specs.declared.tag.End.TheVariants.{Last, Middle}
use Rattle.mt940_cuts.specs.declared.tag.End.{End}
use Rattle.mt940_cuts.specs.Tags.{code}
use Rattle.mt940_pages.specs.declared.stage.Stage.{Stage}
use Rattle.mt940_pages.specs.declared.stage.Stage.TheVariants.{Start, Named, Tied, Held, Numbered, Body, Item, Noted, Closed, Remark, Done}
use Rattle.mt940_pages.specs.Stages.{on, on_further, in_body, ended, placed}
use Rattle.mt940_pages.specs.Sizes.{is_closed}

abbrev pub is_closing : Tag → Bool
is_closing t = eqb (code t) 7 || eqb (code t) 8

abbrev pub is_quiet : Tag → Bool
is_quiet t = eqb (code t) 9 || (eqb (code t) 10 || eqb (code t) 11)

-- a closed page was closed before, and the tag was quiet
abbrev pub Stays : Stage → Tag → Stage → Type 0
Stays g t h = is_closed h ≡ true → (is_closed g ≡ true) × (is_quiet t ≡ true)

module _ (g : Stage) (t : Tag) (other : is_closing t ≡ false) where
  abbrev StaysIn : Option Stage → Type 0
  StaysIn o = IfOk (ok_or o Misplaced) (Stays g t)

  -- a stage that is not closed
  open_on : (x : Tag) (k : Stage) (rest : Option Stage) → is_closed k ≡ false → StaysIn rest → StaysIn (on t x k rest)
  open_on x k rest f r = cond_both (eqb (code t) (code x)) (Some k) rest StaysIn (λ _ c. absurd (both_ways (is_closed k) f c)) (λ _. r)

  -- a quiet tag at a closed stage
  quiet_on : (x : Tag) (k : Stage) (rest : Option Stage) → is_closed g ≡ true → (eqb (code t) (code x) ≡ true → is_quiet t ≡ true) → StaysIn rest → StaysIn (on t x k rest)
  quiet_on x k rest f q r = cond_both (eqb (code t) (code x)) (Some k) rest StaysIn (λ e _. (f, q e)) (λ _. r)

  open_further : (more most : ℕ) (k : ℕ → Stage) (rest : Option Stage) → ((n : ℕ) → is_closed (k n) ≡ false) → StaysIn rest → StaysIn (on_further t more most k rest)
  open_further more most k rest f r =
      cond_both (eqb (code t) (code Further)) (cond (ltb more most) (Some (k (more + 1))) None) rest StaysIn
      (λ _. cond_both (ltb more most) (Some (k (more + 1))) None StaysIn (λ _ c. absurd (both_ways (is_closed (k (more + 1))) (f (more + 1)) c)) (λ _. tt))
      (λ _. r)

  quiet_further : (more most : ℕ) (k : ℕ → Stage) (rest : Option Stage) → is_closed g ≡ true → StaysIn rest → StaysIn (on_further t more most k rest)
  quiet_further more most k rest f r =
      cond_both (eqb (code t) (code Further)) (cond (ltb more most) (Some (k (more + 1))) None) rest StaysIn
      (λ e. cond_both (ltb more most) (Some (k (more + 1))) None StaysIn (λ _ _. (f, or_right (eqb (code t) 9) _ (or_right (eqb (code t) 10) _ e))) (λ _. tt))
      (λ _. r)

  body : StaysIn (in_body t)
  body =
      open_on Entry (Item 0) _ refl
      (cond_both (eqb (code t) (code (Closing Last))) (Some (Closed Last)) (on t (Closing Middle) (Closed Middle) None) StaysIn
      (λ e _. absurd (both_ways (is_closing t) other (or_left _ _ e)))
      (λ _. cond_both (eqb (code t) (code (Closing Middle))) (Some (Closed Middle)) None StaysIn (λ e _. absurd (both_ways (is_closing t) other (or_right (eqb (code t) 7) _ e))) (λ _. tt)))

  hyphen : (end : End) → is_closed g ≡ true → StaysIn (on t Hyphen (ended end) None)
  hyphen end f = quiet_on Hyphen (ended end) None f (λ e. or_right (eqb (code t) 9) _ (or_left _ _ e)) tt

pub stays : (g : Stage) (t : Tag) → is_closing t ≡ false → IfOk (placed g t) (Stays g t)
unfolding placed
stays (Start page) t n = open_on (Start page) t n Reference (Named page) None refl tt
stays (Named page) t n = open_on (Named page) t n Related (Tied page) _ refl (open_on (Named page) t n Account (Held page) None refl tt)
stays (Tied page) t n = open_on (Tied page) t n Account (Held page) None refl tt
stays (Held page) t n = open_on (Held page) t n Number (Numbered page) None refl tt
stays (Numbered page) t n = open_on (Numbered page) t n (Opening page) Body None refl tt
stays Body t n = body Body t n
stays (Item more) t n = open_further (Item more) t n more 1 Item _ (λ _. refl) (open_on (Item more) t n Note (Noted 0) _ refl (body (Item more) t n))
stays (Noted more) t n = open_further (Noted more) t n more 5 Noted _ (λ _. refl) (body (Noted more) t n)
stays (Closed end) t n = quiet_on (Closed end) t n Note (Remark end 0) _ refl (λ e. or_left _ _ e) (hyphen (Closed end) t n end refl)
stays (Remark end more) t n = quiet_further (Remark end more) t n more 5 (Remark end) _ refl (hyphen (Remark end more) t n end refl)
stays Done t n = tt
