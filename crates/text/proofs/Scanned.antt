-- What a scan answers, told line by line: the steps over the lines, and then the end of the text.
use Rattle.std.proofs.Common.{◌≡◌, ℕ, suc, ◌+◌, ◌-◌, ◌<◌, Bool, true, false, cond, ◌==◌, ◌&&◌, eqb, List, [], ◌∷◌, length, Ok, Err, Result, refl, ap, ◌∙◌, arith}
use Rattle.std.proofs.lemmas.Bool.{eq-eqb}
use Rattle.std.proofs.lemmas.Bool.Decides.{nat_tests}
use Rattle.domain.specs.declared.refusal.Refusal.{Refusal}
use Rattle.domain.specs.declared.refusal.Refusal.TheVariants.{EndsEarly}
use Rattle.domain.specs.declared.refusal.Refused.{Refused}
use Rattle.domain.specs.Refusing.{refused_at}
use Rattle.text.specs.Lines.{split, ahead, numbered, lines_from, content_of, is_whole}
use Rattle.text.specs.Scanning.{finish_of, scan_of, scan_from}

-- the offset behind lines, the first of which begins at `at`
abbrev pub behind : ℕ → List (List ℕ) → ℕ
behind at [] = at
behind at (l ∷ ls) = behind (at + length l + 1) ls

pub behind_more : (at : ℕ) (ls : List (List ℕ)) → behind (suc at) ls ≡ suc (behind at ls)
behind_more at [] = refl
behind_more at (l ∷ ls) = ap (λ (n : ℕ). behind n ls) (omega arith) ∙ behind_more (at + length l + 1) ls

-- the last byte ends a line, or there is none
abbrev pub whole : List ℕ → Bool
whole [] = true
whole (b ∷ []) = b == 10
whole (b ∷ c ∷ cs) = whole (c ∷ cs)

-- lines reach the end of a text, or stop before it
abbrev pub Reaches : Bool → ℕ → ℕ → Type 0
Reaches true m n = m ≡ n
Reaches false m n = m < n

reaches_suc : (w : Bool) (m n : ℕ) → Reaches w m n → Reaches w (suc m) (suc n)
reaches_suc true m n h = omega arith
reaches_suc false m n h = omega arith

reaches_ahead : (w : Bool) (b n : ℕ) (ls : List (List ℕ)) → Reaches w (behind 0 ls) (suc n) → Reaches w (behind 0 (ahead b ls)) (suc (suc n))
reaches_ahead true b n [] h = omega arith
reaches_ahead false b n [] h = omega arith
reaches_ahead w b n (l ∷ ls) h =
    let e : behind (0 + suc (length l) + 1) ls ≡ suc (behind (0 + length l + 1) ls) = ap (λ (k : ℕ). behind k ls) (omega arith) ∙ behind_more (0 + length l + 1) ls in
    rw e (reaches_suc w (behind (0 + length l + 1) ls) (suc n) h)

pub reaches_end : (bs : List ℕ) → Reaches (whole bs) (behind 0 (split bs)) (length bs)
reaches_end [] = refl
reaches_end (b ∷ []) = elim (eqb b 10) as (λ v. Reaches v (behind 0 (cond v ([] ∷ []) [])) 1) [ true ↦ refl | false ↦ omega arith ]
reaches_end (b ∷ c ∷ cs) =
    elim (eqb b 10) as (λ v. Reaches (whole (c ∷ cs)) (behind 0 (cond v ([] ∷ split (c ∷ cs)) (ahead b (split (c ∷ cs))))) (suc (suc (length cs)))) [
      | true ↦ rw (behind_more 0 (split (c ∷ cs))) (reaches_suc (whole (c ∷ cs)) (behind 0 (split (c ∷ cs))) (suc (length cs)) (reaches_end (c ∷ cs)))
      | false ↦ reaches_ahead (whole (c ∷ cs)) b (length cs) (split (c ∷ cs)) (reaches_end (c ∷ cs))
    ]

whole_is : (bs : List ℕ) → whole bs ≡ is_whole bs
unfolding is_whole
whole_is [] = refl
whole_is (b ∷ []) = refl
whole_is (b ∷ c ∷ cs) =
    let i : suc (suc (length cs)) - 1 ≡ suc (length cs) = omega arith in
    let j : suc (length cs) - 1 ≡ length cs = omega arith in
    let y : (suc (length cs) == 0) ≡ false = grind (arith, nat_tests) in
    let z : (suc (suc (length cs)) == 0) ≡ false = grind (arith, nat_tests) in
    let h = simp (y, j) at (whole_is (c ∷ cs)) in
    simp (z, i) h

reaches_test : (w : Bool) (m n : ℕ) → Reaches w m n → (m == n) ≡ w
reaches_test true m n h = eq-eqb m n h
reaches_test false m n h = grind (arith, nat_tests)

pub whole_behind : (bs : List ℕ) → (behind 0 (split bs) == length bs) ≡ is_whole bs
whole_behind bs = reaches_test (whole bs) (behind 0 (split bs)) (length bs) (reaches_end bs) ∙ whole_is bs

-- what follows the steps at the end of the lines
abbrev pub onward : {S : Type 0} → (S → Result S Refused) → Result S Refused → Result S Refused
onward end (Ok s) = end s
onward end (Err refused) = Err refused

-- the steps over lines with their offsets
abbrev pub steps_over : {S : Type 0} → (S → List ℕ → Result S Refusal) → S → List (ℕ × List ℕ) → Result S Refused
steps_over step s [] = Ok s
steps_over step s (x ∷ xs) = elim (step s (content_of x.1)) [ Ok u ↦ steps_over step u xs | Err why ↦ Err (refused_at why x.0) ]

module _ {S : Type 0} (step : S → List ℕ → Result S Refusal) (complete : S → Bool) where
  after_step : (total at : ℕ) (l : List ℕ) (ls : List (List ℕ)) (r : Result S Refusal) → ((s : S) → scan_of step complete total (at + length l + 1) s ls ≡ onward (λ u. finish_of complete total (behind (at + length l + 1) ls) u) (steps_over step s (numbered (at + length l + 1) ls))) →
      elim r as (λ _. Result S Refused) [ Ok u ↦ scan_of step complete total (at + length l + 1) u ls | Err why ↦ Err (refused_at why at) ]
      ≡ onward (λ u. finish_of complete total (behind at (l ∷ ls)) u) (elim r [ Ok u ↦ steps_over step u (numbered (at + length l + 1) ls) | Err why ↦ Err (refused_at why at) ])
  after_step total at l ls (Ok u) h = h u
  after_step total at l ls (Err why) h = refl

  scan_steps : (total at : ℕ) (s : S) (ls : List (List ℕ)) → scan_of step complete total at s ls ≡ onward (λ u. finish_of complete total (behind at ls) u) (steps_over step s (numbered at ls))
  scan_steps total at s [] = refl
  scan_steps total at s (l ∷ ls) = after_step total at l ls (step s (content_of l)) (λ u. scan_steps total (at + length l + 1) u ls)

  pub scanned : (text : List ℕ) (s : S) → scan_from step complete text 0 s ≡ onward (λ u. cond (complete u && is_whole text) (Ok u) (Err (refused_at EndsEarly (length text)))) (steps_over step s (lines_from 0 text))
  scanned text s =
      scan_steps (length text) 0 s (split text)
      ∙ ap (λ (w : Bool). onward (λ u. cond (complete u && w) (Ok u) (Err (refused_at EndsEarly (length text)))) (steps_over step s (lines_from 0 text))) (whole_behind text)
