-- A text read line by line: a step for each line, from a state to a state or a refusal.
use Rattle.std.specs.Prelude.{ℕ, ◌+◌, Bool, cond, ◌&&◌, List, [], ◌∷◌, length, drop, Ok, Err, Result, ◌==◌}
use Rattle.domain.specs.declared.refusal.Refusal.{Refusal}
use Rattle.domain.specs.declared.refusal.Refusal.TheVariants.{EndsEarly}
use Rattle.domain.specs.declared.refusal.Refused.{Refused}
use Rattle.domain.specs.Refusing.{refused_at}
use Rattle.text.specs.Lines.{split, content_of}

-- at the end of the lines: the text must be complete, and no line cut off
abbrev pub finish_of : {S : Type 0} → (S → Bool) → ℕ → ℕ → S → Result S Refused
finish_of complete total at s = cond (complete s && at == total) (Ok s) (Err (refused_at EndsEarly total))

-- the lines in order, the first at the offset `at` of a text of `total` bytes; a refusal has the offset of its line
abbrev pub scan_of : {S : Type 0} → (S → List ℕ → Result S Refusal) → (S → Bool) → ℕ → ℕ → S → List (List ℕ) → Result S Refused
scan_of step complete total at s [] = finish_of complete total at s
scan_of step complete total at s (l ∷ ls) = elim (step s (content_of l)) [ Ok u ↦ scan_of step complete total (at + length l + 1) u ls | Err why ↦ Err (refused_at why at) ]

abbrev pub scan_from : {S : Type 0} → (S → List ℕ → Result S Refusal) → (S → Bool) → List ℕ → ℕ → S → Result S Refused
scan_from step complete text at s = scan_of step complete (length text) at s (split (drop at text))
