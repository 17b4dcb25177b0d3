-- How a reader goes through a text: the line at an offset, and the lines from it on.
use Rattle.std.proofs.Common.{◌≡◌, ℕ, suc, ◌+◌, ◌-◌, ◌<◌, ◌≤◌, List, [], ◌∷◌, length, take, drop, Some, None, ap, ◌∙◌, arith}
use Rattle.std.proofs.lemmas.List.{drop-drop, length-drop, length-take-le}
use Rattle.text.specs.Lines.{from, split, numbered, lines_from}
use Rattle.text.proofs.Finding.{First, first_line, no_line}

-- the line at an offset, up to its LF, and the lines behind it
line_at : (text : List ℕ) (at lf : ℕ) → from 10 at (drop at text) ≡ Some lf → split (drop at text) ≡ take (lf - at) (drop at text) ∷ split (drop (lf + 1) text)
line_at text at lf e =
    let f : First at lf (drop at text) = first_line at lf (drop at text) e in
    let d : drop (suc f.k) (drop at text) ≡ drop (lf + 1) text = drop-drop (suc f.k) at text ∙ ap (λ (n : ℕ). drop n text) (omega (arith, f.is)) in
    let k : f.k ≡ lf - at = omega (arith, f.is) in
    f.line ∙ ap (λ (x : List ℕ). take f.k (drop at text) ∷ split x) d ∙ ap (λ (n : ℕ). take n (drop at text) ∷ split (drop (lf + 1) text)) k

line_end : (text : List ℕ) (at : ℕ) → from 10 at (drop at text) ≡ None → split (drop at text) ≡ []
line_end text at e = no_line at (drop at text) e

-- the offset behind a line and its LF
line_next : (text : List ℕ) (at lf : ℕ) → at ≤ lf → lf < length text → at + length (take (lf - at) (drop at text)) + 1 ≡ lf + 1
line_next text at lf a b =
    let long : length (take (lf - at) (drop at text)) ≡ lf - at = length-take-le (lf - at) (drop at text) (simp length-drop (omega arith)) in
    omega arith

-- the lines from an offset on: the one there, and those behind its LF
pub lines_at : (text : List ℕ) (at lf : ℕ) → at ≤ lf → lf < length text → from 10 at (drop at text) ≡ Some lf → lines_from at (drop at text) ≡ (at, take (lf - at) (drop at text)) ∷ lines_from (lf + 1) (drop (lf + 1) text)
lines_at text at lf a b e =
    ap (numbered at) (line_at text at lf e)
    ∙ ap (λ (n : ℕ). (at, take (lf - at) (drop at text)) ∷ numbered n (split (drop (lf + 1) text))) (line_next text at lf a b)

pub lines_end : (text : List ℕ) (at : ℕ) → from 10 at (drop at text) ≡ None → lines_from at (drop at text) ≡ []
lines_end text at e = ap (numbered at) (line_end text at e)
