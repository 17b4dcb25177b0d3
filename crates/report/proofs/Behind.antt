-- A line written behind a text, in an output that is lent from there on.
use Rattle.std.proofs.Common.{◌≡◌, ℕ, ◌+◌, ◌-◌, List, [], ◌++◌, length, take, drop, sym, ap, ◌∙◌, arith}
use borrow.Rule.Slice.PartMut.{put_mid}
use Rattle.std.proofs.lemmas.List.{take_rest, take_at, drop_at, drop_all, drop-drop, append-nil, append_assoc, length-drop, length-append}
use Rattle.report.specs.Outputs.{put}

-- an output in which the front of a text stands, with what is left of the text, and as it was behind that front
pub record Written (whole rest was out : List ℕ) (at : ℕ) : Type 0 where
  pub goes : take at whole ++ rest ≡ whole
  pub is : out ≡ take at whole ++ drop at was
  pub long : length (take at whole) ≡ at

pub written_more :
    (whole line rest all was out after : List ℕ) (at n : ℕ) → all ≡ line ++ rest → Written whole all was out at → n ≡ length line →
    after ≡ put line (take (length out - at) (drop at out)) → Written whole rest was (put_mid at (length out - at) out after) (at + n)
written_more whole line rest all was out after at n e h m w =
    let f = take at whole in
    let cut : (f ++ line) ++ rest ≡ whole = append_assoc f line rest ∙ ap (λ (l : List ℕ). f ++ l) (sym e) ∙ h.goes in
    let long : length (f ++ line) ≡ at + n = length-append f line ∙ omega (arith, h.long, m) in
    let front : take (at + n) whole ≡ f ++ line = ap (take (at + n)) (sym cut) ∙ take_at (f ++ line) rest (at + n) long in
    let lent : take (length out - at) (drop at out) ≡ drop at was = take_rest out at ∙ ap (drop at) h.is ∙ drop_at f (drop at was) at h.long in
    let before : take at out ≡ f = ap (take at) h.is ∙ take_at f (drop at was) at h.long in
    let none : drop (length out - at) (drop at out) ≡ [] = drop_all (length out - at) (drop at out) (simp length-drop (omega arith)) in
    let more : after ≡ line ++ drop (at + n) was =
    w ∙ ap (put line) lent ∙ ap (λ (l : List ℕ). line ++ l) (drop-drop (length line) at was ∙ ap (λ (k : ℕ). drop (at + k) was) (sym m)) in
    record {
      goes = ap (λ (l : List ℕ). l ++ rest) front ∙ cut;
      is =
          ap (λ (l : List ℕ). l ++ (after ++ drop (length out - at) (drop at out))) before
          ∙ ap (λ (l : List ℕ). f ++ (after ++ l)) none
          ∙ ap (λ (l : List ℕ). f ++ l) (append-nil after ∙ more)
          ∙ sym (append_assoc f line (drop (at + n) was)) ∙ ap (λ (l : List ℕ). l ++ drop (at + n) was) (sym front);
      long = ap length front ∙ long;
    }
