-- Entries laid over a table one at a time, or all at once; and what a source means when nothing remains.
use Rattle.std.proofs.Common.{◌≡◌, ℕ, ◌+◌, ◌<◌, ◌≤◌, List, [], ◌∷◌, ◌++◌, map, length, take, set, Some, None, sym, refl, ap, ◌∙◌, append_assoc, append-nil, arith}
use Rattle.std.proofs.lemmas.List.{take_more_set, take_all}
use Rattle.domain.specs.declared.entry.Side.{Side}
use Rattle.domain.specs.declared.entry.Entry.{Entry}
use Rattle.domain.specs.declared.entry.Item.{Item}
use Rattle.source.specs.Statement.{Statement, first, moved, rest}
use Rattle.domain.specs.Items.{outstanding_item}

-- a table of which the first positions hold what was laid, with what remains to be laid behind them
abbrev pub with_rest : Side → List Item → ℕ → List Entry → List Item
with_rest side ys n es = take n ys ++ map (outstanding_item side) es

-- one entry more
pub laid_more : (side : Side) (ys zs : List Item) (n : ℕ) (e : Entry) (es fs : List Entry) → n < length ys → es ≡ e ∷ fs → zs ≡ set ys n (outstanding_item side e) → with_rest side zs (n + 1) fs ≡ with_rest side ys n es
laid_more side ys zs n e es fs lt p q =
    ap (λ (l : List Item). with_rest side l (n + 1) fs) q
    ∙ rw (take_more_set ys n (outstanding_item side e) lt) (append_assoc (take n ys) (outstanding_item side e ∷ []) _)
    ∙ ap (with_rest side ys n) (sym p)

-- all positions laid
pub laid_all : (side : Side) (ys : List Item) (n : ℕ) (es : List Entry) → n + length es ≡ length ys → length ys ≤ n → with_rest side ys n es ≡ ys
laid_all side ys n [] a b = append-nil (take n ys) ∙ take_all n ys b
laid_all side ys n (e ∷ es) a b = absurd (omega arith)

-- the entry that was fetched stood first
pub fetched : (s t : Statement) (e : Entry) → Some e ≡ first s.remaining → t ≡ moved s → s.remaining ≡ e ∷ t.remaining
fetched s t e f m = headed s.remaining f ∙ ap (λ (l : List Entry). e ∷ l) (ap (λ (u : Statement). u.remaining) (sym m))
  where
    headed : (es : List Entry) → Some e ≡ first es → es ≡ e ∷ rest es
    headed [] f = cc
    headed (d ∷ es) f = let q : e ≡ d = cc in ap (λ x. x ∷ es) (sym q)

pub none_left : (es : List Entry) → None ≡ first es → es ≡ []
none_left [] h = refl
none_left (e ∷ es) h = cc
