use Rattle.std.proofs.Common.{ℕ, ◌-◌, ◌≤◌, List, length, take, refl, arith, length-take}
use Rattle.std.proofs.lemmas.Bool.{cond_both}
use Rattle.text.specs.Lines.{content_of}
use Rattle.mt940.proofs.place.place_of.Goals as goal

content_within : (raw : List ℕ) → length (content_of raw) ≤ length raw
unfolding content_of
content_within raw = cond_both _ (take (length raw - 1) raw) raw (λ bs. length bs ≤ length raw) (λ _. simp length-take (omega arith)) (λ _. omega arith)

pub loop-next-init : goal.loop-next-init
loop-next-init c =
    let p = c.args.passage in
    let h = content_within p.line.raw.now in
    rw (c.into_iter-next-iterator.ensures.into_iter_gives, c.end-end.ensures) (refl, omega arith, omega (arith, h, p.within.0), p.within.1.1, p.within.1.0)
