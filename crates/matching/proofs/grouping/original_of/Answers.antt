use Rattle.std.proofs.Common.{◌≡◌, sym, ◌∙◌, arith, rules}
use Rattle.matching.specs.Folding.{undoes, original_of}
use Rattle.matching.proofs.Finds.{read_at, highest_in_front}
use Rattle.matching.proofs.Partners.{original_found, original_within}
use Rattle.matching.proofs.grouping.original_of.Goals as goal

pub returns : goal.returns
returns c =
    let xs = c.args.items.now in
    let i = c.args.i in
    let x = c.index-items-i.result in
    let answer : c.highest_undone.result ≡ original_of xs i =
    c.highest_undone.ensures ∙ highest_in_front (undoes x) i xs (omega arith) ∙ sym (original_found xs i x (read_at _ _ _ c.requires c.index-items-i.is) (search rules)) in
    record { answer = answer; within = original_within xs i _ c.requires answer }
