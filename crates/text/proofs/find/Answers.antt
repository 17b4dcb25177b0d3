use Rattle.std.proofs.Common.{rules, tests, ◌≡◌, ◌==◌, ◌+◌, drop, ap, ◌∙◌}
use Rattle.std.specs.List.{position}
use Rattle.std.specs.Option.{option_map}
use Rattle.std.proofs.lemmas.Grind.{common_steps}
use Rattle.std.proofs.lemmas.Iterator.{YieldsList-from_slice}
use Rattle.std.proofs.lemmas.Iterator.Search.{position_from_yields_List}
use Rattle.text.proofs.Finding.{place_from}
use Rattle.text.proofs.find.Goals as goal

pub returns-clause-is : goal.returns-clause-is
returns-clause-is c =
    let bs = drop c.args.at c.args.text.now in
    let l : c.in_ok-left.left.now ≡ bs = search (rules, common_steps) in
    let p : c.position.result ≡ position (λ x. x == c.args.b) bs = position_from_yields_List _ _ _ _ c.position.ensures.ran (YieldsList-from_slice bs (cc)) (λ x b q k. search (rules, tests)) in
    let m : c.map.result ≡ option_map (λ i. c.args.at + i) c.position.result = search (rules, common_steps) in
    m ∙ ap (option_map (λ i. c.args.at + i)) p ∙ place_from c.args.b c.args.at bs
