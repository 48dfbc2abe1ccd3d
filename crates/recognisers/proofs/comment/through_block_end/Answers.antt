use Rattle.std.proofs.Common.{eqb, ◌&&◌, drop, rules, tests, ◌≡◌}
use Rattle.std.specs.List.{position, zip}
use Rattle.std.proofs.lemmas.Iterator.Search.{position_from_yields_List}
use Rattle.recognisers.proofs.Neighbours.{YieldsList-from_pairs}
use Rattle.recognisers.proofs.CommentLoops.{block_closed, block_open, block_fits}
use Rattle.recognisers.proofs.comment.through_block_end.Goals as goal

pub overflow_add-result : goal.overflow_add-result
overflow_add-result c =
    let found : c.position.result ≡ position (λ p. eqb p.0 42 && eqb p.1 47) (zip c.args.rest.now (drop 1 c.args.rest.now)) = position_from_yields_List _ c.position.new.self _ _ c.position.ensures.ran (YieldsList-from_pairs c.args.rest.now (cc) (cc)) (λ x b q k. search (rules, tests)) in
    search (block_fits c.args.rest.now c.position.result found _ c.in-Some.is)

pub returns-in-Some : goal.returns-in-Some
returns-in-Some c =
    let found : c.position.result ≡ position (λ p. eqb p.0 42 && eqb p.1 47) (zip c.args.rest.now (drop 1 c.args.rest.now)) = position_from_yields_List _ c.position.new.self _ _ c.position.ensures.ran (YieldsList-from_pairs c.args.rest.now (cc) (cc)) (λ x b q k. search (rules, tests)) in
    block_closed _ _ found _ c.in-Some.is

pub returns-in-None : goal.returns-in-None
returns-in-None c =
    let found : c.position.result ≡ position (λ p. eqb p.0 42 && eqb p.1 47) (zip c.args.rest.now (drop 1 c.args.rest.now)) = position_from_yields_List _ c.position.new.self _ _ c.position.ensures.ran (YieldsList-from_pairs c.args.rest.now (cc) (cc)) (λ x b q k. search (rules, tests)) in
    block_open _ _ found c.in-None.is
