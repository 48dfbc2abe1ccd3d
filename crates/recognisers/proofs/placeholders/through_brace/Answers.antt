use Rattle.std.proofs.Common.{eqb, rules, tests, ◌≡◌}
use Rattle.std.specs.List.{position}
use Rattle.std.proofs.lemmas.Iterator.{YieldsList-from_slice}
use Rattle.std.proofs.lemmas.Iterator.Search.{position_from_yields_List}
use Rattle.recognisers.proofs.PlaceholderLaws.{brace_none, brace_here}
use Rattle.recognisers.proofs.placeholders.through_brace.Goals as goal

pub returns-in_err-position : goal.returns-in_err-position
returns-in_err-position c =
    let found : c.position.result ≡ position (λ b. eqb b 125) c.args.rest.now = position_from_yields_List (λ b. eqb b 125) _ _ _ c.position.ensures.ran (YieldsList-from_slice c.args.rest.now cc) (λ x b q k. search (rules, tests)) in
    brace_none _ _ found _ c.in_err-position.was c.from_residual.ensures

pub returns : goal.returns
returns c =
    let found : c.position.result ≡ position (λ b. eqb b 125) c.args.rest.now = position_from_yields_List (λ b. eqb b 125) _ _ _ c.position.ensures.ran (YieldsList-from_slice c.args.rest.now cc) (λ x b q k. search (rules, tests)) in
    brace_here _ _ found _ c.in_ok-position.was
