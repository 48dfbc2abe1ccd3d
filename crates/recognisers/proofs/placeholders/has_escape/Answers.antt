use Rattle.std.proofs.Common.{eqb, ◌&&◌, ◌∙◌, rules, tests}
use Rattle.std.proofs.lemmas.Iterator.{YieldsList-from_slice, YieldsList-from_zip}
use Rattle.std.proofs.lemmas.Iterator.Adapters.{YieldsList-from_skip}
use Rattle.std.proofs.lemmas.Iterator.Search.{any_from_yields_List}
use Rattle.recognisers.proofs.PlaceholderLaws.{escape_at}
use Rattle.recognisers.proofs.placeholders.has_escape.Goals as goal

pub returns : goal.returns
returns c =
    any_from_yields_List (λ p. eqb p.0 92 && eqb p.1 c.args.quote) c.any.new.self _ _ c.any.ensures.ran (YieldsList-from_zip (YieldsList-from_slice c.args.text.now cc) (YieldsList-from_skip 1 (YieldsList-from_slice c.args.text.now cc) cc)) (λ x b q k. search (rules, tests))
    ∙ escape_at _ _
