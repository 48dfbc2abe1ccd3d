use Rattle.std.proofs.Common.{rules, inl, ◌∙◌}
use Rattle.std.proofs.lemmas.Iterator.Adapters.{serves_from_places}
use Rattle.std.proofs.lemmas.Iterator.Consumers.{YieldsList-at, YieldsList-from_first, YieldsList-from_filter, count_from_yields_List}
use Rattle.script.specs.Inner.Ended.{ends_part}
use Rattle.script.proofs.PartWalk.{parts_counted}
use Rattle.tokenizer.specs.Left.{tokens_left}
use Rattle.tokenizer.proofs.EachToken.{inside_at, key_at}
use Rattle.tokenizer.proofs.OneStep.{left_fits}
use Rattle.tokenizer.proofs.Walks.{begun}
use Rattle.script.proofs.parts.count_parts.Goals as goal

pub count-requires-clause-can : goal.count-requires-clause-can
count-requires-clause-can c = (
  tt,
  tt,
  serves_from_places (YieldsList-at c.filter.ensures.source (YieldsList-from_first (λ x. x) tokens_left _ c.new.ensures)) (λ x q k. search rules) (λ x k l e. search (rules, inside_at, key_at)),
)

pub count-requires-clause-fits : goal.count-requires-clause-fits
count-requires-clause-fits c = inl (left_fits _ _ _ (begun _ _ _ _ c.filter.ensures.source c.new.ensures) (search rules))

pub returns : goal.returns
returns c = count_from_yields_List _ _ c.count.ensures.ran (YieldsList-from_filter _ (ends_part c.args.script.now) (YieldsList-at c.filter.ensures.source (YieldsList-from_first (λ x. x) tokens_left _ c.new.ensures)) c.filter.ensures.closure (λ x r q k. search rules)) ∙ search parts_counted
