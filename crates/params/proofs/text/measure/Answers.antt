use Rattle.std.proofs.Common.{rules}
use Rattle.tokenizer.proofs.Walks.{begun, count_start, count_fits, count_more, count_end, token_inside, token_key}
use Rattle.params.proofs.Noughts.{nought_start, nought_passed, nought_found, nought_nowhere}
use Rattle.params.proofs.FillWalk.{long_in, index_in, stops_in, filled_is, filled_fits}
use Rattle.params.proofs.text.measure.Goals as goal

pub loop-token-init : goal.loop-token-init
loop-token-init c = (search (begun, count_start, filled_is), search rules, search (begun, nought_start))

pub invariant_of-placed-clause-text_inside : goal.invariant_of-placed-clause-text_inside
invariant_of-placed-clause-text_inside c = search token_inside

pub invariant_of-placed-clause-key_inside : goal.invariant_of-placed-clause-key_inside
invariant_of-placed-clause-key_inside c =
    token_key c.args.filling.search.settings c.args.filling.search.text.now _ _ _ c.loop-token.invariant.0.rest c.next.ensures.steps c.in-Some.token c.in-Some.is

pub overflow_add-count : goal.overflow_add-count
overflow_add-count c = search (count_fits, filled_fits, long_in, c.args.filling.search.short, c.args.filling.sheet.good, c.loop-token.invariant.0, c.loop-token.invariant.1)

pub loop-token-preserved : goal.loop-token-preserved
loop-token-preserved c = (
  search (count_more, long_in, index_in, c.loop-token.invariant.0, c.loop-token.invariant.1),
  search (rules, c.loop-token.invariant.1),
  search (nought_passed, stops_in, c.loop-token.invariant.1, c.loop-token.invariant.2),
)

pub returns : goal.returns
returns c = search (count_end, nought_nowhere, c.loop-token.invariant.0, c.loop-token.invariant.2)

pub returns-then-stops : goal.returns-then-stops
returns-then-stops c = search (nought_found, stops_in, c.loop-token.invariant.1, c.loop-token.invariant.2)
