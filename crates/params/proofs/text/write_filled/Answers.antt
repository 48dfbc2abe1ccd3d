use Rattle.std.proofs.Common.{rules}
use Rattle.tokenizer.proofs.Walks.{begun, write_start, write_room, write_to, write_count, write_end, token_inside, token_key}
use Rattle.params.proofs.FillWalk.{long_in, index_in, put_in, filled_is}
use Rattle.params.proofs.text.write_filled.Goals as goal

pub loop-token-init : goal.loop-token-init
loop-token-init c = (search (begun, write_start, filled_is), search rules)

pub invariant_of-placed-clause-text_inside : goal.invariant_of-placed-clause-text_inside
invariant_of-placed-clause-text_inside c = search token_inside

pub invariant_of-placed-clause-key_inside : goal.invariant_of-placed-clause-key_inside
invariant_of-placed-clause-key_inside c =
    token_key c.args.filling.search.settings c.args.filling.search.text.now _ _ _ c.loop-token.invariant.0.counted.rest c.next.ensures.steps c.in-Some.token c.in-Some.is

pub put_for-at-requires : goal.put_for-at-requires
put_for-at-requires c = search (write_room, long_in, c.loop-token.invariant.0, c.loop-token.invariant.1)

pub loop-token-preserved : goal.loop-token-preserved
loop-token-preserved c = (
  search (write_to, long_in, index_in, put_in, c.loop-token.invariant.0, c.loop-token.invariant.1),
  search (rules, c.loop-token.invariant.1),
)

pub returns-clause-value : goal.returns-clause-value
returns-clause-value c = search (write_count, c.loop-token.invariant.0)

pub returns-clause-output_after : goal.returns-clause-output_after
returns-clause-output_after c = search (write_end, c.loop-token.invariant.0)
