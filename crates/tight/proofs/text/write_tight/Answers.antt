use Rattle.tokenizer.proofs.Walks.{begun}
use Rattle.tight.proofs.TightWalk.{writes_start, writes_inside, writes_key, writes_room, writes_more, last_room, writes_count, writes_end}
use Rattle.tight.proofs.text.write_tight.Goals as goal

pub loop-token-init : goal.loop-token-init
loop-token-init c = search (begun, writes_start)

pub invariant_of-placed : goal.invariant_of-placed
invariant_of-placed c = record { text_inside = search writes_inside; key_inside = search writes_key }

pub put_added-at-requires : goal.put_added-at-requires
put_added-at-requires c = search writes_room

pub loop-token-preserved : goal.loop-token-preserved
loop-token-preserved c = search writes_more

pub put_gap-requires : goal.put_gap-requires
put_gap-requires c = search last_room

pub returns-clause-value : goal.returns-clause-value
returns-clause-value c = search writes_count

pub returns-clause-output_after : goal.returns-clause-output_after
returns-clause-output_after c = search writes_end
