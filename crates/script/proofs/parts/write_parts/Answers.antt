use Rattle.script.proofs.PartWalk.{cut_start, cut_order, cut_inside, cut_key, cut_room, cut_more, cut_end, cut_count}
use Rattle.script.proofs.parts.write_parts.Goals as goal

pub loop-token-init : goal.loop-token-init
loop-token-init c = search cut_start

pub invariant_of-placed : goal.invariant_of-placed
invariant_of-placed c = record { text_inside = search cut_inside; key_inside = search cut_key }

pub put_ended-at-requires-clause-order : goal.put_ended-at-requires-clause-order
put_ended-at-requires-clause-order c = search cut_order

pub put_ended-at-requires-clause-room : goal.put_ended-at-requires-clause-room
put_ended-at-requires-clause-room c = search cut_room

pub loop-token-preserved : goal.loop-token-preserved
loop-token-preserved c = search cut_more

pub returns-clause-value : goal.returns-clause-value
returns-clause-value c = search cut_count

pub returns-clause-places_after : goal.returns-clause-places_after
returns-clause-places_after c = search cut_end
