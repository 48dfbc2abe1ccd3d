use Rattle.tokenizer.proofs.Walks.{begun}
use Rattle.tight.proofs.TightWalk.{measure_start, measure_inside, measure_key, measure_added, measure_fits, measure_more, measure_end, end_fits}
use Rattle.tight.proofs.text.tight_length.Goals as goal

pub loop-token-init : goal.loop-token-init
loop-token-init c = search (begun, measure_start)

pub added_length-count-requires : goal.added_length-count-requires
added_length-count-requires c = search measure_added

pub overflow_add-count : goal.overflow_add-count
overflow_add-count c = search measure_fits

pub invariant_of-placed : goal.invariant_of-placed
invariant_of-placed c = record { text_inside = search measure_inside; key_inside = search measure_key }

pub loop-token-preserved : goal.loop-token-preserved
loop-token-preserved c = search measure_more

pub overflow_add-result : goal.overflow_add-result
overflow_add-result c = search end_fits

pub returns : goal.returns
returns c = search measure_end
