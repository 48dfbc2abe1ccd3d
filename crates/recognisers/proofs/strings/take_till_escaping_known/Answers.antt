use Rattle.recognisers.proofs.Unclosed.{run_inside, run_two, run_less, run_here}
use Rattle.recognisers.proofs.strings.take_till_escaping_known.Goals as goal

pub escaped_at-requires : goal.escaped_at-requires
escaped_at-requires c = search run_inside

pub loop-i-smaller : goal.loop-i-smaller
loop-i-smaller c = search run_less

pub loop-i-preserved : goal.loop-i-preserved
loop-i-preserved c = search run_two

pub returns-else-escaped_at : goal.returns-else-escaped_at
returns-else-escaped_at c = search run_here
