use Rattle.std.proofs.Common.{rules}
use Rattle.recognisers.proofs.Unclosed.{next_fits}
use Rattle.recognisers.proofs.learning.learn_dashes.Goals as goal

pub overflow_add-from : goal.overflow_add-from
overflow_add-from c = search (rules, next_fits)
