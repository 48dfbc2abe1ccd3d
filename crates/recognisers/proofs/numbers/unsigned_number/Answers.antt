use Rattle.std.proofs.Common.{rules}
use Rattle.recognisers.proofs.Unsigned.{unsigned_none, whole_fits, unsigned_then, unsigned_fits}
use Rattle.recognisers.proofs.numbers.unsigned_number.Goals as goal

pub returns-in_err-n : goal.returns-in_err-n
returns-in_err-n c = search (rules, unsigned_none)

pub slice_bounds-exponent-count : goal.slice_bounds-exponent-count
slice_bounds-exponent-count c = search (whole_fits, c.in_ok-n.was)

pub slice_bounds-exponent-start : goal.slice_bounds-exponent-start
slice_bounds-exponent-start c = search (whole_fits, c.in_ok-n.was)

pub overflow_add-result : goal.overflow_add-result
overflow_add-result c = search (unsigned_fits, c.in_ok-n.was)

pub returns : goal.returns
returns c = search (unsigned_then, c.in_ok-n.was)
