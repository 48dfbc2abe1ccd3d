use Rattle.std.proofs.Common.{rules}
use Rattle.recognisers.proofs.Unsigned.{digits_fit, decimal_none, decimal_fails, decimal_then, decimal_fits}
use Rattle.recognisers.proofs.numbers.decimal_number.Goals as goal

pub returns-in_err-whole : goal.returns-in_err-whole
returns-in_err-whole c = search (rules, decimal_none)

pub slice_bounds-strip_prefix-count : goal.slice_bounds-strip_prefix-count
slice_bounds-strip_prefix-count c = search (digits_fit, c.in_ok-whole.was)

pub slice_bounds-strip_prefix-start : goal.slice_bounds-strip_prefix-start
slice_bounds-strip_prefix-start c = search (digits_fit, c.in_ok-whole.was)

pub returns-in_err-fraction : goal.returns-in_err-fraction
returns-in_err-fraction c = search (rules, decimal_fails)

pub overflow_add-result-2 : goal.overflow_add-result-2
overflow_add-result-2 c = search (decimal_fits, c.in_ok-whole.was, c.in_ok-fraction.ensures)

pub returns : goal.returns
returns c = search (rules, decimal_then)
