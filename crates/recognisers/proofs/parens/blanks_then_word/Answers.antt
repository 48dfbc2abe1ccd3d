use Rattle.std.proofs.Common.{rules}
use Rattle.recognisers.proofs.Blanks.{blanks_fit, behind_none, behind_fails, behind_then, behind_fits}
use Rattle.recognisers.proofs.parens.blanks_then_word.Goals as goal

pub returns-then-n-eq0 : goal.returns-then-n-eq0
returns-then-n-eq0 c = search (rules, behind_none)

pub slice_bounds-caseless_word-count : goal.slice_bounds-caseless_word-count
slice_bounds-caseless_word-count c = search (rules, blanks_fit)

pub slice_bounds-caseless_word-start : goal.slice_bounds-caseless_word-start
slice_bounds-caseless_word-start c = search (rules, blanks_fit)

pub returns-in_err-caseless_word : goal.returns-in_err-caseless_word
returns-in_err-caseless_word c = search (rules, behind_fails)

pub overflow_add-result : goal.overflow_add-result
overflow_add-result c = search (behind_fits, c.in_ok-caseless_word.was)

pub returns : goal.returns
returns c = search (behind_then, c.in_ok-caseless_word.was)
