use Rattle.std.proofs.Common.{rules}
use Rattle.recognisers.proofs.ClosingQuote.{unclosed_is, closed_then, closed_small}
use Rattle.recognisers.proofs.strings.closed_by.Goals as goal

pub returns-in_err-take_till_escaping : goal.returns-in_err-take_till_escaping
returns-in_err-take_till_escaping c = search (rules, unclosed_is)

pub overflow_add-result : goal.overflow_add-result
overflow_add-result c = search (closed_small c.args.desired c.args.escapes.now c.args.rest.now, c.in_ok-take_till_escaping.was)

pub returns : goal.returns
returns c = search (rules, closed_then)
