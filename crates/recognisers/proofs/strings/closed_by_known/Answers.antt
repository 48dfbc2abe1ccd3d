use Rattle.std.proofs.Common.{rules}
use Rattle.recognisers.proofs.ClosingQuote.{unclosed_is, closed_then, closed_small}
use Rattle.recognisers.proofs.strings.closed_by_known.Goals as goal

pub returns-in_err-take_till_escaping_known : goal.returns-in_err-take_till_escaping_known
returns-in_err-take_till_escaping_known c = search (rules, unclosed_is)

pub overflow_add-result : goal.overflow_add-result
overflow_add-result c = search (closed_small c.args.desired c.args.escapes.now c.args.rest.now, c.in_ok-take_till_escaping_known.was)

pub returns : goal.returns
returns c = search (rules, closed_then)
