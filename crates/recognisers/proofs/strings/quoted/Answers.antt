use Rattle.std.proofs.Common.{rules}
use Rattle.recognisers.specs.Strings.{closed_by}
use Rattle.recognisers.proofs.ClosingQuote.{quoted_inside}
use Rattle.recognisers.proofs.Preceded.{front_fits, literal_none, literal_fails, literal_then}
use Rattle.recognisers.proofs.strings.quoted.Goals as goal

pub returns-in_err-behind : goal.returns-in_err-behind
returns-in_err-behind c = search (rules, literal_none (closed_by c.args.desired c.args.escapes.now))

pub returns-in_err-closed_by : goal.returns-in_err-closed_by
returns-in_err-closed_by c = search (rules, literal_fails (closed_by c.args.desired c.args.escapes.now))

pub overflow_add-result : goal.overflow_add-result
overflow_add-result c = search (front_fits (closed_by c.args.desired c.args.escapes.now) (quoted_inside c.args.desired c.args.escapes.now), c.in_ok-behind.ensures, c.in_ok-closed_by.was)

pub returns : goal.returns
returns c = search (rules, literal_then (closed_by c.args.desired c.args.escapes.now))
