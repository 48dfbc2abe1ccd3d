use Rattle.std.proofs.Common.{rules}
use Rattle.recognisers.specs.Strings.{closed_by}
use Rattle.recognisers.proofs.ClosingQuote.{behind_none, quoted_inside}
use Rattle.recognisers.proofs.Preceded.{front_fits}
use Rattle.recognisers.proofs.Unclosed.{known_behind}
use Rattle.recognisers.proofs.strings.quoted_known.Goals as goal

pub returns-in_err-behind : goal.returns-in_err-behind
returns-in_err-behind c = search (rules, behind_none)

pub closed_by_known-requires : goal.closed_by_known-requires
closed_by_known-requires c = known_behind _ _ _ _ _ _ c.in_ok-behind.ensures.cases.0 c.requires

pub overflow_add-result : goal.overflow_add-result
overflow_add-result c = search (front_fits (closed_by c.args.desired c.args.escapes.now) (quoted_inside c.args.desired c.args.escapes.now), c.in_ok-behind.ensures, c.in_ok-closed_by_known.was)
