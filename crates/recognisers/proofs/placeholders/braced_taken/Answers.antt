use Rattle.std.proofs.Common.{rules}
use Rattle.recognisers.specs.Placeholder.{braced_text, braced_taken}
use Rattle.recognisers.specs.Text.{bytes}
use Rattle.recognisers.proofs.PlaceholderLaws.{braced_inside}
use Rattle.recognisers.proofs.Preceded.{one_fits, begun_none, begun_fails, begun_then}
use Rattle.recognisers.proofs.placeholders.braced_taken.Goals as goal

pub returns-then-not-starts_with : goal.returns-then-not-starts_with
unfolding braced_taken
returns-then-not-starts_with c = search (rules, begun_none braced_text)

pub returns-in_err-braced_text : goal.returns-in_err-braced_text
unfolding braced_taken
returns-in_err-braced_text c = search (rules, begun_fails braced_text)

pub overflow_add-result : goal.overflow_add-result
overflow_add-result c = search (rules, one_fits braced_text braced_inside, c.in_ok-braced_text.was)

pub returns : goal.returns
unfolding braced_taken
returns c = search (rules, begun_then braced_text (bytes "{"))
