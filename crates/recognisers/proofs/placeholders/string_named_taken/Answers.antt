use Rattle.std.proofs.Common.{rules}
use Rattle.recognisers.specs.Strings.{placeholder_string_taken}
use Rattle.recognisers.specs.Placeholder.{string_named_taken}
use Rattle.recognisers.proofs.PlaceholderLaws.{placeholder_string_inside}
use Rattle.recognisers.proofs.Preceded.{some_first, one_fits, marked_none, marked_fails, marked_then}
use Rattle.recognisers.proofs.placeholders.string_named_taken.Goals as goal

pub returns-then-not-starts_among : goal.returns-then-not-starts_among
unfolding string_named_taken
returns-then-not-starts_among c = search (rules, marked_none (placeholder_string_taken c.args.rest.dialect))

pub returns-in_err-placeholder_string_taken : goal.returns-in_err-placeholder_string_taken
unfolding string_named_taken
returns-in_err-placeholder_string_taken c = search (rules, marked_fails (placeholder_string_taken c.args.rest.dialect))

pub overflow_add-result : goal.overflow_add-result
overflow_add-result c = search (rules, one_fits (placeholder_string_taken c.args.rest.dialect) (placeholder_string_inside c.args.rest.dialect), c.in_ok-placeholder_string_taken.was)

pub returns : goal.returns
unfolding string_named_taken
returns c = search (rules, marked_then (placeholder_string_taken c.args.rest.dialect))

pub behind-requires : goal.behind-requires
behind-requires c = search (rules, some_first)
