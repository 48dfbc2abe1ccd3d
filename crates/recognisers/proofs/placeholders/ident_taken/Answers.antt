use Rattle.std.proofs.Common.{rules}
use Rattle.recognisers.specs.Placeholder.{placeholder_name, ident_taken}
use Rattle.recognisers.proofs.PlaceholderLaws.{name_inside}
use Rattle.recognisers.proofs.Preceded.{front_fits, marked_none, marked_fails, marked_then}
use Rattle.recognisers.proofs.placeholders.ident_taken.Goals as goal

pub returns-in_err-behind : goal.returns-in_err-behind
unfolding ident_taken
returns-in_err-behind c = search (rules, marked_none placeholder_name)

pub returns-in_err-placeholder_name : goal.returns-in_err-placeholder_name
unfolding ident_taken
returns-in_err-placeholder_name c = search (rules, marked_fails placeholder_name)

pub overflow_add-result : goal.overflow_add-result
overflow_add-result c = search (front_fits placeholder_name name_inside, c.in_ok-behind.ensures, c.in_ok-placeholder_name.was)

pub returns : goal.returns
unfolding ident_taken
returns c = search (rules, marked_then placeholder_name)
