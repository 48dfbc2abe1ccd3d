use Rattle.std.proofs.Common.{rules}
use Rattle.recognisers.proofs.FirstBytes.{first_not}
use Rattle.recognisers.proofs.PlaceholderOrder.{braces_are, index_found, name_found, names_alone}
use Rattle.recognisers.proofs.placeholders.placeholder.Goals as goal

pub returns-then-first-eq123 : goal.returns-then-first-eq123
returns-then-first-eq123 c = braces_are _ _ _ _ _ c.requires.1 c.if-first-eq123.true c.get_braced_named_placeholder_token.ensures

pub returns-in-Some : goal.returns-in-Some
returns-in-Some c = index_found _ _ _ (first_not _ _ _ c.requires.1 c.if-first-eq123.false) _ c.index_before_name.ensures _ c.in-Some.is

pub returns : goal.returns
returns c = name_found _ _ _ (first_not _ _ _ c.requires.1 c.if-first-eq123.false) _ c.index_before_name.ensures _ (search rules) c.name_or_string-2.ensures

pub returns-then-is_among : goal.returns-then-is_among
returns-then-is_among c = names_alone _ _ _ _ c.requires.1 (search rules) _ c.name_or_string.ensures
