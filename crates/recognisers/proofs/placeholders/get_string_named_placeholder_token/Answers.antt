use Rattle.std.proofs.Common.{rules}
use mathlib.Core.Path.{sym}
use lib.Seq.{length-take-le}
use Rattle.recognisers.proofs.PlaceholderLaws.{string_named_fits, string_token, string_nothing}
use Rattle.recognisers.proofs.placeholders.get_string_named_placeholder_token.Goals as goal

pub returns-in_err-n : goal.returns-in_err-n
returns-in_err-n c = search (rules, string_nothing)

pub string_key-requires : goal.string_key-requires
string_key-requires c = search (string_named_fits, c.in_ok-n.was)

pub slice_bounds-string_named_pairs-end : goal.slice_bounds-string_named_pairs-end
slice_bounds-string_named_pairs-end c = sym (length-take-le _ _ (search (string_named_fits, c.in_ok-n.was)))

pub returns : goal.returns
returns c = search (string_token, c.in_ok-n.was)
