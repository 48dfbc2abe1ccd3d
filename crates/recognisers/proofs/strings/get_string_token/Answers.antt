use Rattle.std.proofs.Common.{rules}
use mathlib.Core.Path.{sym}
use lib.Seq.{length-take-le}
use Rattle.recognisers.proofs.EscapedQuotes.{string_token, string_nothing}
use Rattle.recognisers.proofs.PieceSizes.{string_fits}
use Rattle.recognisers.proofs.strings.get_string_token.Goals as goal

pub returns-in_err-n : goal.returns-in_err-n
returns-in_err-n c = search (rules, string_nothing)

pub slice_bounds-string_pairs-end : goal.slice_bounds-string_pairs-end
slice_bounds-string_pairs-end c = sym (length-take-le _ _ (search (string_fits, c.in_ok-n.was)))

pub returns : goal.returns
returns c = search (string_token, c.in_ok-n.was)
