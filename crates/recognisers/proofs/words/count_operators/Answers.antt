use Rattle.std.proofs.Common.{not, ◌∙◌, ap, ◌≡◌, rules, tests}
use Rattle.std.specs.List.{position}
use Rattle.std.specs.Option.{unwrap_or}
use lib.ListN.{length}
use Rattle.std.proofs.lemmas.Iterator.{YieldsList-from_slice}
use Rattle.std.proofs.lemmas.Iterator.Search.{position_from_yields_List}
use Rattle.recognisers.specs.Words.{is_operator}
use Rattle.recognisers.proofs.LibraryWords.{counted}
use Rattle.recognisers.proofs.words.count_operators.Goals as goal

pub returns : goal.returns
returns c =
    let found : c.position-end.result ≡ position (λ b. not (is_operator b)) c.args.rest.now = position_from_yields_List (λ b. not (is_operator b)) _ _ _ c.position-end.ensures.ran (YieldsList-from_slice c.args.rest.now cc) (λ x b q k. search (rules, tests)) in
    c.unwrap_or.ensures ∙ ap (λ o. unwrap_or o (length c.args.rest.now)) found ∙ counted is_operator c.args.rest.now
