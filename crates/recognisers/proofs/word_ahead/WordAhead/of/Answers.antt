use Rattle.std.proofs.Common.{not, ◌∙◌, ap, ◌≡◌, rules, tests}
use Rattle.std.specs.List.{position}
use Rattle.std.specs.Option.{unwrap_or}
use lib.ListN.{length}
use Rattle.std.proofs.lemmas.Iterator.{YieldsList-from_slice}
use Rattle.std.proofs.lemmas.Iterator.Search.{position_from_yields_List}
use Rattle.characters.specs.Ascii.{is_ascii_word}
use Rattle.recognisers.specs.Inner.WordLength.{word_length}
use Rattle.recognisers.proofs.LibraryWords.{counted}
use Rattle.recognisers.proofs.word_ahead.WordAhead.of.Goals as goal

pub invariant_of-result : goal.invariant_of-result
unfolding word_length
invariant_of-result c =
    let found : c.position-end.result ≡ position (λ b. not (is_ascii_word b)) c.args.rest.now = position_from_yields_List (λ b. not (is_ascii_word b)) _ _ _ c.position-end.ensures.ran (YieldsList-from_slice c.args.rest.now cc) (λ x b q k. search (rules, tests)) in
    record { measured = c.unwrap_or.ensures ∙ ap (λ o. unwrap_or o (length c.args.rest.now)) found ∙ counted is_ascii_word c.args.rest.now }
