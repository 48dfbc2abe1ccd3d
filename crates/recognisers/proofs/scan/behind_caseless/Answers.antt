use Rattle.std.proofs.Common.{eqb, ◌∙◌, sym, ◌≡◌, rules, tests}
use Rattle.std.specs.List.{list_all, zip}
use Rattle.std.proofs.lemmas.Iterator.{YieldsList-from_slice, YieldsList-from_zip}
use Rattle.std.proofs.lemmas.Iterator.Search.{all_from_yields_List}
use Rattle.recognisers.specs.Taking.{capital}
use Rattle.recognisers.proofs.Spelling.{spelled_short}
use Rattle.recognisers.proofs.LibraryWords.{upper, paired}
use Rattle.recognisers.proofs.Preceded.{told_behind}
use Rattle.recognisers.proofs.scan.behind_caseless.Goals as goal

pub returns-in_err-front : goal.returns-in_err-front
returns-in_err-front c = rw c.from_residual.ensures (sym (spelled_short capital _ _ c.in_err-front.ensures.cases))

pub returns : goal.returns
returns c =
    let cut = c.in_ok-front.ensures.cases in
    let told : c.all.result ≡ list_all (λ p. eqb (capital p.0) p.1) (zip c.in_ok-front.front.now c.args.word.now) = all_from_yields_List (λ p. eqb (capital p.0) p.1) c.all.new.self _ _ c.all.ensures.ran (YieldsList-from_zip (YieldsList-from_slice c.in_ok-front.front.now cc) (YieldsList-from_slice c.args.word.now cc)) (λ x b q k. search (rules, tests, upper)) in
    let passes = rw cut.1 at told ∙ paired capital _ _ cut.0 in
    told_behind _ _ _ _ _ (rw passes at c.then_some.ensures) cut.2 cut.4
