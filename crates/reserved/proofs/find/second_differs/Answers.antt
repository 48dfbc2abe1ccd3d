use Rattle.std.proofs.Common.{rules, sym, ◌∙◌}
use borrow.Author.Tests.{eqb-false, not-true}
use Rattle.reserved.proofs.PhraseWalk.{second_apart}
use Rattle.reserved.proofs.find.second_differs.Goals as goal

pub returns : goal.returns
returns c group s e n =
    second_apart group c.args.words.now s (search rules) (search rules) (search rules) (λ q. eqb-false _ _ (not-true _ n) (q ∙ sym e))
