use Rattle.std.proofs.Common.{rules, refl}
use Rattle.reserved.proofs.FirstWord.{entry_value}
use Rattle.reserved.proofs.gaps.Gaps.entry_end.Goals as goal

pub returns-clause-value : goal.returns-clause-value
returns-clause-value c =
    entry_value c.args.group c.args.words.now c.args.self.now.rest.now c.args.n (search rules) c.in_ok-first.first.now c.in_ok-first.more.now (search rules) (search rules) (search rules) (search rules) _ c.in_ok-end.ensures.value _ refl _ (rw c.words_end.ensures.rest at c.ending.ensures.value) _ c.n_more.ensures
