use Rattle.tokenizer.proofs.OneStep.{one_less, goes_on}
use Rattle.tokenizer.proofs.walking.TokensIterator.next.Goals as goal

pub returns-clause-steps : goal.returns-clause-steps
returns-clause-steps c = one_less c.args.self.now _ _ _ _ c.next_step.ensures.stepped

pub returns-clause-goes : goal.returns-clause-goes
returns-clause-goes c = goes_on c.args.self.now _ _ _ _ (one_less c.args.self.now _ _ _ _ c.next_step.ensures.stepped)
