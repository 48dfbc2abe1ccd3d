use Rattle.std.proofs.Common.{rules}
use Rattle.recognisers.proofs.Unclosed.{single_known, double_known, brace_hint, single_learnt, double_learnt, brace_learnt, known_looked, brace_looked}
use Rattle.recognisers.proofs.learning.learn_by.Goals as goal

pub returns-in-39 : goal.returns-in-39
returns-in-39 c = single_learnt _ _ _ c.requires.truthful (known_looked _ _ _ (λ r h. search rules) _ _ _ _ (single_known _ _ c.requires.truthful) c.known_behind-hints.ensures)

pub returns-in-34 : goal.returns-in-34
returns-in-34 c = double_learnt _ _ _ c.requires.truthful (known_looked _ _ _ (λ r h. search rules) _ _ _ _ (double_known _ _ c.requires.truthful) c.known_behind-hints-in-34.ensures)

pub returns-in-123 : goal.returns-in-123
returns-in-123 c = brace_learnt _ _ _ c.requires.truthful (brace_looked _ (λ r h. search rules) _ _ _ _ (brace_hint _ _ c.requires.truthful) c.known_behind-hints-in-123.ensures)
