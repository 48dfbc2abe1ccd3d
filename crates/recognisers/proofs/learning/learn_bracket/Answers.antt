use Rattle.std.proofs.Common.{rules}
use Rattle.recognisers.proofs.Unclosed.{square_known, square_learnt, known_looked}
use Rattle.recognisers.proofs.learning.learn_bracket.Goals as goal

pub returns-then-eq : goal.returns-then-eq
returns-then-eq c = square_learnt _ _ _ c.requires (known_looked _ _ _ (λ r h. search rules) _ _ _ _ (square_known _ _ c.requires) c.known_behind-hints.ensures)
