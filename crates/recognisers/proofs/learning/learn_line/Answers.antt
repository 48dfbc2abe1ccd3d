use Rattle.recognisers.proofs.Unclosed.{line_learnt}
use Rattle.recognisers.proofs.learning.learn_line.Goals as goal

pub returns : goal.returns
returns c =
    let part = c.in-Some.ensures.lookup.0 in
    line_learnt _ _ _ c.requires _ _ part.2 part.3 c.lone_return-hints.ensures
