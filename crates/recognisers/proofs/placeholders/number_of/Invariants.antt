use Rattle.recognisers.proofs.PlaceholderLaws.{NumberAt}
use Rattle.recognisers.proofs.placeholders.number_of.Given as goal

abbrev pub invariant-loop-d : goal.invariant-loop-d
invariant-loop-d l = NumberAt l.digits l.n l.d-index
