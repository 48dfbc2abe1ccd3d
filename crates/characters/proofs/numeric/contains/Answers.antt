use Rattle.characters.specs.Numeric.{numeric}
use Rattle.characters.proofs.Ordered.{numeric_ordered}
use Rattle.characters.proofs.numeric.contains.Goals as goal

pub returns : goal.returns
unfolding numeric
returns c = c.in_ranges.ensures numeric_ordered
