use Rattle.characters.specs.Alphabetic.{alphabetic}
use Rattle.characters.proofs.Ordered.{alphabetic_ordered}
use Rattle.characters.proofs.alphabetic.contains.Goals as goal

pub returns : goal.returns
unfolding alphabetic
returns c = c.in_ranges.ensures alphabetic_ordered
