use Rattle.characters.specs.Mark.{mark}
use Rattle.characters.proofs.Ordered.{mark_ordered}
use Rattle.characters.proofs.mark.contains.Goals as goal

pub returns : goal.returns
unfolding mark
returns c = c.in_ranges.ensures mark_ordered
