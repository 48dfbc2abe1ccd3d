use Rattle.characters.specs.WhiteSpace.{white_space}
use Rattle.characters.proofs.Ordered.{white_space_ordered}
use Rattle.characters.proofs.white_space.contains.Goals as goal

pub returns : goal.returns
unfolding white_space
returns c = c.in_ranges.ensures white_space_ordered
