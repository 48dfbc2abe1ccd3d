use Rattle.recognisers.specs.Placeholder.{placeholder_name}
use Rattle.characters.specs.Runs.{in_class}
use Rattle.recognisers.proofs.placeholders.placeholder_name.Goals as goal

pub returns : goal.returns
unfolding placeholder_name in_class
returns c = cc
