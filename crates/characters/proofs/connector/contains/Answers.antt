use Rattle.characters.specs.Connector.{connector}
use Rattle.characters.proofs.Ordered.{connector_ordered}
use Rattle.characters.proofs.connector.contains.Goals as goal

pub returns : goal.returns
unfolding connector
returns c = c.in_ranges.ensures connector_ordered
