use Rattle.std.proofs.Common.{sym, ◌∙◌}
use Rattle.console.proofs.Whole.{whole_input}
use Rattle.listing.specs.Printed.{listing_printed}
use Rattle.listing.proofs.Statements.{listing_whole}
use Rattle.listing.proofs.answer.Goals as goal

pub returns : goal.returns
returns g c = whole_input _ _ _ _ listing_printed c.read_text.new.space _ (c.zeroed-space.ensures ∙ sym c.read_text.auto.space) c.in_ok-n.ensures.text listing_whole c.print_listing.ensures
