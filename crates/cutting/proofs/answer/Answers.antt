use Rattle.std.proofs.Common.{sym, ◌∙◌}
use Rattle.console.proofs.Whole.{whole_input}
use Rattle.cutting.specs.Printed.{cutting_printed}
use Rattle.cutting.proofs.Scripts.{script_whole}
use Rattle.cutting.proofs.answer.Goals as goal

pub returns : goal.returns
returns g c = whole_input _ _ _ _ cutting_printed c.read_text.new.space _ (c.zeroed-space.ensures ∙ sym c.read_text.auto.space) c.in_ok-n.ensures.text script_whole c.print_cut.ensures
