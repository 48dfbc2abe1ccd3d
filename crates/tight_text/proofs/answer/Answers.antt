use Rattle.std.proofs.Common.{OnOk, take, sym, ◌∙◌, subst}
use Rattle.std.specs.Io.KnownBytes.{Appends}
use Rattle.console.proofs.Whole.{call_whole, whole_input}
use Rattle.tight.specs.TightText.{tight}
use Rattle.tight_text.specs.Printed.{tight_printed}
use Rattle.tight_text.proofs.answer.Goals as goal

pub returns : goal.returns
returns g c =
    whole_input _ c.print_tight.result (g.W.Write.contents c.args.output.now) (g.W.Write.contents c.print_tight.new.output) (λ s. tight_printed s 65537) c.read_text.new.space _
    (c.zeroed-statement.ensures ∙ sym c.read_text.auto.space) c.in_ok-n.ensures.text (call_whole (λ s settings. tight settings s) 0 0 0 65537)
    (subst (λ m. OnOk c.print_tight.result (Appends (g.W.Write.contents c.args.output.now) (g.W.Write.contents c.print_tight.new.output) (tight_printed (take c.in_ok-n.n c.read_text.new.space) m)))
    (sym c.zeroed-space.ensures) c.print_tight.ensures)
