use Rattle.std.proofs.Common.{IfSome, OnOk, length, ◌≡◌, ◌≤◌, arith, take, sym, ◌∙◌, subst}
use Rattle.std.specs.Io.KnownBytes.{Appends}
use Rattle.filling.specs.Input.{sheet_of}
use Rattle.filling.specs.Printed.{fill_printed}
use Rattle.filling.proofs.Whole.{fill_whole, whole_input}
use Rattle.filling.proofs.answer.Goals as goal

pub returns : goal.returns
returns g c =
    let before = g.W.Write.contents c.args.output.now in
    let after = g.W.Write.contents c.print_filled.new.output in
    let sheet = take c.in_ok-sheet_len.sheet_len c.read_sheet.new.kept in
    let statement = take c.in_ok-len.len c.read_text.new.space in
    let room : length c.read_sheet.new.kept ≡ 65537 = c.read_sheet.auto.kept ∙ sym c.zeroed-sheet.ensures in
    let space : length c.read_text.new.space ≡ 65537 = c.read_text.auto.space ∙ sym c.zeroed-statement.ensures in
    let four : 4 ≤ length c.read_sheet.new.kept = omega (arith, room) in
    whole_input _ (g.R.Read.remaining c.read_sheet.new.input) c.print_filled.result (λ s whole. Appends before after (fill_printed s whole 131072)) sheet statement 65537
    (subst (λ m. IfSome (g.R.Read.remaining c.args.input.now) (λ xs. sheet ≡ take m (sheet_of xs))) room (c.in_ok-sheet_len.ensures.sheet four))
    (c.in_ok-sheet_len.ensures.statement four)
    (subst (λ m. IfSome (g.R.Read.remaining c.read_sheet.new.input) (λ xs. statement ≡ take m xs)) space c.in_ok-len.ensures.text)
    (λ s whole shown. subst (Appends before after) (fill_whole s whole 131072) shown)
    (subst (λ m. OnOk c.print_filled.result (Appends before after (fill_printed statement sheet m))) (sym c.zeroed-space.ensures) c.print_filled.ensures)
