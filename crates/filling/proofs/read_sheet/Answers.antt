use Rattle.std.proofs.Common.{rules, ◌≡◌, ◌≤◌, ◌<◌, ◌-◌, take, length, sym, ap, ◌∙◌, subst}
use Rattle.calls.specs.LittleEndian.{number_at}
use Rattle.filling.specs.Input.{Skips}
use Rattle.filling.proofs.Sheets.{sheet_read, statement_left, number_at_front}
use Rattle.filling.proofs.read_sheet.Goals as goal

pub returns-clause-sheet : goal.returns-clause-sheet
returns-clause-sheet g c = λ long.
    let first = c.in_ok-n.ensures in
    let got = c.in_ok-got.ensures in
    let four : c.in_ok-n.n ≡ 4 = search rules in
    let front : c.le_at-len.result ≡ number_at 4 (take c.in_ok-n.n c.read_up_to.new.space) 0 =
    c.le_at-len.ensures.value ∙ number_at_front c.read_up_to.new.space (search rules) ∙ ap (λ n. number_at 4 (take n c.read_up_to.new.space) 0) (sym four) in
    let many = got.prefix_len.1 in
    sheet_read _ _ _ _ _ _ _ (sym first.prefix_len.1 ∙ four) first.bytes got.bytes front
    (subst (λ n. n ≤ c.le_at-len.result) many got.upper_bound)
    (subst (λ n. n ≤ length c.read_up_to-2.new.space) many got.prefix_len.0)
    (λ short room. got.end (subst (λ n. n < c.le_at-len.result) (sym many) short) (subst (λ n. n < length c.read_up_to-2.new.space) (sym many) room))

pub returns-clause-statement : goal.returns-clause-statement
returns-clause-statement g c = λ long.
    let first = c.in_ok-n.ensures in
    let got = c.in_ok-got.ensures in
    let four : c.in_ok-n.n ≡ 4 = search rules in
    let front : c.le_at-len.result ≡ number_at 4 (take c.in_ok-n.n c.read_up_to.new.space) 0 =
    c.le_at-len.ensures.value ∙ number_at_front c.read_up_to.new.space (search rules) ∙ ap (λ n. number_at 4 (take n c.read_up_to.new.space) 0) (sym four) in
    let many = got.prefix_len.1 in
    statement_left _ _ _ _ _ _ _ (sym first.prefix_len.1 ∙ four) first.bytes got.bytes front
    (subst (λ n. n ≤ c.le_at-len.result) many got.upper_bound)
    (subst (λ n. Skips (g.R.Read.remaining c.read_up_to-2.new.input) (g.R.Read.remaining c.read_past.new.input) (c.le_at-len.result - n)) many c.in_ok-read_past.ensures)
