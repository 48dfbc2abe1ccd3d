use Rattle.std.proofs.Common.{rules}
use mathlib.Core.Path.{◌∙◌}
use Rattle.recognisers.proofs.FirstBytes.{no_open, open_round, open_square, open_other}
use Rattle.recognisers.proofs.parens.get_open_paren_token.Goals.{in-40, in-91, in_default}
use Rattle.recognisers.proofs.parens.get_open_paren_token.Goals as goal

pub returns-in_err-first : goal.returns-in_err-first
returns-in_err-first c = search (rules, no_open)

pub returns : goal.returns
returns c =
    elim c.match-first.branch [
      | in-40 w ↦ open_round _ _ _ _ c.in_ok-first.ensures.1 _ w.in-40.is w.n-is c.token_of.ensures
      | in-91 w ↦ open_square _ _ _ _ c.in_ok-first.ensures.1 _ w.in-91.is (w.n-is ∙ w.square-n.ensures) c.token_of.ensures
      | in_default w ↦ search (open_other, c.in_ok-first.ensures, w.n-is ∙ w.caseless_word-n.ensures, c.token_of.ensures)
    ]
