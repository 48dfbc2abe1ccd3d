use Rattle.std.proofs.Common.{rules}
use mathlib.Core.Path.{◌∙◌}
use Rattle.recognisers.proofs.FirstBytes.{no_close, close_round, close_square, close_other}
use Rattle.recognisers.proofs.parens.get_close_paren_token.Goals.{in-41, in-93, in_default}
use Rattle.recognisers.proofs.parens.get_close_paren_token.Goals as goal

pub returns-in_err-first : goal.returns-in_err-first
returns-in_err-first c = search (rules, no_close)

pub returns : goal.returns
returns c =
    elim c.match-first.branch [
      | in-41 w ↦ close_round _ _ _ _ c.in_ok-first.ensures.1 _ w.in-41.is w.n-is c.token_of.ensures
      | in-93 w ↦ close_square _ _ _ _ c.in_ok-first.ensures.1 _ w.in-93.is (w.n-is ∙ w.square-n.ensures) c.token_of.ensures
      | in_default w ↦ search (close_other, c.in_ok-first.ensures, w.n-is ∙ w.end-n.ensures, c.token_of.ensures)
    ]
