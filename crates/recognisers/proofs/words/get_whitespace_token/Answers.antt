use mathlib.Core.Path.{refl, sym, ◌∙◌}
use Rattle.recognisers.specs.Words.{get_whitespace_token}
use Rattle.characters.specs.Runs.{in_class}
use Rattle.recognisers.proofs.FirstBytes.{no_whitespace}
use Rattle.recognisers.proofs.words.get_whitespace_token.Goals as goal

pub returns-then-starts_among : goal.returns-then-starts_among
unfolding get_whitespace_token in_class
returns-then-starts_among c = cc

pub returns : goal.returns
returns c = no_whitespace _ refl _ (sym c.starts_among.ensures ∙ c.if-starts_among.false)
