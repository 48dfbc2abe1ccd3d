use mathlib.Core.Path.{◌∙◌}
use Rattle.recognisers.proofs.LibraryWords.{stood}
use Rattle.recognisers.proofs.scan.stands_at.Goals as goal

pub returns : goal.returns
returns c = c.eq.ensures ∙ stood _ _ _ _ c.get.ensures.lookup.0 c.get.ensures.lookup.1
