use mathlib.Core.Path.{sym, ◌∙◌}
use Rattle.characters.proofs.RunLaws.{run_more}
use Rattle.characters.proofs.runs.run_from.Goals as goal

pub loop-n-preserved : goal.loop-n-preserved
loop-n-preserved c = let e = sym c.in-Some.is ∙ c.step.ensures in search run_more
