use Rattle.std.proofs.Common.{rules}
use Rattle.params.proofs.GetByCases.{ahead_past}
use Rattle.params.proofs.getting.Params.count_on.Goals as goal

pub invariant_of-self : goal.invariant_of-self
invariant_of-self c =
    record { turn = ahead_past _ _ _ (search rules) c.saturating_add-self.ensures c.args.self.now.sheet.good _ _ _ c.args.self.now.turn c.next.ensures.steps }
