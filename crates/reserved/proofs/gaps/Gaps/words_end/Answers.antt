use Rattle.std.proofs.Common.{rules}
use Rattle.reserved.proofs.PhraseWalk.{walk_more}
use Rattle.reserved.proofs.gaps.Gaps.words_end.Goals as goal

pub loop-w-preserved : goal.loop-w-preserved
loop-w-preserved c =
    let w = c.loop-w.invariant in
    record { walked = walk_more _ _ _ _ _ w.walked c.loop-w-test.true _ (rw w.same_rest at c.in_ok-n.ensures.value); same_rest = search rules }
