use Rattle.std.proofs.Common.{rules}
use Rattle.reserved.proofs.FirstEntry.{found_apart}
use Rattle.reserved.proofs.find.find_in.Goals as goal

pub loop-entry-preserved-then-second_differs : goal.loop-entry-preserved-then-second_differs
loop-entry-preserved-then-second_differs c =
    let l = c.loop-entry in
    record {
      searched = found_apart _ _ _ _ l.invariant.searched (search rules) _ c.as_bytes.ensures.value (λ group. c.second_differs.ensures group c.args.word.rest.now c.second_capital-second.ensures c.if-second_differs.true);
      same_rest = l.invariant.same_rest;
    }
