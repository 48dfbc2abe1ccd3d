use Rattle.std.proofs.Common.{rules}
use Rattle.params.proofs.KeyTexts.{compare_skip, compare_more, compare_fails, compare_end}
use Rattle.params.proofs.keys.is_unescaped.Goals as goal

pub returns-then-not-stands_at : goal.returns-then-not-stands_at
returns-then-not-stands_at c = compare_fails _ _ _ _ c.loop-b.invariant _ _ c.in-Some.ensures.cases.0 _ c.is_escape.ensures (search rules) _ c.stands_at.ensures (search rules)

pub loop-b-preserved-then-not-is_escape : goal.loop-b-preserved-then-not-is_escape
loop-b-preserved-then-not-is_escape c = compare_more _ _ _ _ c.loop-b.invariant _ _ c.in-Some.ensures.cases.0 _ c.is_escape.ensures (search rules) _ c.stands_at.ensures (search rules)

pub loop-b-preserved : goal.loop-b-preserved
loop-b-preserved c = compare_skip _ _ _ _ c.loop-b.invariant _ _ c.in-Some.ensures.cases.0 _ c.is_escape.ensures (search rules)

pub returns : goal.returns
returns c = search (compare_end, rules)
