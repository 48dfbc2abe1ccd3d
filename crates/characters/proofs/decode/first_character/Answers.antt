use Rattle.characters.proofs.Decoding.{decode_more}
use Rattle.characters.proofs.decode.first_character.Goals as goal

pub loop-i-preserved : goal.loop-i-preserved
loop-i-preserved c =
    let found = c.in-Some.ensures.lookup.3 in
    let e = rw (found.1 0) at c.is_continuation.ensures in
    let q = rw (found.1 0) at c.from.ensures in
    decode_more _ _ _ _ c.loop-i.invariant c.loop-i-test.true found.0 _ e _ q c.if-is_continuation.true
