use Rattle.characters.proofs.Decoding.{DecodeAt}
use Rattle.characters.proofs.decode.first_character.Given as goal

abbrev pub invariant-loop-i : goal.invariant-loop-i
invariant-loop-i l = DecodeAt l.bytes l.wanted l.code_point l.i
