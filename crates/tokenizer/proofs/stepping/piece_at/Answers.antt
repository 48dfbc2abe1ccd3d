use Rattle.std.proofs.Common.{refl}
use Rattle.recognisers.proofs.Unclosed.{truthful_part}
use Rattle.tokenizer.proofs.NextPieceSizes.{chosen}
use Rattle.tokenizer.proofs.stepping.piece_at.Goals as goal

pub invariant_of-rest : goal.invariant_of-rest
invariant_of-rest c = record { truthful = truthful_part _ _ _ c.requires.truthful }

pub returns : goal.returns
returns c = chosen c.args.settings _ c.args.memory.now c.args.statement.now _ c.args.at _ refl refl c.next_piece.ensures
