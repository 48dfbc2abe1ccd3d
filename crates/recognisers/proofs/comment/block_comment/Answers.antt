use Rattle.std.proofs.Common.{rules}
use Rattle.recognisers.specs.Comment.{through_block_end}
use Rattle.recognisers.proofs.CommentLoops.{block_inside}
use Rattle.recognisers.proofs.Preceded.{front_fits, literal_none, literal_then}
use Rattle.recognisers.proofs.comment.block_comment.Goals as goal

pub returns-in_err-behind : goal.returns-in_err-behind
returns-in_err-behind c = search (rules, literal_none through_block_end)

pub overflow_add-result : goal.overflow_add-result
overflow_add-result c = search (front_fits through_block_end block_inside, c.in_ok-behind.ensures)

pub returns : goal.returns
returns c = search (rules, literal_then through_block_end)
