use Rattle.std.proofs.Common.{rules}
use Rattle.recognisers.proofs.FirstBytes.{no_comment, hash_comment, dashed_comment, block_comment_is}
use Rattle.recognisers.proofs.comment.get_comment_token.Goals as goal

pub returns-in_err-first : goal.returns-in_err-first
returns-in_err-first c = search (rules, no_comment)

pub returns-in-35 : goal.returns-in-35
returns-in-35 c = hash_comment _ _ _ _ c.in_ok-first.ensures.1 c.in-35.is c.line_comment.ensures c.token_of.ensures

pub returns-in-45 : goal.returns-in-45
returns-in-45 c = dashed_comment _ _ _ _ c.in_ok-first.ensures.1 c.in-45.is c.line_comment-in-45.ensures c.token_of-in-45.ensures

pub returns-in_default : goal.returns-in_default
returns-in_default c = search (block_comment_is, c.in_ok-first.ensures)
