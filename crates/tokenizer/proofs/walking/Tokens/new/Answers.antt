use Rattle.std.proofs.Common.{rules}
use Rattle.recognisers.proofs.Unclosed.{truthful_none}
use Rattle.tokenizer.specs.Left.{tokens_left}
use Rattle.tokenizer.specs.Tokens.{tokens}
use Rattle.tokenizer.proofs.walking.Tokens.new.Goals as goal

pub invariant_of-result : goal.invariant_of-result
invariant_of-result c = search truthful_none

pub returns : goal.returns
unfolding tokens_left tokens
returns c = search rules
