use Rattle.std.proofs.Common.{rules}
use Rattle.recognisers.proofs.PlaceholderLaws.{number_more, number_over, number_end}
use Rattle.recognisers.proofs.placeholders.number_of.Goals as goal

pub returns-in_err-checked_mul : goal.returns-in_err-checked_mul
returns-in_err-checked_mul c = search (rules, number_over)

pub returns-in_err-n : goal.returns-in_err-n
returns-in_err-n c = search (rules, number_over)

pub loop-d-preserved : goal.loop-d-preserved
loop-d-preserved c = search (rules, number_more)

pub returns : goal.returns
returns c = search (rules, number_end)
