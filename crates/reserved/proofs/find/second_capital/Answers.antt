use Rattle.std.proofs.Common.{rules}
use Rattle.reserved.proofs.PhraseWalk.{second_some, second_none}
use Rattle.reserved.proofs.find.second_capital.Goals as goal

pub returns-in-Some : goal.returns-in-Some
returns-in-Some c = second_some c.args.rest.now c.in-Some.b.now _ (search rules) (search rules)

pub returns-in-None : goal.returns-in-None
returns-in-None c = second_none c.args.rest.now (search rules)
