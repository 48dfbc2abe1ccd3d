use Rattle.std.proofs.Common.{rules}
use Rattle.recognisers.specs.Inner.Known.{before}
use Rattle.recognisers.proofs.Unclosed.{looked_failed}
use Rattle.recognisers.proofs.learning.known_behind.Goals as goal

pub returns-in_default : goal.returns-in_default
returns-in_default g c = before

pub returns-then-rest-known : goal.returns-then-rest-known
returns-then-rest-known g c = before

pub returns-in-Some-look : goal.returns-in-Some-look
returns-in-Some-look g c = before

pub returns : goal.returns
returns g c =
    let part = c.in-Some.ensures.lookup.0 in
    looked_failed _ _ _ _ _ part.2 part.3 (search rules)
