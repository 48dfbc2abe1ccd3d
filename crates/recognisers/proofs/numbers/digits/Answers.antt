use Rattle.recognisers.proofs.Digits.{digits_alone}
use Rattle.recognisers.proofs.numbers.digits.Goals as goal

pub returns : goal.returns
returns c = search digits_alone
