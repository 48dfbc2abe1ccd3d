use Rattle.recognisers.specs.Text.{bytes}
use Rattle.recognisers.specs.Words.{is_operator}
use Rattle.characters.proofs.ShortCircuit.{or_first, or_second}
use Rattle.recognisers.proofs.Halves.{contains_both}
use Rattle.recognisers.proofs.words.is_operator.Goals as goal

pub returns-then-is_among : goal.returns-then-is_among
unfolding is_operator
returns-then-is_among c = rw (← contains_both (bytes "!<>=|:-~") (bytes "*&@^?#/%") _) (search (or_first, or_second))

pub returns-else-is_among : goal.returns-else-is_among
unfolding is_operator
returns-else-is_among c = rw (← contains_both (bytes "!<>=|:-~") (bytes "*&@^?#/%") _) (search (or_first, or_second))
