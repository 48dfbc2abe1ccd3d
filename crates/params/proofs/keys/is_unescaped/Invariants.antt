use Rattle.std.proofs.Common.{◌≡◌, length}
use Rattle.recognisers.specs.Same.{same}
use Rattle.tokenizer.specs.KeyText.{unescaped}
use Rattle.params.proofs.keys.is_unescaped.Given as goal

abbrev pub invariant-loop-b : goal.invariant-loop-b
invariant-loop-b l = same l.initial.name (unescaped l.quote l.initial.text) ≡ same l.name (unescaped l.quote l.text)

abbrev pub decreases-loop-b : goal.decreases-loop-b
decreases-loop-b l = length l.text
