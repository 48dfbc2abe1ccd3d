use mathlib.Core.Path.{◌≡◌}
use lib.ListN.{drop}
use Rattle.reserved.proofs.PhraseWalk.{WalkAt}
use Rattle.reserved.proofs.gaps.Gaps.words_end.Given as goal

abbrev pub invariant-loop-w : goal.invariant-loop-w
invariant-loop-w l = record { walked : WalkAt l.words (drop l.from l.fn.self.rest.now) l.n l.w-index; same_rest : l.self.rest ≡ l.fn.self.rest }
