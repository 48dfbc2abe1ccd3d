use mathlib.Core.Path.{◌≡◌}
use Rattle.tokenizer.specs.Left.{tokens_left}
use Rattle.tokenizer.proofs.Walks.{Counted}
use Rattle.params.specs.Sheet.{params_of}
use Rattle.params.specs.Nought.{first_nought}
use Rattle.params.specs.Inner.Fillings.{text_of}
use Rattle.params.specs.Inner.Noughts.{nought_of}
use Rattle.params.proofs.FillWalk.{fill_walk}
use Rattle.params.proofs.text.measure.Given as goal

abbrev pub invariant-loop-token : goal.invariant-loop-token
invariant-loop-token l = Counted (fill_walk l.filling.search.text.now l.filling.sheet.headed.bytes.now) l.filling.search.settings l.filling.search.text.now (text_of l.filling) l.count l.params.index l.token-iterator × (l.params.sheet ≡ l.filling.sheet) × (nought_of l.filling ≡ first_nought (params_of l.filling.sheet.headed.bytes.now) (tokens_left l.token-iterator))
