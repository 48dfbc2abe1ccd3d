use mathlib.Core.Path.{◌≡◌}
use Rattle.tokenizer.proofs.Walks.{Wrote}
use Rattle.params.specs.Inner.Fillings.{text_of}
use Rattle.params.proofs.FillWalk.{fill_walk}
use Rattle.params.proofs.text.write_filled.Given as goal

abbrev pub invariant-loop-token : goal.invariant-loop-token
invariant-loop-token l = Wrote (fill_walk l.filling.search.text.now l.filling.sheet.headed.bytes.now) l.filling.search.settings l.filling.search.text.now (text_of l.filling) l.initial.output l.output l.at l.params.index l.token-iterator × (l.params.sheet ≡ l.filling.sheet)
