use Rattle.std.proofs.Common.{rules, ◌∙◌}
use Rattle.std.proofs.lemmas.Iterator.Consumers.{YieldsList-from_first, fold_from_yields_List}
use Rattle.params.specs.Inner.Entries.{seen, entries_left}
use Rattle.params.proofs.LongestValues.{longer, longest_listed}
use Rattle.params.proofs.longest.longest_value.Goals as goal

pub returns : goal.returns
returns c =
    fold_from_yields_List _ longer 1 _ c.fold.ensures.ran (YieldsList-from_first seen entries_left _ c.entries.ensures) (λ a x b q k. search rules)
    ∙ longest_listed c.args.sheet.headed.bytes.now
