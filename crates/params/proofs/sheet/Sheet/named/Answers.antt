use Rattle.std.proofs.Common.{rules, List, ℕ, Some, None}
use Rattle.std.proofs.lemmas.Iterator.{first_from_find}
use Rattle.std.proofs.lemmas.Iterator.Consumers.{YieldsList-from_first}
use Rattle.params.specs.Inner.Entries.{seen, entries_left}
use Rattle.tokenizer.specs.KeyText.{key_text}
use Rattle.params.proofs.NamedEntries.{Is, IsNot, keyless, found_nowhere, found_there}
use Rattle.params.proofs.sheet.Sheet.named.Goals as goal

pub returns-then-is_none : goal.returns-then-is_none
returns-then-is_none c = search (keyless, rules)

pub returns-in_err-entry : goal.returns-in_err-entry
returns-in_err-entry c =
    let text : List ℕ = key_text c.args.token.statement.now c.args.token.token.key in
    let listed = YieldsList-from_first seen entries_left _ c.entries.ensures in
    found_nowhere _ _ _ _ c.is_none.ensures (search rules) _ c.from_residual.ensures
    (first_from_find c.find.new.self _ None (Is text) (IsNot text) c.in_err-entry.ensures.ran listed (λ x q k. search rules) (λ x q k. search rules))

pub returns : goal.returns
returns c =
    let text : List ℕ = key_text c.args.token.statement.now c.args.token.token.key in
    let listed = YieldsList-from_first seen entries_left _ c.entries.ensures in
    found_there _ _ _ _ c.is_none.ensures (search rules) c.in_ok-entry.entry
    (first_from_find c.find.new.self _ (Some c.in_ok-entry.entry) (Is text) (IsNot text) c.in_ok-entry.ensures.ran listed (λ x q k. search rules) (λ x q k. search rules))
