use Rattle.tokenizer.proofs.Walks.{nth_token}
use Rattle.params.proofs.Lookups.{find_key, find_inside, find_found, found_inside, find_none, none_inside}
use Rattle.params.proofs.looking.find.Goals as goal

pub invariant_of-token-clause-text_inside : goal.invariant_of-token-clause-text_inside
invariant_of-token-clause-text_inside c = search (nth_token, find_inside c.args.filling.search.settings c.args.filling.search.text.now c.args.place)

pub invariant_of-token-clause-key_inside : goal.invariant_of-token-clause-key_inside
invariant_of-token-clause-key_inside c = find_key c.args.filling.search.settings c.args.filling.search.text.now c.args.place _ (search nth_token) c.in-Some.token c.in-Some.is

pub returns-in-Some-clause-value : goal.returns-in-Some-clause-value
returns-in-Some-clause-value c = search (nth_token, find_found)

pub returns-in-Some-clause-part_inside : goal.returns-in-Some-clause-part_inside
returns-in-Some-clause-part_inside c = search (nth_token, found_inside c.args.filling.search.settings c.args.filling.search.text.now c.args.place)

pub returns-in-None-clause-value : goal.returns-in-None-clause-value
returns-in-None-clause-value c = search (nth_token, find_none)

pub returns-in-None-clause-part_inside : goal.returns-in-None-clause-part_inside
returns-in-None-clause-part_inside c = search (nth_token, none_inside c.args.filling.search.settings c.args.filling.search.text.now c.args.place)
