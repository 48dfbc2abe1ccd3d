use Rattle.std.proofs.Common.{arith, refl}
use Rattle.reserved.proofs.PhraseWalk.{words_fit, exists_more}
use Rattle.reserved.proofs.gaps.Gaps.if_exists.Goals as goal

pub overflow_add-from : goal.overflow_add-from
overflow_add-from c = record { fits = let k = words_fit _ _ _ _ c.in-Some.ensures.value c.requires in omega (arith, k) }

pub slice_bounds-end_of_word-count : goal.slice_bounds-end_of_word-count
slice_bounds-end_of_word-count c = words_fit _ _ _ _ c.in-Some.ensures.value c.requires

pub slice_bounds-end_of_word-start : goal.slice_bounds-end_of_word-start
slice_bounds-end_of_word-start c = search (words_fit _ _ _ _ c.in-Some.ensures.value c.requires)

pub returns-in-Some-clause-value : goal.returns-in-Some-clause-value
returns-in-Some-clause-value c = exists_more _ _ _ c.in-Some.ensures.value _ refl _ c.end_of_word.ensures _ c.n_more.ensures
