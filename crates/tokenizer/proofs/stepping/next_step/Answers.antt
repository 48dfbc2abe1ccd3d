use Rattle.std.proofs.Common.{rules}
use Rattle.characters.proofs.Rests.{part_end}
use Rattle.tokenizer.specs.Memory.{remembered}
use Rattle.tokenizer.proofs.NextPieceSizes.{cut_length, cut_alias, key_fits, len_fits, step_token, step_past, step_nothing}
use Rattle.tokenizer.proofs.stepping.next_step.Goals as goal

pub returns-then-statement-at-clause-stepped : goal.returns-then-statement-at-clause-stepped
returns-then-statement-at-clause-stepped c = search step_past

pub returns-in_err-piece-clause-stepped : goal.returns-in_err-piece-clause-stepped
returns-in_err-piece-clause-stepped c = search (rules, step_nothing)

pub place_key-requires : goal.place_key-requires
place_key-requires c = key_fits _ _ c.args.cursor.now _ _ c.piece_at.ensures c.in_ok-piece.was (search rules) (search rules)

pub slice_bounds-value-end : goal.slice_bounds-value-end
slice_bounds-value-end c = cut_length _ _ c.args.cursor.now _ _ c.piece_at.ensures c.in_ok-piece.was _ (part_end c.args.statement.now c.args.cursor.now.at)

pub invariant_of-remember : goal.invariant_of-remember
invariant_of-remember c = record { alias_inside = cut_alias _ _ c.args.cursor.now _ _ c.piece_at.ensures c.in_ok-piece.was _ (part_end c.args.statement.now c.args.cursor.now.at) }

pub overflow_add-cursor : goal.overflow_add-cursor
overflow_add-cursor c = len_fits _ _ c.args.cursor.now _ _ c.piece_at.ensures c.in_ok-piece.was (search rules) (search rules)

pub returns-then-eq-clause-stepped : goal.returns-then-eq-clause-stepped
unfolding remembered
returns-then-eq-clause-stepped c = step_token _ _ c.args.cursor.now _ _ c.piece_at.ensures c.in_ok-piece.was _ _ _ _ (part_end c.args.statement.now c.args.cursor.now.at) (search rules) c.given_out.ensures c.place_key.ensures (search rules)

pub returns-clause-stepped : goal.returns-clause-stepped
unfolding remembered
returns-clause-stepped c = step_token _ _ c.args.cursor.now _ _ c.piece_at.ensures c.in_ok-piece.was _ _ _ _ (part_end c.args.statement.now c.args.cursor.now.at) (search rules) c.given_out.ensures c.place_key.ensures (search rules)
