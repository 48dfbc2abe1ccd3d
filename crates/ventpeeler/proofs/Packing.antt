-- An answer of tokenise packed into one number.
-- Assumes nothing.
use Rattle.std.proofs.Common.{◌≡◌, ℕ, ◌+◌, ◌*◌, ◌/◌, ◌%◌, ◌^◌, ◌<◌, min, List, Ok, Err, sym, ap, ◌∙◌, arith}
use native.Mathlib.Nat.{min-eq_left}
use Rattle.calls.specs.declared.Refusal.{Refusal}
use Rattle.calls.specs.Refusals.{refusal_number, refusal_detail}
use Rattle.tokenizer.specs.declared.Totals.{Totals}
use Rattle.tokenizer.specs.Answers.{tokenize_answer}
use Rattle.tokenizer.proofs.AnswerSizes.{Small, answer_small}
use Rattle.ventpeeler.specs.Packed.{packed, packed_table, packed_text}

module _ (s : List ℕ) (dialect joins named room : ℕ) where
  module _ (t : Totals) (e : Ok t ≡ tokenize_answer s dialect joins named room) where
    small : Small (Ok t)
    small = rw (← e) at (answer_small s dialect joins named room)

    pub written_fits : t.escaped * 4294967296 + t.tokens < 2 ^ 64
    written_fits = omega (arith, small.0, small.1)

    pub written_told : packed_text (Ok (t.escaped * 4294967296 + t.tokens)) ≡ packed_table (tokenize_answer s dialect joins named room)
    unfolding packed_table packed_text
    written_told = rw (← e)

    -- what the header's functions read is what was told: nothing meets
    pub written_read : (r : ℕ) → r ≡ packed_table (tokenize_answer s dialect joins named room) → (r / 72057594037927936 ≡ 0) × (r % 4294967296 ≡ t.tokens) × (r / 4294967296 ≡ t.escaped)
    unfolding packed_table packed
    written_read r g =
        let h : r ≡ 0 * 72057594037927936 + min (t.escaped * 4294967296 + t.tokens) 72057594037927935 = g ∙ ap packed_table (sym e) in
        let m : min (t.escaped * 4294967296 + t.tokens) 72057594037927935 ≡ t.escaped * 4294967296 + t.tokens = min-eq_left (omega (arith, small.0, small.1)) in
        let k : r ≡ t.escaped * 4294967296 + t.tokens = h ∙ rw m (omega arith) in
        (omega (arith, k, small.0, small.1), omega (arith, k, small.0, small.1), omega (arith, k, small.0, small.1))

  pub refused_told : (refusal : Refusal) → Err refusal ≡ tokenize_answer s dialect joins named room → packed_text (Err refusal) ≡ packed_table (tokenize_answer s dialect joins named room)
  unfolding packed_table packed_text
  refused_told refusal e =
      let same : refusal_detail refusal ≡ 0 * 4294967296 + refusal_detail refusal = omega arith in
      rw (← e) (ap (packed (refusal_number refusal)) same)
