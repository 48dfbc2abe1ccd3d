-- The tight text is no longer than the statement.
-- Assumes nothing.
use Prim.Native.Nat.{ℕ, zero, suc, ◌+◌, ◌-◌, ◌≤◌}
use native.Mathlib.Omega.{arith}
use mathlib.Core.Path.{◌≡◌, refl}
use mathlib.Core.List.{List}
use lib.ListN.{length, length-append}
use Rattle.tokenizer.specs.declared.Cursor.{Cursor}
use Rattle.calls.specs.declared.Settings.{Settings}
use Rattle.tokenizer.specs.declared.Token.{Token}
use Rattle.std.specs.Prelude.{Option, Some, None}
use Rattle.tokenizer.specs.Memory.{start}
use Rattle.tokenizer.specs.Tokens.{step_at, tokens}
use Rattle.tokenizer.proofs.Steps.{left, step_moves, step_ends}
use Rattle.tight.specs.declared.Spacing.{Spacing}
use Rattle.tight.specs.TightText.{gap_bytes, tight_from, tight}
use Rattle.tight.specs.Inner.Added.{outside, spacing_past}
use Rattle.tight.proofs.TightAdded.{last_short, added_first, added_is_long, past_reach}

module _ (settings : Settings) (s : List ℕ) where
  abbrev text_at : Spacing → Cursor → List ℕ
  text_at spacing c = tight_from s spacing.here spacing.lead (left settings s c)

  -- no more than the lead and the bytes that are left
  from_cursor : (fuel : ℕ) (spacing : Spacing) (c : Cursor) → length s - c.at ≤ fuel → length (text_at spacing c) ≤ length (gap_bytes spacing.lead) + (length s - c.at)
  unfolding tight_from
  from_cursor zero spacing c h = go (step_at settings s c) refl
    where
      go : (r : Option (Token × Cursor)) → step_at settings s c ≡ r → length (text_at spacing c) ≤ length (gap_bytes spacing.lead) + (length s - c.at)
      go (Some (t, c')) e = absurd (let m = step_moves settings s c t c' e in let z : ⊥ = omega (arith, m.on, m.inside) in z)
      go None e = rw (step_ends settings s c e) (omega (arith, last_short spacing.lead))
  from_cursor (suc fuel) spacing c h = go (step_at settings s c) refl (from_cursor fuel)
    where
      go : (r : Option (Token × Cursor)) → step_at settings s c ≡ r
          → ((later : Spacing) (d : Cursor) → length s - d.at ≤ fuel → length (text_at later d) ≤ length (gap_bytes later.lead) + (length s - d.at))
          → length (text_at spacing c) ≤ length (gap_bytes spacing.lead) + (length s - c.at)
      go (Some (t, c')) e ih =
          let m = step_moves settings s c t c' e in
          let k = ih (spacing_past s spacing t) c' (omega (arith, m.on, m.inside)) in
          let p = added_is_long s spacing.lead t (omega (arith, m.from, m.past, m.inside)) in
          let q = past_reach s spacing t 0 (length (gap_bytes spacing.lead)) (length (gap_bytes spacing.lead) + t.len) (omega arith) refl (omega (arith, m.past, m.on)) in
          rw (m.list, added_first s spacing t (left settings s c'), length-append, p) (omega (arith, k, q, m.past, m.inside))
      go None e ih = rw (step_ends settings s c e) (omega (arith, last_short spacing.lead))

  pub tight_short : length (tight settings s) ≤ length s
  unfolding tight tokens
  tight_short =
      let k : length (tight settings s) ≤ 0 + (length s - 0) = from_cursor (length s) outside (record { at = 0; memory = start }) (omega arith) in
      omega (arith, k)
