-- What a token adds to the tight text: its length, its place in the text, and its bytes put into an output.
-- Assumes nothing.
use Rattle.std.proofs.Common.{Option, Some, None}
use Prim.Native.Nat.{ℕ, ◌+◌, ◌≤◌, ◌<◌}
use native.Mathlib.Omega.{arith}
use mathlib.Core.Path.{◌≡◌, refl, sym}
use mathlib.Core.Bool.{Bool, true, false}
use mathlib.Core.List.{List, ◌∷◌, ◌++◌, append_assoc}
use lib.ListN.{length, length-append}
use Rattle.tokenizer.specs.declared.Token.{Token}
use Rattle.tokenizer.specs.Values.{value}
use Rattle.calls.proofs.Storing.{part_length_lem}
use Rattle.tight.specs.declared.Gap.{Gap}
use Rattle.tight.specs.declared.Gap.TheVariants.{LineFeed, Space, Return}
use Rattle.tight.specs.declared.Spacing.{Spacing}
use Rattle.tight.specs.TightText.{is_gap, becomes, gap_bytes, at_end, tight_from}
use Rattle.tight.specs.Inner.Added.{added, added_length, spacing_past}

pub gap_short : (gap : Option Gap) → length (gap_bytes gap) ≤ 1
gap_short None = omega arith
gap_short (Some gap) = omega arith

pub last_short : (gap : Option Gap) → length (gap_bytes (at_end gap)) ≤ length (gap_bytes gap)
last_short None = omega arith
last_short (Some LineFeed) = omega arith
last_short (Some Space) = omega arith
last_short (Some Return) = omega arith

-- ---- the text from a token on: its added, and the text past it

module _ (s : List ℕ) (spacing : Spacing) (t : Token) where
  pub added_first : (ts : List Token)
      → tight_from s spacing.here spacing.lead (t ∷ ts)
      ≡ added s spacing.lead t ++ tight_from s (spacing_past s spacing t).here (spacing_past s spacing t).lead ts
  unfolding tight_from added spacing_past
  added_first ts = go (is_gap t) refl
    where
      go : (b : Bool) → is_gap t ≡ b
          → tight_from s spacing.here spacing.lead (t ∷ ts)
          ≡ added s spacing.lead t ++ tight_from s (spacing_past s spacing t).here (spacing_past s spacing t).lead ts
      go true e = rw (tight_from, e)
      go false e = rw (tight_from, e) (sym (append_assoc (gap_bytes spacing.lead) (value s t) (tight_from s (Some t.kind) None ts)))

module _ (s : List ℕ) (lead : Option Gap) (t : Token) where
  pub added_is_long : t.start + t.len ≤ length s → length (added s lead t) ≡ added_length lead t
  unfolding added added_length
  added_is_long h = go (is_gap t) refl
    where
      go : (b : Bool) → is_gap t ≡ b → length (added s lead t) ≡ added_length lead t
      go true e = rw e
      go false e = rw (e, length-append, part_length_lem t.start t.len s h)

-- the lead past a token is no longer than what is read of it
pub past_reach : (s : List ℕ) (spacing : Spacing) (t : Token) (n i j : ℕ) → n + length (gap_bytes spacing.lead) ≤ i → i + t.len ≡ j → i < j
    → n + added_length spacing.lead t + length (gap_bytes (spacing_past s spacing t).lead) ≤ j
unfolding added_length spacing_past
past_reach s spacing t n i j h e k = go (is_gap t) refl
  where
    go : (b : Bool) → is_gap t ≡ b → n + added_length spacing.lead t + length (gap_bytes (spacing_past s spacing t).lead) ≤ j
    go true f = rw f (omega (arith, gap_short (becomes spacing.here (value s t))))
    go false f = rw f (omega arith)
