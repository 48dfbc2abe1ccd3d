-- What is read of a sheet with its length before it, and what is left behind it.
use Rattle.std.proofs.Common.{◌≡◌, ◌⊎◌, inl, inr, ℕ, zero, suc, ◌+◌, ◌*◌, ◌-◌, ◌≤◌, ◌<◌, List, [], ◌++◌, Option, None, Some, IfSome, nat_lt, false, refl, rules, arith, length, take, drop, sym, ap, ap₂, ◌∙◌, length-append, take-append-drop, append-nil}
use Rattle.std.proofs.Math.Nat.{eq-or-lt_of_le}
use Rattle.std.proofs.Math.ListN.{get_or-append}
use Rattle.std.proofs.lemmas.Bool.{le-ltb}
use Rattle.std.proofs.Math.Seq.{take-take, take_at, take_all, drop_at, drop-append-add}
use Rattle.std.specs.Io.KnownBytes.{Consumes, IsAtEnd}
use Rattle.calls.specs.LittleEndian.{number_at}
use Rattle.filling.specs.Input.{Skips, sheet_of, statement_of}

-- a number is told by its own bytes
number_at_append : (width : ℕ) (s rest : List ℕ) (at : ℕ) → at + width ≤ length s → number_at width (s ++ rest) at ≡ number_at width s at
unfolding number_at
number_at_append zero s rest at h = refl
number_at_append (suc width) s rest at h =
    ap₂ (λ a b. a + 256 * b) (get_or-append s rest 0 at (omega arith)) (number_at_append width s rest (at + 1) (omega arith))

-- what is kept of a part is its front, up to the part's length and to the room, or to the end
module _ (kept rest : List ℕ) (len room : ℕ) (short : length kept ≤ len) (fits : length kept ≤ room) where
  kept_all : rest ≡ [] → kept ≡ take room (take len (kept ++ rest))
  kept_all none =
      let whole : kept ++ rest ≡ kept = ap (λ l. kept ++ l) none ∙ append-nil kept in
      sym (ap (λ l. take room (take len l)) whole ∙ ap (take room) (take_all len kept short) ∙ take_all room kept fits)

  kept_len : length kept ≡ len → kept ≡ take room (take len (kept ++ rest))
  kept_len same = sym (ap (take room) (take_at kept rest len same) ∙ take_all room kept fits)

  kept_room : length kept ≡ room → kept ≡ take room (take len (kept ++ rest))
  kept_room same = sym (take-take room len (kept ++ rest) (omega arith) ∙ take_at kept rest room same)

  kept_short : (length kept ≡ room) ⊎ (length kept < room) → (length kept < room → rest ≡ []) → kept ≡ take room (take len (kept ++ rest))
  kept_short (inl same) end = kept_room same
  kept_short (inr less) end = kept_all (end less)

  kept_either : (length kept ≡ len) ⊎ (length kept < len) → (length kept < len → length kept < room → rest ≡ []) → kept ≡ take room (take len (kept ++ rest))
  kept_either (inl same) end = kept_len same
  kept_either (inr less) end = kept_short (eq-or-lt_of_le fits) (end less)

  pub kept_front : (length kept < len → length kept < room → rest ≡ []) → kept ≡ take room (take len (kept ++ rest))
  kept_front end = kept_either (eq-or-lt_of_le short) end

-- an input with four bytes and what stands behind them
module _ (front rest : List ℕ) (four : length front ≡ 4) where
  long : nat_lt (length (front ++ rest)) 4 ≡ false
  long = le-ltb _ _ (omega (arith, length-append front rest))

  pub sheet_behind : sheet_of (front ++ rest) ≡ take (number_at 4 front 0) rest
  sheet_behind = rw (long, number_at_append 4 front rest 0 (omega arith)) (ap (take (number_at 4 front 0)) (drop_at front rest 4 four))

  pub statement_behind : statement_of (front ++ rest) ≡ drop (number_at 4 front 0) rest
  statement_behind = rw (long, number_at_append 4 front rest 0 (omega arith)) (ap (drop (number_at 4 front 0)) (drop_at front rest 4 four))

pub sheet_read : (a b c : Option (List ℕ)) (front kept : List ℕ) (len room : ℕ) → length front ≡ 4 → Consumes a b front → Consumes b c kept → len ≡ number_at 4 front 0
    → length kept ≤ len → length kept ≤ room → (length kept < len → length kept < room → IsAtEnd c) → IfSome a (λ xs. kept ≡ take room (sheet_of xs))
sheet_read None b c front kept len room four p q e short fits end = tt
sheet_read (Some xs) None c front kept len room four p q e short fits end = absurd p
sheet_read (Some xs) (Some ys) None front kept len room four p q e short fits end = absurd q
sheet_read (Some xs) (Some ys) (Some zs) front kept len room four p q e short fits end =
    kept_front kept zs len room short fits end
    ∙ ap (λ n. take room (take n (kept ++ zs))) e
    ∙ sym (ap (take room) (ap sheet_of p ∙ sheet_behind front ys four ∙ ap (take (number_at 4 front 0)) q))

pub statement_left : (a b c d : Option (List ℕ)) (front kept : List ℕ) (len : ℕ) → length front ≡ 4 → Consumes a b front → Consumes b c kept → len ≡ number_at 4 front 0
    → length kept ≤ len → Skips c d (len - length kept) → IfSome a (λ xs. d ≡ Some (statement_of xs))
statement_left None b c d front kept len four p q e short skips = tt
statement_left (Some xs) None c d front kept len four p q e short skips = absurd p
statement_left (Some xs) (Some ys) None d front kept len four p q e short skips = absurd q
statement_left (Some xs) (Some ys) (Some zs) d front kept len four p q e short skips =
    let same : length kept + (len - length kept) ≡ len = omega arith in
    let left : drop (number_at 4 front 0) ys ≡ drop (len - length kept) zs =
    ap₂ drop (sym e ∙ sym same) q ∙ drop-append-add kept zs (len - length kept) in
    skips ∙ ap Some (sym (ap statement_of p ∙ statement_behind front ys four ∙ left))

-- the front of a space has its length's bytes
pub number_at_front : (s : List ℕ) → 4 ≤ length s → number_at 4 s 0 ≡ number_at 4 (take 4 s) 0
number_at_front s h = ap (λ l. number_at 4 l 0) (sym (take-append-drop 4 s)) ∙ number_at_append 4 (take 4 s) (drop 4 s) 0 (search rules)
