-- Where a place nought stands: what the walk that measures passes, and what the statement's bytes tell before it.
-- Assumes nothing.
use Rattle.std.proofs.Common.{Option, Some, None, is_some}
use Rattle.std.specs.Prelude.{slice_index, Ok, Err}
use Rattle.std.specs.Iterator.{YieldsFirst}
use Rattle.std.specs.List.{list_any}
use Rattle.std.proofs.lemmas.Bool.{or_parts}
use Rattle.std.proofs.Math.Bool.{or-true}
use Prim.Native.Nat.{ℕ, zero, suc, ◌+◌, ◌<◌}
use native.Mathlib.Omega.{arith}
use mathlib.Core.Path.{◌≡◌, refl, sym, ap, ◌∙◌}
use mathlib.Core.List.{List, [], ◌∷◌}
use mathlib.Core.Bool.{Bool, true, false, cond, and-false, ◌&&◌, ◌||◌, false≢true}
use borrow.Author.Tests.{eqb-true}
use lib.Dec.{eqb}
use lib.ListN.{drop, length}
use Rattle.recognisers.specs.declared.Key.{Key}
use Rattle.recognisers.specs.declared.Key.TheVariants as K
use Rattle.memchr.specs.Find.{OccursAt, FindsNeedle}
use Rattle.recognisers.specs.Text.{byte, bytes}
use Rattle.recognisers.specs.Taking.{starts_with}
use Rattle.calls.specs.declared.Refusal.TheVariants.{PlaceNought}
use Rattle.calls.specs.declared.Settings.{Settings}
use Rattle.tokenizer.specs.declared.Token.{Token}
use Rattle.tokenizer.specs.declared.walking.Tokens.{Tokens}
use Rattle.tokenizer.specs.Left.{tokens_left}
use Rattle.tokenizer.specs.Tokens.{tokens}
use Rattle.tokenizer.proofs.EachToken.{Each}
use Rattle.tokenizer.proofs.Walks.{taken, none_left}
use Rattle.tokenizer.proofs.NoughtKeys.{nought_here, Stands, each_nought}
use Rattle.params.specs.declared.QueryParams.{QueryParams}
use Rattle.params.specs.declared.QueryParams.TheVariants as Q
use Rattle.params.specs.Sheet.{params_of}
use Rattle.params.specs.Filled.{is_placeholder}
use Rattle.params.specs.Nought.{is_nought, stops, first_nought}
use Rattle.params.specs.Answers.{unless_nought}
use Rattle.params.specs.Inner.Noughts.{is_indexed, has_nought, may_hold_nought}

-- ---- other sheets than indexed ones stop at nothing

pub not_indexed : (params : QueryParams) (ts : List Token) → is_indexed params ≡ false → first_nought params ts ≡ None
unfolding first_nought
not_indexed params [] h = refl
not_indexed Q.Named (t ∷ ts) h = not_indexed Q.Named ts h
not_indexed Q.Indexed (t ∷ ts) h = absurd (false≢true (sym h))
not_indexed Q.None (t ∷ ts) h = not_indexed Q.None ts h

-- ---- the walk that measures: it is what goes over the tokens, and whole the first place nought of all of them

pub nought_start : (params : QueryParams) (it : Tokens) (ts : List Token) → tokens_left it ≡ ts → first_nought params ts ≡ first_nought params (tokens_left it)
nought_start params it ts e = ap (first_nought params) (sym e)

module _ (params : QueryParams) (whole : Option ℕ) (it it' : Tokens) (r : Option Token) (at : whole ≡ first_nought params (tokens_left it)) (e : YieldsFirst tokens_left it r it') where
  module _ (t : Token) (f : r ≡ Some t) (b : Bool) (g : b ≡ stops params t) where
    pub nought_passed : b ≡ false → whole ≡ first_nought params (tokens_left it')
    unfolding first_nought
    nought_passed h = at ∙ rw (taken it it' r e t f, ← g, h)

    pub nought_found : (n : ℕ) → b ≡ true → Err (PlaceNought t.start) ≡ unless_nought n whole
    unfolding first_nought
    nought_found n h = rw (at, taken it it' r e t f, ← g, h)

  pub nought_nowhere : r ≡ None → (n m : ℕ) → n ≡ m → Ok n ≡ unless_nought m whole
  unfolding first_nought
  nought_nowhere f n m g = rw (at, none_left it it' r e f, g)

-- ---- where there is none, no token stops the fill

pub none_stops : (params : QueryParams) (ts : List Token) → first_nought params ts ≡ None → Each (λ t. stops params t ≡ false) ts
unfolding first_nought
none_stops params [] h = tt
none_stops params (t ∷ ts) h = go (stops params t) refl h (none_stops params ts)
  where
    go : (b : Bool) → stops params t ≡ b → cond b (Some t.start) (first_nought params ts) ≡ None → (first_nought params ts ≡ None → Each (λ u. stops params u ≡ false) ts)
        → (stops params t ≡ false) × Each (λ u. stops params u ≡ false) ts
    go true e f ih = absurd (let z : ◌≡◌ {A = ℕ} 0 1 = cc in let y : ⊥ = omega arith in y)
    go false e f ih = (e, ih f)

-- ---- by the bytes

-- a pair at a place
pub pair_at : (s : List ℕ) (at : ℕ) → nought_here (drop at s) ≡ true → has_nought s ≡ true
unfolding has_nought starts_with
pair_at [] zero h = h
pair_at [] (suc at) h = h
pair_at (b ∷ s) zero h = let k : (eqb b (byte "$") && starts_with (byte "0") s) ≡ true = h in rw k
pair_at (b ∷ s) (suc at) h = rw (pair_at s at h) (or-true (eqb b (byte "$") && starts_with (byte "0") s))

module _ (s : List ℕ) (h : has_nought s ≡ false) where
  no_key : (at : ℕ) (key : Option Key) → Stands (drop at s) key → is_nought key ≡ false
  no_key at None f = refl
  no_key at (Some (K.Named start len)) f = refl
  no_key at (Some (K.Escaped start len)) f = refl
  no_key at (Some (K.ZeroIndexed n)) f = refl
  no_key at (Some (K.OneIndexed n)) f = go (eqb n 0) refl
    where
      go : (b : Bool) → eqb n 0 ≡ b → eqb n 0 ≡ false
      go true e = absurd (false≢true (sym h ∙ pair_at s at (f (eqb-true n 0 e))))
      go false e = e

  no_stop : (params : QueryParams) (t : Token) → Stands (drop t.start s) t.key → stops params t ≡ false
  no_stop Q.Named t f = refl
  no_stop Q.Indexed t f = rw (no_key t.start t.key f) (and-false (is_placeholder t))
  no_stop Q.None t f = refl

  without : (params : QueryParams) (ts : List Token) → Each (λ t. Stands (drop t.start s) t.key) ts → first_nought params ts ≡ None
  unfolding first_nought
  without params [] f = refl
  without params (t ∷ ts) f = rw (no_stop params t f.0) (without params ts f.1)

  -- without such a pair there is no place nought
  pub no_pair : (params : QueryParams) (settings : Settings) → first_nought params (tokens settings s) ≡ None
  no_pair params settings = without params (tokens settings s) (each_nought settings s)

pub held_nowhere : (settings : Settings) (s sheet : List ℕ) → may_hold_nought s sheet ≡ false → first_nought (params_of sheet) (tokens settings s) ≡ None
unfolding may_hold_nought
held_nowhere settings s sheet h = go (is_indexed (params_of sheet)) (has_nought s) refl refl h
  where
    go : (t u : Bool) → is_indexed (params_of sheet) ≡ t → has_nought s ≡ u → (t && u) ≡ false → first_nought (params_of sheet) (tokens settings s) ≡ None
    go true true e f g = absurd (false≢true (sym g))
    go true false e f g = no_pair s f (params_of sheet) settings
    go false u e f g = not_indexed (params_of sheet) (tokens settings s) e

-- ---- the bytes, looked at: where the pair is found, and where it is found nowhere

found_pair : (s : List ℕ) (k : ℕ) → suc k < length s → slice_index s k ≡ 36 → slice_index s (suc k) ≡ 48 → has_nought s ≡ true
unfolding has_nought starts_with
found_pair [] k h e f = absurd (omega arith)
found_pair (b ∷ []) k h e f = absurd (omega arith)
found_pair (b ∷ c ∷ s) zero h e f = rw (e, f)
found_pair (b ∷ c ∷ s) (suc k) h e f = rw (found_pair (c ∷ s) k (omega arith) e f) (or-true (eqb b 36 && eqb c 48))

found_nowhere : (s : List ℕ) → ((k : ℕ) → suc k < length s → slice_index s k ≡ 36 → slice_index s (suc k) ≡ 48 → ⊥) → has_nought s ≡ false
unfolding has_nought starts_with
found_nowhere [] h = refl
found_nowhere (b ∷ []) h = rw (and-false (eqb b 36))
found_nowhere (b ∷ c ∷ s) h = go (eqb b 36) (eqb c 48) refl refl (found_nowhere (c ∷ s) (λ k l. h (suc k) (omega arith)))
  where
    go : (t u : Bool) → eqb b 36 ≡ t → eqb c 48 ≡ u → has_nought (c ∷ s) ≡ false → ((eqb b 36 && eqb c 48) || has_nought (c ∷ s)) ≡ false
    go true true e f rest = absurd (h 0 (omega arith) (eqb-true b 36 e) (eqb-true c 48 f))
    go true false e f rest = rw (e, f, rest)
    go false u e f rest = rw (e, rest)

pub pair_found : (s : List ℕ) (r : Option ℕ) → FindsNeedle s (bytes "$0") 0 r → is_some r ≡ has_nought s
pair_found s (Some k) (near, here) =
    let first : k + 0 ≡ k = omega arith in
    let second : k + 1 ≡ suc k = omega arith in
    let fits : suc k < length s = omega (arith, here.fits) in
    sym (found_pair s k fits (rw first at (here.reads 0 (omega arith))) (rw second at (here.reads 1 (omega arith))))
pair_found s None nowhere = sym (found_nowhere s (λ k h e f. nowhere k (omega arith) (omega arith) (pair_here k h e f)))
  where
    pair_here : (k : ℕ) → suc k < length s → slice_index s k ≡ 36 → slice_index s (suc k) ≡ 48 → OccursAt s (bytes "$0") k
    pair_here k h e f = record { fits = omega (arith, h); reads = reads }
      where
        first : k + 0 ≡ k
        first = omega arith

        second : k + 1 ≡ suc k
        second = omega arith

        reads : (j : ℕ) → j < 2 → slice_index s (k + j) ≡ slice_index (bytes "$0") j
        reads zero l = rw first e
        reads (suc zero) l = rw second f
        reads (suc (suc j)) l = absurd (omega arith)

pub no_mark : (s : List ℕ) → list_any (λ b. eqb b 36) s ≡ false → has_nought s ≡ false
unfolding has_nought
no_mark [] e = refl
no_mark (b ∷ s) e =
    let both = or_parts (eqb b 36) (list_any (λ c. eqb c 36) s) e in
    rw (both.0, no_mark s both.1)
