-- Each part but perhaps the last one ends with `;`, and no part has an Operator `;` of the whole reading before its last byte.
-- Assumes nothing.
use Prim.Native.Nat.{ℕ, ◌+◌, ◌-◌, ◌≤◌, ◌<◌}
use native.Mathlib.Omega.{arith}
use mathlib.Core.Path.{◌≡◌, refl, sym, ap, ◌∙◌}
use mathlib.Core.Bool.{Bool, true, false, false≢true, and-eq-true_iff}
use mathlib.Core.List.{List, [], ◌∷◌, ◌++◌}
use Rattle.std.proofs.Common.{◌⊎◌, inl, inr}
use borrow.Author.Tests.{eqb-true}
use lib.Dec.{eqb, ltb}
use lib.ListN.{length, take, drop}
use lib.Seq.{take-add, drop-drop}
use Rattle.recognisers.specs.declared.TokenKind.TheVariants as K
use Rattle.recognisers.specs.Kinds.{is_kind}
use Rattle.recognisers.specs.Same.{same}
use Rattle.recognisers.specs.Text.{bytes}
use Rattle.tokenizer.specs.declared.Token.{Token}
use Rattle.tokenizer.specs.Tokens.{tokens}
use Rattle.tokenizer.specs.Values.{value}
use Rattle.script.specs.Settings.{cutter_settings}
use Rattle.script.specs.Cuts.{is_cut}
use Rattle.script.specs.declared.Part.{Part}
use Rattle.script.specs.Parts.{between, part_text, parts_from, parts}
use Rattle.script.proofs.Tiles.{Tiled, tiled}
use Rattle.script.proofs.PartsEndToEnd.{EachPart}

-- ---- the ends

same_is : (s t : List ℕ) → same s t ≡ true → s ≡ t
unfolding same
same_is [] [] e = refl
same_is [] (c ∷ t) e = absurd (false≢true e)
same_is (b ∷ s) [] e = absurd (false≢true e)
same_is (b ∷ s) (c ∷ t) e =
    let k = (and-eq-true_iff (eqb b c) (same s t)).0 e in
    rw (eqb-true b c k.0, same_is s t k.1)

-- of each but the last
abbrev pub AllButLast : (Part → Type 0) → List Part → Type 0
AllButLast P [] = Unit {0}
AllButLast P (p ∷ []) = Unit {0}
AllButLast P (p ∷ (q ∷ ps)) = P p × AllButLast P (q ∷ ps)

next : (P : Part → Type 0) (p : Part) (ps : List Part) → P p → AllButLast P ps → AllButLast P (p ∷ ps)
next P p [] h rest = tt
next P p (q ∷ ps) h rest = (h, rest)

module _ (s : List ℕ) where
  abbrev pub Closed : Part → Type 0
  Closed p = (front : List ℕ) × (part_text s p ≡ front ++ bytes ";")

  closes : (from : ℕ) (t : Token) → from ≤ t.start → is_cut s t ≡ true → Closed (between from (t.start + t.len))
  unfolding is_cut
  closes from t l e =
      let k = (and-eq-true_iff (is_kind t.kind K.Operator) (same (value s t) (bytes ";"))).0 e in
      let long : t.start + t.len - from ≡ (t.start - from) + t.len = omega arith in
      let there : from + (t.start - from) ≡ t.start = omega arith in (
        take (t.start - from) (drop from s),
        rw (long, take-add, drop-drop, there) (ap (λ (l : List ℕ). take (t.start - from) (drop from s) ++ l) (same_is (value s t) (bytes ";") k.1)),
      )

  closed : (ts : List Token) (from at : ℕ) → Tiled (length s) at ts → from ≤ at → AllButLast Closed (parts_from s from ts)
  unfolding parts_from
  closed [] from at h l = go (ltb from (length s)) refl
    where
      go : (b : Bool) → ltb from (length s) ≡ b → AllButLast Closed (parts_from s from [])
      go true e = rw e tt
      go false e = rw e tt
  closed (t ∷ ts) from at h l = go (is_cut s t) refl (closed ts (t.start + t.len) (at + t.len) h.1 (omega (arith, h.0.from))) (closed ts from (at + t.len) h.1 (omega (arith, l)))
    where
      go : (b : Bool) → is_cut s t ≡ b → AllButLast Closed (parts_from s (t.start + t.len) ts) → AllButLast Closed (parts_from s from ts) → AllButLast Closed (parts_from s from (t ∷ ts))
      go true e ih jh = rw e (next Closed _ _ (closes from t (omega (arith, l, h.0.from)) e) ih)
      go false e ih jh = rw e jh

  pub parts_closed : AllButLast Closed (parts s)
  unfolding parts
  parts_closed = closed (tokens cutter_settings s) 0 0 (tiled cutter_settings s) (omega arith)

-- ---- none inside

abbrev pub Among : Token → List Token → Type 0
Among u [] = ⊥
Among u (t ∷ ts) = (u ≡ t) ⊎ Among u ts

among_behind : (long at : ℕ) (u : Token) (ts : List Token) → Tiled long at ts → Among u ts → at ≤ u.start
among_behind long at u [] h i = absurd i
among_behind long at u (t ∷ ts) h (inl e) = rw e (omega (arith, h.0.from))
among_behind long at u (t ∷ ts) h (inr i) = omega (arith, among_behind long (at + t.len) u ts h.1 i)

module _ (s : List ℕ) (u : Token) (cuts : is_cut s u ≡ true) where
  -- where it starts in a part or behind it, it ends no earlier than the part does
  abbrev pub NotBefore : Part → Type 0
  NotBefore p = p.start ≤ u.start → p.start + p.len ≤ u.start + u.len

  passed : (ts : List Token) (from at : ℕ) → Tiled (length s) at ts → from ≤ at → (u.start < from) ⊎ Among u ts → EachPart NotBefore (parts_from s from ts)
  unfolding parts_from
  passed [] from at h l i = go (ltb from (length s)) refl i
    where
      go : (b : Bool) → ltb from (length s) ≡ b → (u.start < from) ⊎ Among u [] → EachPart NotBefore (parts_from s from [])
      go true e (inl k) = rw e (λ m. absurd (let z : ⊥ = omega arith in z), tt)
      go true e (inr k) = absurd k
      go false e k = rw e tt
  passed (t ∷ ts) from at h l i = go (is_cut s t) refl i (passed ts (t.start + t.len) (at + t.len) h.1 (omega (arith, h.0.from))) (passed ts from (at + t.len) h.1 (omega (arith, l)))
    where
      go : (b : Bool) → is_cut s t ≡ b → (u.start < from) ⊎ Among u (t ∷ ts)
          → ((u.start < t.start + t.len) ⊎ Among u ts → EachPart NotBefore (parts_from s (t.start + t.len) ts))
          → ((u.start < from) ⊎ Among u ts → EachPart NotBefore (parts_from s from ts)) → EachPart NotBefore (parts_from s from (t ∷ ts))
      go true e (inl k) behind on = rw e (λ m. absurd (let z : ⊥ = omega arith in z), behind (inl (omega (arith, k, l, h.0.from))))
      go true e (inr (inl k)) behind on =
          let z : u.start + u.len ≡ t.start + t.len = ap (λ (v : Token). v.start + v.len) k in
          let y : u.start ≡ t.start = ap (λ (v : Token). v.start) k in
          rw e (λ m. omega (arith, z, l, h.0.from), behind (inl (omega (arith, y, h.0.some))))
      go true e (inr (inr k)) behind on =
          let a = among_behind (length s) (at + t.len) u ts h.1 k in
          rw e (λ m. omega (arith, a, l, h.0.from), behind (inr k))
      go false e (inl k) behind on = rw e (on (inl k))
      go false e (inr (inl k)) behind on = absurd (false≢true (sym e ∙ ap (is_cut s) (sym k) ∙ cuts))
      go false e (inr (inr k)) behind on = rw e (on (inr k))

  pub parts_cut : Among u (tokens cutter_settings s) → EachPart NotBefore (parts s)
  unfolding parts
  parts_cut i = passed (tokens cutter_settings s) 0 0 (tiled cutter_settings s) (omega arith) (inr i)
