-- The parts of a script laid end to end are the script, and no part is empty.
-- Assumes nothing.
use Prim.Native.Nat.{ℕ, ◌+◌, ◌-◌, ◌≤◌}
use native.Mathlib.Omega.{arith}
use mathlib.Core.Path.{◌≡◌, refl, sym, ap, ◌∙◌}
use mathlib.Core.Bool.{Bool, true, false}
use mathlib.Core.List.{List, [], ◌∷◌, ◌++◌}
use borrow.Author.Tests.{ltb-true, ltb-false}
use lib.Dec.{ltb}
use lib.ListN.{length, take, drop, drop_of_length-le, take-append-drop}
use lib.Seq.{drop-drop}
use Rattle.tokenizer.specs.declared.Token.{Token}
use Rattle.tokenizer.specs.Tokens.{tokens}
use Rattle.script.specs.Settings.{cutter_settings}
use Rattle.script.specs.Cuts.{is_cut}
use Rattle.script.specs.declared.Part.{Part}
use Rattle.script.specs.Parts.{parts_from, parts, laid}
use Rattle.script.proofs.Tiles.{Tiled, tiled}

-- what holds of each part
abbrev pub EachPart : (Part → Type 0) → List Part → Type 0
EachPart P [] = Unit {0}
EachPart P (p ∷ ps) = P p × EachPart P ps

pub map_part : (P Q : Part → Type 0) → ((p : Part) → P p → Q p) → (ps : List Part) → EachPart P ps → EachPart Q ps
map_part P Q f [] h = tt
map_part P Q f (p ∷ ps) h = (f p h.0, map_part P Q f ps h.1)

-- a part that has a byte and lies inside the script
pub record Inside (long : ℕ) (p : Part) : Type 0 where
  pub some : 1 ≤ p.len
  pub inside : p.start + p.len ≤ long

-- each part starts where the one before it ends, and the last one ends where the script does
abbrev Filling : ℕ → ℕ → List Part → Type 0
Filling long from [] = from ≡ long
Filling long from (p ∷ ps) = (p.start ≡ from) × Inside long p × Filling long (from + p.len) ps

module _ (s : List ℕ) where
  fills : (ts : List Token) (from at : ℕ) → Tiled (length s) at ts → from ≤ at → Filling (length s) from (parts_from s from ts)
  unfolding parts_from
  fills [] from at h l = go (ltb from (length s)) refl
    where
      go : (b : Bool) → ltb from (length s) ≡ b → Filling (length s) from (parts_from s from [])
      go true e =
          let k = ltb-true from (length s) e in
          let z : from + (length s - from) ≡ length s = omega arith in
          rw e (refl, record { some = omega arith; inside = omega arith }, z)
      go false e = let k = ltb-false from (length s) e in rw e (let z : from ≡ length s = omega (arith, h) in z)
  fills (t ∷ ts) from at h l = go (is_cut s t) refl (fills ts (t.start + t.len) (at + t.len) h.1 (omega (arith, h.0.from))) (fills ts from (at + t.len) h.1 (omega (arith, l)))
    where
      go : (b : Bool) → is_cut s t ≡ b → Filling (length s) (t.start + t.len) (parts_from s (t.start + t.len) ts) → Filling (length s) from (parts_from s from ts) → Filling (length s) from (parts_from s from (t ∷ ts))
      go true e ih jh =
          let z : from + (t.start + t.len - from) ≡ t.start + t.len = omega (arith, h.0.from, l) in
          rw e (refl, record { some = omega (arith, h.0.from, h.0.some, l); inside = omega (arith, h.0.from, h.0.inside, l) }, rw z ih)
      go false e ih jh = rw e jh

  parts_fill : Filling (length s) 0 (parts s)
  unfolding parts
  parts_fill = fills (tokens cutter_settings s) 0 0 (tiled cutter_settings s) (omega arith)

  laid_is : (ps : List Part) (from : ℕ) → Filling (length s) from ps → laid s ps ≡ drop from s
  unfolding laid
  laid_is [] from h = sym (drop_of_length-le s {i = from} (omega (arith, h)))
  laid_is (p ∷ ps) from h =
      rw (h.0, laid_is ps (from + p.len) h.2)
      (ap (λ (l : List ℕ). take p.len (drop from s) ++ l) (sym (drop-drop p.len from s)) ∙ take-append-drop p.len (drop from s))

  -- laid end to end, they are the script
  pub parts_end_to_end : laid s (parts s) ≡ s
  parts_end_to_end = laid_is (parts s) 0 parts_fill

  each_inside : (ps : List Part) (from : ℕ) → Filling (length s) from ps → EachPart (Inside (length s)) ps
  each_inside [] from h = tt
  each_inside (p ∷ ps) from h = (h.1, each_inside ps (from + p.len) h.2)

  -- none is empty, and all lie inside the script
  pub parts_inside : EachPart (Inside (length s)) (parts s)
  parts_inside = each_inside (parts s) 0 parts_fill
