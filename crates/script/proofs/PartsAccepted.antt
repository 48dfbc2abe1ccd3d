-- Every part of an accepted script is accepted by the calls, whatever the settings: a part is no longer than the script, and a cut
-- is where a character starts.
-- Assumes nothing.
use Rattle.std.specs.Prelude.{Ok}
use Prim.Native.Nat.{ℕ, ◌+◌, ◌-◌, ◌≤◌}
use native.Mathlib.Omega.{arith}
use mathlib.Core.Path.{◌≡◌, refl, sym, ap, ◌∙◌}
use mathlib.Core.Bool.{Bool, true, false}
use mathlib.Core.List.{List, [], ◌∷◌, ◌++◌, append-nil}
use lib.Dec.{ltb}
use lib.ListN.{length, drop, length-drop, drop_of_length-le, take-append-drop}
use lib.Seq.{drop-drop, length-take-le}
use Rattle.characters.specs.Utf8.{well_formed}
use Rattle.characters.proofs.ReplacedEnds.{replaced}
use Rattle.characters.proofs.WellFormedCuts.{end_formed}
use Rattle.calls.specs.declared.Settings.{Settings}
use Rattle.calls.specs.Checks.{checked}
use Rattle.calls.specs.Settings.{is_setting, settings_of}
use Rattle.calls.proofs.Checks.{accepts, accepted}
use Rattle.tokenizer.specs.declared.Token.{Token}
use Rattle.tokenizer.specs.Tokens.{tokens}
use Rattle.tokenizer.proofs.EachToken.{Each}
use Rattle.tokenizer.proofs.TokenBoundaries.{Boundary, token_boundaries}
use Rattle.script.specs.Settings.{cutter_settings}
use Rattle.script.specs.Cuts.{is_cut}
use Rattle.script.specs.declared.Part.{Part}
use Rattle.script.specs.Parts.{part_text, parts_from, parts}
use Rattle.script.proofs.Tiles.{Tiled, tiled}
use Rattle.script.proofs.PartsEndToEnd.{EachPart, Inside, parts_inside}

module _ (s : List ℕ) where
  -- it starts and ends where a character does
  abbrev Whole : Part → Type 0
  Whole p = Boundary s p.start × Boundary s (p.start + p.len)

  whole_from : (ts : List Token) (from at : ℕ) → Tiled (length s) at ts → from ≤ at → Boundary s from → Each (λ t. Boundary s t.start × Boundary s (t.start + t.len)) ts → EachPart Whole (parts_from s from ts)
  unfolding parts_from
  whole_from [] from at h l b each = go (ltb from (length s)) refl
    where
      end : Boundary s (from + (length s - from))
      end = rw (drop_of_length-le s {i = from + (length s - from)} (omega arith)) end_formed

      go : (c : Bool) → ltb from (length s) ≡ c → EachPart Whole (parts_from s from [])
      go true e = rw e ((b, end), tt)
      go false e = rw e tt
  whole_from (t ∷ ts) from at h l b each =
      go (is_cut s t) refl (whole_from ts (t.start + t.len) (at + t.len) h.1 (omega (arith, h.0.from)) each.0.1 each.1) (whole_from ts from (at + t.len) h.1 (omega (arith, l)) b each.1)
    where
      end : from + (t.start + t.len - from) ≡ t.start + t.len
      end = omega (arith, l, h.0.from)

      go : (c : Bool) → is_cut s t ≡ c → EachPart Whole (parts_from s (t.start + t.len) ts) → EachPart Whole (parts_from s from ts) → EachPart Whole (parts_from s from (t ∷ ts))
      go true e ih jh = rw e ((b, rw end each.0.1), ih)
      go false e ih jh = rw e jh

  parts_whole : well_formed s ≡ true → EachPart Whole (parts s)
  unfolding parts
  parts_whole w = whole_from (tokens cutter_settings s) 0 0 (tiled cutter_settings s) (omega arith) w (token_boundaries cutter_settings s w)

  part_formed : (p : Part) → Whole p → well_formed (part_text s p) ≡ true
  part_formed p h =
      let joined : part_text s p ++ drop (p.start + p.len) s ≡ drop p.start s =
      ap (λ (l : List ℕ). part_text s p ++ l) (sym (drop-drop p.len p.start s)) ∙ take-append-drop p.len (drop p.start s)
      in
      let k : well_formed (part_text s p ++ []) ≡ true = replaced (part_text s p) (drop (p.start + p.len) s) [] (rw joined h.0) h.1 end_formed in
      rw append-nil at k

  module _ (settings : Settings) (e : checked 0 0 0 s ≡ Ok settings) (dialect joins named : ℕ) (good : is_setting dialect joins named ≡ true) where
    abbrev pub IsAccepted : Part → Type 0
    IsAccepted p = checked dialect joins named (part_text s p) ≡ Ok (settings_of dialect joins named)

    part_accepted : (p : Part) → Inside (length s) p → Whole p → IsAccepted p
    part_accepted p i w =
        let long = length-take-le p.len (drop p.start s) (rw length-drop (omega (arith, i.inside))) in
        let short = (accepts 0 0 0 settings s e).short in
        accepted dialect joins named (settings_of dialect joins named) (part_text s p)
        (record { setting = good; is = refl; short = omega (arith, long, short, i.inside); utf8 = part_formed p w })

    both : (ps : List Part) → EachPart (Inside (length s)) ps → EachPart Whole ps → EachPart IsAccepted ps
    both [] h k = tt
    both (p ∷ ps) h k = (part_accepted p h.0 k.0, both ps h.1 k.1)

    pub parts_accepted : EachPart IsAccepted (parts s)
    parts_accepted = both (parts s) (parts_inside s) (parts_whole (accepts 0 0 0 settings s e).utf8)
