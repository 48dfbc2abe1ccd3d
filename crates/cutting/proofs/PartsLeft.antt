-- The parts that are still to print, and their places.
-- Assumes nothing.
use Prim.Native.Nat.{ℕ, ◌+◌, ◌≤◌}
use native.Mathlib.Omega.{arith}
use mathlib.Core.Path.{◌≡◌, refl, sym, ap, ◌∙◌}
use mathlib.Core.List.{List, [], ◌∷◌, ◌++◌, append_assoc, append-nil}
use lib.ListN.{length, take, drop, take-append-drop}
use lib.Seq.{take-append_seam, drop-append_seam}
use denote.Ref.{Bor}
use Rattle.std.specs.Prelude.{Some, None}
use Rattle.std.specs.declared.iter.Take.{Take}
use Rattle.std.specs.declared.slice.ChunksExact.{ChunksExact}
use Rattle.std.specs.Iterator.Adapters.{take_source, take_count, take_steps}
use Rattle.std.specs.Slice.Iter.{chunks_exact_rest, chunks_exact_size, chunks_exact_steps}
use Rattle.calls.specs.LittleEndian.{low_bytes}
use Rattle.script.specs.declared.Part.{Part}
use Rattle.script.specs.Parts.{parts}
use Rattle.script.specs.Places.{place_of, places_of}
use Rattle.script.proofs.PartsEndToEnd.{EachPart, Inside, parts_inside}
use Rattle.cutting.specs.Inner.{part_at}
use Rattle.cutting.specs.Printed.{part_printed, parts_printed}
use Rattle.cutting.proofs.PlacesRead.{start_read, len_read}

-- eight bytes off the front are the first place's
module _ (p : Part) (place after rest : List ℕ) (long : length place ≡ 8) (e : place ++ after ≡ place_of p ++ rest) where
  place_is : place ≡ place_of p
  unfolding place_of low_bytes
  place_is = sym (take-append_seam place after) ∙ ap (λ (n : ℕ). take n (place ++ after)) long ∙ ap (take 8) e

  after_is : after ≡ rest
  unfolding place_of low_bytes
  after_is = sym (drop-append_seam place after) ∙ ap (λ (n : ℕ). drop n (place ++ after)) long ∙ ap (drop 8) e

module _ (s : List ℕ) where
  -- what is to come of the places, and what was printed
  pub record Left (iterator : Take (ChunksExact ℕ)) (passed : List ℕ) : Type 0 where
    rest : List Part
    behind : List ℕ
    size : chunks_exact_size (take_source iterator) ≡ 8
    here : chunks_exact_rest (take_source iterator) ≡ places_of rest ++ behind
    many : take_count iterator ≡ length rest
    inside : EachPart (Inside (length s)) rest
    whole : passed ++ parts_printed s rest ≡ parts_printed s (parts s)

  module _ (places : List ℕ) (iterator : Take (ChunksExact ℕ)) where
    pub left_start : chunks_exact_rest (take_source iterator) ≡ places → chunks_exact_size (take_source iterator) ≡ 8 → take_count iterator ≡ length (parts s)
        → take (length (places_of (parts s))) places ≡ places_of (parts s) → Left iterator []
    left_start all size many e =
        record {
          rest = parts s;
          behind = drop (length (places_of (parts s))) places;
          size = size;
          here = all ∙ sym (take-append-drop (length (places_of (parts s))) places) ∙ ap (λ (l : List ℕ). l ++ drop (length (places_of (parts s))) places) e;
          many = many;
          inside = parts_inside s;
          whole = refl;
        }

  module _ (before after : Take (ChunksExact ℕ)) (passed : List ℕ) (left : Left before passed) where
    pub left_end : take_steps chunks_exact_steps before None after → passed ≡ parts_printed s (parts s)
    unfolding parts_printed places_of place_of low_bytes
    left_end h = go left.rest left.many left.here left.whole
      where
        go : (ps : List Part) → take_count before ≡ length ps → chunks_exact_rest (take_source before) ≡ places_of ps ++ left.behind
            → passed ++ parts_printed s ps ≡ parts_printed s (parts s) → passed ≡ parts_printed s (parts s)
        go [] m f w = sym (append-nil passed) ∙ w
        go (p ∷ ps) m f w =
            let none = h (omega (arith, m)) in
            absurd (let z : ⊥ = omega (arith, none.1.0, left.size, ap length f) in z)

    module _ (place : Bor (List ℕ)) (h : take_steps chunks_exact_steps before (Some place) after) (short : length s ≤ 65536) where
      record Next : Type 0 where
        p : Part
        ps : List Part
        here : chunks_exact_rest (take_source before) ≡ place_of p ++ (places_of ps ++ left.behind)
        inside : Inside (length s) p
        rest_inside : EachPart (Inside (length s)) ps
        many : take_count after ≡ length ps
        whole : (passed ++ part_printed s p) ++ parts_printed s ps ≡ parts_printed s (parts s)

      next : Next
      unfolding parts_printed places_of
      next = go left.rest left.many left.here left.inside left.whole
        where
          go : (ps : List Part) → take_count before ≡ length ps → chunks_exact_rest (take_source before) ≡ places_of ps ++ left.behind → EachPart (Inside (length s)) ps
              → passed ++ parts_printed s ps ≡ parts_printed s (parts s) → Next
          go [] e f k w = absurd (let z : ⊥ = omega (arith, e, h.1) in z)
          go (p ∷ ps) e f k w =
              record {
                p = p;
                ps = ps;
                here = f ∙ append_assoc (place_of p) (places_of ps) left.behind;
                inside = k.0;
                rest_inside = k.1;
                many = omega (arith, e, h.1);
                whole = append_assoc passed (part_printed s p) (parts_printed s ps) ∙ w;
              }

      split : place.now ++ chunks_exact_rest (take_source after) ≡ place_of next.p ++ (places_of next.ps ++ left.behind)
      split = sym h.0.1.0 ∙ next.here

      long : length place.now ≡ 8
      long = h.0.1.1 ∙ left.size

      module _ (part : Part) (e : part ≡ part_at place.now) where
        part_is : part ≡ next.p
        part_is =
            e
            ∙ ap part_at (place_is next.p place.now _ _ long split)
            ∙ rw (start_read next.p (omega (arith, next.inside.inside, short)), len_read next.p (omega (arith, next.inside.inside, short)))

        pub place_inside : part.start + part.len ≤ length s
        place_inside = rw part_is next.inside.inside

        pub left_more : Left after (passed ++ part_printed s part)
        left_more =
            record {
              rest = next.ps;
              behind = left.behind;
              size = h.0.0 ∙ left.size;
              here = after_is next.p place.now _ _ long split;
              many = next.many;
              inside = next.rest_inside;
              whole = rw part_is next.whole;
            }
