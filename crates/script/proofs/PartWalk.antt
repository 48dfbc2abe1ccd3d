-- The walk over the tokens that counts the parts and writes their places. The state is the start of the present part.
-- Assumes nothing.
use Prim.Native.Nat.{ℕ, suc, ◌+◌, ◌*◌, ◌/◌, ◌≤◌}
use native.Mathlib.Nat.{suc-mul, le_trans}
use native.Mathlib.Omega.{arith}
use mathlib.Core.Path.{◌≡◌, refl, sym, ap, ◌∙◌, subst}
use mathlib.Core.Bool.{Bool, true, false, cond}
use mathlib.Core.List.{List, [], ◌∷◌, ◌++◌, append_assoc}
use borrow.Author.Tests.{eq-eqb, ne_eqb, lt-ltb, le-ltb}
use lib.ListN.{length, drop, length-append}
use lib.Seq.{sets}
use Rattle.calls.specs.LittleEndian.{low_bytes}
use Rattle.calls.specs.declared.Settings.{Settings}
use Rattle.std.specs.Prelude.{Option, Some, None}
use Rattle.std.specs.Iterator.{YieldsFirst}
use Rattle.std.specs.List.{filter}
use Rattle.std.proofs.lemmas.List.Sums.{length-filter, count_by-le-length}
use Rattle.tokenizer.specs.declared.Token.{Token}
use Rattle.tokenizer.specs.declared.walking.Tokens.{Tokens}
use Rattle.tokenizer.specs.Left.{tokens_left}
use Rattle.tokenizer.specs.Tokens.{tokens}
use Rattle.tokenizer.specs.Inner.Inside.{key_end}
use Rattle.tokenizer.proofs.EndToEnd.{tokens_short}
use Rattle.tokenizer.proofs.Walks.{Walk, taken, Wrote, write_start, write_room, write_to, write_count, write_end, token_key}
use Rattle.script.specs.Settings.{cutter_settings}
use Rattle.script.specs.Cuts.{is_cut}
use Rattle.script.specs.declared.Part.{Part}
use Rattle.script.specs.Parts.{between, parts_from, parts}
use Rattle.script.specs.Places.{place_bytes, place_of, places_of}
use Rattle.script.specs.Inner.Ended.{ends_part, ended_at, start_past}
use Rattle.script.proofs.Tiles.{Tiled, tiled}

-- ---- the parts, each with the token that ends it

unfoldable ended_from : List ℕ → ℕ → List Token → List Part
ended_from s from [] = []
ended_from s from (t ∷ ts) = ended_at s from t ++ ended_from s (start_past s from t) ts

module _ (s : List ℕ) where
  -- where more tokens come the token's end is not the script's, and where none come it is
  ended : (from at : ℕ) (t : Token) (ts : List Token) → Tiled (length s) at (t ∷ ts) → from ≤ at → parts_from s from (t ∷ ts) ≡ ended_from s from (t ∷ ts)
  unfolding parts_from ended_from ended_at start_past ends_part
  ended from at t [] h l = go (is_cut s t) refl
    where
      last : t.start + t.len ≡ length s
      last = omega (arith, h.0.from, h.1)

      go : (b : Bool) → is_cut s t ≡ b → parts_from s from (t ∷ []) ≡ ended_from s from (t ∷ [])
      go true e = rw (e, le-ltb (t.start + t.len) (length s) (omega (arith, last)))
      go false e = rw (e, eq-eqb _ _ last, lt-ltb from (length s) (omega (arith, l, h.0.some, h.1)), last)
  ended from at t (u ∷ ts) h l =
      go (is_cut s t) refl (ended (t.start + t.len) (at + t.len) u ts h.1 (omega (arith, h.0.from))) (ended from (at + t.len) u ts h.1 (omega (arith, l)))
    where
      more : t.start + t.len ≡ length s → ⊥
      more e = omega (arith, e, h.0.from, h.1.0.some, h.1.0.inside)

      go : (b : Bool) → is_cut s t ≡ b → parts_from s (t.start + t.len) (u ∷ ts) ≡ ended_from s (t.start + t.len) (u ∷ ts)
          → parts_from s from (u ∷ ts) ≡ ended_from s from (u ∷ ts) → parts_from s from (t ∷ (u ∷ ts)) ≡ ended_from s from (t ∷ (u ∷ ts))
      go true e ih jh = rw e (ap (λ (ps : List Part). between from (t.start + t.len) ∷ ps) ih)
      go false e ih jh = rw (e, ne_eqb _ _ more) jh

  parts_ended : (ts : List Token) → Tiled (length s) 0 ts → parts_from s 0 ts ≡ ended_from s 0 ts
  unfolding parts_from ended_from
  parts_ended [] h = rw (le-ltb 0 (length s) (omega (arith, h)))
  parts_ended (t ∷ ts) h = ended 0 0 t ts h (omega arith)

  parts_are : parts s ≡ ended_from s 0 (tokens cutter_settings s)
  unfolding parts
  parts_are = parts_ended (tokens cutter_settings s) (tiled cutter_settings s)

  -- ---- counted

  ended_count : (from : ℕ) (ts : List Token) → length (filter (ends_part s) ts) ≡ length (ended_from s from ts)
  unfolding ended_from ended_at
  ended_count from [] = refl
  ended_count from (t ∷ ts) = go (ends_part s t) refl (ended_count (start_past s from t) ts)
    where
      go : (b : Bool) → ends_part s t ≡ b → length (filter (ends_part s) ts) ≡ length (ended_from s (start_past s from t) ts)
          → length (filter (ends_part s) (t ∷ ts)) ≡ length (ended_from s from (t ∷ ts))
      go true e ih = rw e (ap suc ih)
      go false e ih = rw e ih

  pub parts_counted : (settings : Settings) → settings ≡ cutter_settings → length (filter (ends_part s) (tokens settings s)) ≡ length (parts s)
  parts_counted settings e = rw (parts_are, e) (ended_count 0 (tokens cutter_settings s))

  -- no more parts than bytes
  pub parts_short : length (parts s) ≤ length s
  parts_short = rw (← parts_counted cutter_settings refl) (rw length-filter (le_trans (count_by-le-length (ends_part s) (tokens cutter_settings s)) (tokens_short cutter_settings s)))

-- ---- places

place_length : (p : Part) → length (place_of p) ≡ place_bytes
unfolding place_of low_bytes
place_length p = refl

pub places_length : (ps : List Part) → length (places_of ps) ≡ length ps * place_bytes
unfolding places_of
places_length [] = refl
places_length (p ∷ ps) = rw (length-append, place_length p, places_length ps, suc-mul) (omega arith)

places_append : (ps qs : List Part) → places_of (ps ++ qs) ≡ places_of ps ++ places_of qs
unfolding places_of
places_append [] qs = refl
places_append (p ∷ ps) qs = ap (λ (l : List ℕ). place_of p ++ l) (places_append ps qs) ∙ sym (append_assoc (place_of p) (places_of ps) (places_of qs))

-- ---- written

module _ (s : List ℕ) where
  none_placed : (from : ℕ) → places_of (ended_from s from []) ≡ []
  unfolding ended_from places_of
  none_placed from = refl

  more_placed : (from : ℕ) (t : Token) (ts : List Token) → places_of (ended_from s from (t ∷ ts)) ≡ places_of (ended_at s from t) ++ places_of (ended_from s (start_past s from t) ts)
  unfolding ended_from
  more_placed from t ts = places_append (ended_at s from t) (ended_from s (start_past s from t) ts)

  abbrev place_walk : Walk ℕ ℕ
  place_walk = record { adds = λ x t. places_of (ended_at s x t); past = start_past s; text = λ x ts. places_of (ended_from s x ts); none = none_placed; more = more_placed }

  abbrev all : List ℕ
  all = places_of (ended_from s 0 (tokens cutter_settings s))

  all_is : all ≡ places_of (parts s)
  all_is = ap places_of (sym (parts_are s))

  module _ (before : List ℕ) where
    -- the places are written up to a place, and the present part starts no later than the next token
    pub record Cutting (places : List ℕ) (at from : ℕ) (it : Tokens) : Type 0 where
      wrote : Wrote place_walk cutter_settings s all before places at from it
      next : ℕ
      tiles : Tiled (length s) next (tokens_left it)
      low : from ≤ next

    pub cut_start : (settings : Settings) (it made : Tokens) → settings ≡ cutter_settings → it ≡ made → tokens_left made ≡ tokens settings s → length (places_of (parts s)) ≤ length before → Cutting before 0 0 it
    cut_start settings it made e f g h =
        let begun : tokens_left it ≡ tokens cutter_settings s = ap tokens_left f ∙ g ∙ ap (λ (chosen : Settings). tokens chosen s) e in
        record { wrote = write_start place_walk cutter_settings s all before 0 it refl begun (rw all_is h); next = 0; tiles = rw begun (tiled cutter_settings s); low = omega arith }

    module _ (places : List ℕ) (at from : ℕ) (it it' : Tokens) (r : Option Token) (now : Cutting places at from it) (e : YieldsFirst tokens_left it r it') where
      module _ (t : Token) (f : r ≡ Some t) where
        tile : Tiled (length s) now.next (t ∷ tokens_left it')
        tile = subst (Tiled (length s) now.next) (taken it it' r e t f) now.tiles

        pub cut_order : from ≤ t.start + t.len
        cut_order = omega (arith, now.low, tile.0.from)

        pub cut_inside : t.start + t.len ≤ length s
        cut_inside = omega (arith, tile.0.from, tile.0.inside)

        pub cut_key : key_end t.key ≤ length s
        cut_key = token_key cutter_settings s it it' r now.wrote.counted.rest e t f

        pub cut_room : at + length (places_of (ended_at s from t)) ≤ length places
        cut_room = write_room place_walk cutter_settings s all before places at from it it' r now.wrote e t f (length (places_of (ended_at s from t))) refl

        pub cut_more : (after : List ℕ) (m y : ℕ) → m ≡ at + length (places_of (ended_at s from t)) → after ≡ sets places at (places_of (ended_at s from t)) → y ≡ start_past s from t → Cutting after m y it'
        unfolding start_past
        cut_more after m y g h i =
            record {
              wrote = write_to place_walk cutter_settings s all before places at from it it' r now.wrote e t f (length (places_of (ended_at s from t))) refl y after i h m g;
              next = now.next + t.len;
              tiles = tile.1;
              low = rw i (go (ends_part s t));
            }
          where
            go : (b : Bool) → cond b (t.start + t.len) from ≤ now.next + t.len
            go true = omega (arith, tile.0.from)
            go false = omega (arith, now.low)

      pub cut_end : r ≡ None → places ≡ places_of (parts s) ++ drop (length (places_of (parts s))) before
      cut_end f = rw (← all_is) (write_end place_walk cutter_settings s all before places at from it it' r now.wrote e f)

      pub cut_count : r ≡ None → at / place_bytes ≡ length (parts s)
      cut_count f = omega (arith, write_count place_walk cutter_settings s all before places at from it it' r now.wrote e f, ap length all_is, places_length (parts s))
