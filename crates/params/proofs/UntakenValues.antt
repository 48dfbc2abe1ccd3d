-- Two accepted sheets of one kind, with equal names and count, that differ only in values no placeholder takes give the same
-- fill answer and bytes.
-- Assumes nothing.
use Rattle.std.proofs.Common.{Option, Some, None}
use Rattle.std.specs.Prelude.{Result, Ok, Err}
use Prim.Native.Nat.{ℕ, zero, suc, ◌+◌, ◌<◌}
use native.Mathlib.Omega.{arith}
use mathlib.Core.Path.{◌≡◌, refl, sym, ap, ◌∙◌}
use mathlib.Core.Bool.{Bool, true, false, cond}
use mathlib.Core.List.{List, [], ◌∷◌, ◌++◌}
use borrow.Author.Tests.{ltb-true}
use lib.Dec.{ltb}
use Rattle.recognisers.specs.declared.Key.{Key}
use Rattle.recognisers.specs.declared.Key.TheVariants as K
use Rattle.recognisers.specs.Same.{same}
use Rattle.calls.specs.declared.Settings.{Settings}
use Rattle.tokenizer.specs.declared.Token.{Token}
use Rattle.calls.specs.Checks.{checked}
use Rattle.tokenizer.specs.KeyText.{key_text}
use Rattle.tokenizer.specs.Tokens.{tokens}
use Rattle.calls.specs.Texts.{text_answer, text_after, call_answer, call_output}
use Rattle.params.specs.declared.QueryParams.{QueryParams}
use Rattle.params.specs.declared.QueryParams.TheVariants as Q
use Rattle.params.specs.Sheet.{kind_of, params_of, count_of, place_of, name_of, value_at, value_of, is_sheet}
use Rattle.params.specs.Get.{first_named, with_name, by_name, by_index, taken_from, taken, value_part, value_or, get, index_past}
use Rattle.params.specs.Nought.{first_nought}
use Rattle.params.specs.Filled.{is_placeholder, stands_for, index_after, part_bytes, filled_from, filled}
use Rattle.params.specs.Answers.{checked_with, unless_nought, fill_checked, fill_answer, fill_output}
use Rattle.calls.specs.declared.Refusal.{Refusal}

-- the values that the placeholders among these tokens take from sheet a, from a counter on, are the same in sheet b
abbrev pub TakenAgree : List ℕ → List ℕ → List ℕ → ℕ → List Token → Type 0
TakenAgree s a b index [] = Unit {0}
TakenAgree s a b index (t ∷ ts) =
    (is_placeholder t ≡ true → taken s a index t.key < count_of a → value_of a (taken s a index t.key) ≡ value_of b (taken s a index t.key))
    × TakenAgree s a b (index_after s a index t) ts

module _ (s a b : List ℕ) (kind : kind_of a ≡ kind_of b) (count : count_of a ≡ count_of b) (names : (n : ℕ) → n < count_of a → name_of a n ≡ name_of b n) where
  same_params : params_of a ≡ params_of b
  unfolding params_of
  same_params = rw kind

  same_first : (text : List ℕ) (left n : ℕ) → n + left ≡ count_of a → first_named a text n left ≡ first_named b text n left
  unfolding first_named
  same_first text zero n h = refl
  same_first text (suc left) n h =
      ap (λ (name : List ℕ). cond (same name text) n (first_named a text (suc n) left)) (names n (omega arith))
      ∙ ap (λ (m : ℕ). cond (same (name_of b n) text) n m) (same_first text left (suc n) (omega arith))

  same_named : (text : List ℕ) → with_name a text ≡ with_name b text
  unfolding with_name
  same_named text = same_first text (count_of a) 0 (omega arith) ∙ ap (first_named b text 0) count

  same_by_name : (key : Option Key) → by_name s a key ≡ by_name s b key
  unfolding by_name
  same_by_name key = rw (same_named (key_text s key), count)

  same_by_index : (index : ℕ) (key : Option Key) → by_index a index key ≡ by_index b index key
  same_by_index index None = refl
  same_by_index index (Some (K.Named start len)) = refl
  same_by_index index (Some (K.Escaped start len)) = refl
  same_by_index index (Some (K.ZeroIndexed n)) = refl
  same_by_index index (Some (K.OneIndexed n)) = rw count

  same_from : (q : QueryParams) (index : ℕ) (key : Option Key) → taken_from q s a index key ≡ taken_from q s b index key
  same_from Q.Named index key = same_by_name key
  same_from Q.Indexed index key = rw (count, same_by_index index key)
  same_from Q.None index key = count

  same_taken : (index : ℕ) (key : Option Key) → taken s a index key ≡ taken s b index key
  unfolding taken
  same_taken index key = same_from (params_of a) index key ∙ ap (λ (q : QueryParams). taken_from q s b index key) same_params

  same_after : (index : ℕ) (t : Token) → index_after s a index t ≡ index_after s b index t
  unfolding index_after index_past
  same_after index t = rw same_params

  value_bytes : (sheet : List ℕ) (n : ℕ) → part_bytes s sheet (value_part sheet (place_of sheet n)) ≡ value_of sheet n
  unfolding value_part value_of value_at
  value_bytes sheet n = refl

  same_value : (n : ℕ) (t : Token) → (n < count_of a → value_of a n ≡ value_of b n) → part_bytes s a (value_or a n t) ≡ part_bytes s b (value_or b n t)
  unfolding value_or
  same_value n t h = go (ltb n (count_of a)) refl
    where
      go : (x : Bool) → ltb n (count_of a) ≡ x → part_bytes s a (value_or a n t) ≡ part_bytes s b (value_or b n t)
      go true e = rw (← count, e) (value_bytes a n ∙ h (ltb-true n (count_of a) e) ∙ sym (value_bytes b n))
      go false e = rw (← count, e)

  same_stands : (index : ℕ) (t : Token) → (is_placeholder t ≡ true → taken s a index t.key < count_of a → value_of a (taken s a index t.key) ≡ value_of b (taken s a index t.key))
      → part_bytes s a (stands_for s a index t) ≡ part_bytes s b (stands_for s b index t)
  unfolding stands_for get
  same_stands index t h = go (is_placeholder t) refl
    where
      go : (x : Bool) → is_placeholder t ≡ x → part_bytes s a (stands_for s a index t) ≡ part_bytes s b (stands_for s b index t)
      go true e = rw e (same_value (taken s a index t.key) t (h e) ∙ ap (λ (n : ℕ). part_bytes s b (value_or b n t)) (same_taken index t.key))
      go false e = rw e

  same_filled : (ts : List Token) (index : ℕ) → TakenAgree s a b index ts → filled_from s a index ts ≡ filled_from s b index ts
  unfolding filled_from
  same_filled [] index h = refl
  same_filled (t ∷ ts) index h =
      ap (λ (l : List ℕ). l ++ filled_from s a (index_after s a index t) ts) (same_stands index t h.0)
      ∙ ap (λ (l : List ℕ). part_bytes s b (stands_for s b index t) ++ l) (same_filled ts (index_after s a index t) h.1 ∙ ap (λ (i : ℕ). filled_from s b i ts) (same_after index t))

  module _ (good_a : is_sheet a ≡ true) (good_b : is_sheet b ≡ true) (dialect joins named : ℕ)
      (agree : (settings : Settings) → checked dialect joins named s ≡ Ok settings → TakenAgree s a b 0 (tokens settings s)) where
    pub untaken_answer : (room : ℕ) → fill_answer s dialect joins named a room ≡ fill_answer s dialect joins named b room
    unfolding call_answer checked_with fill_checked filled
    untaken_answer room = go (checked dialect joins named s) refl
      where
        go : (c : Result Settings Refusal) → checked dialect joins named s ≡ c → fill_answer s dialect joins named a room ≡ fill_answer s dialect joins named b room
        go (Ok settings) e = rw (e, good_a, good_b, ← same_params) (on (first_nought (params_of a) (tokens settings s)))
          where
            on : (q : Option ℕ) → call_answer (λ given. filled given s a) room (unless_nought settings q) ≡ call_answer (λ given. filled given s b) room (unless_nought settings q)
            on (Some n) = refl
            on None = ap (λ (text : List ℕ). text_answer text room) (same_filled (tokens settings s) 0 (agree settings e))
        go (Err refusal) e = rw e

    pub untaken_output : (output : List ℕ) → fill_output s dialect joins named a output ≡ fill_output s dialect joins named b output
    unfolding call_output checked_with fill_checked filled
    untaken_output output = go (checked dialect joins named s) refl
      where
        go : (c : Result Settings Refusal) → checked dialect joins named s ≡ c → fill_output s dialect joins named a output ≡ fill_output s dialect joins named b output
        go (Ok settings) e = rw (e, good_a, good_b, ← same_params) (on (first_nought (params_of a) (tokens settings s)))
          where
            on : (q : Option ℕ) → call_output (λ given. filled given s a) output (unless_nought settings q) ≡ call_output (λ given. filled given s b) output (unless_nought settings q)
            on (Some n) = refl
            on None = ap (λ (text : List ℕ). text_after text output) (same_filled (tokens settings s) 0 (agree settings e))
        go (Err refusal) e = rw e
