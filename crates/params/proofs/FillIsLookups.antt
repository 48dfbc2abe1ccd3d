-- The filled text is what the lookups of the tokens, one after the other, give: the counter runs through them from 0.
-- Assumes nothing.
use Rattle.std.specs.Prelude.{Ok}
use Prim.Native.Nat.{ℕ, zero, suc}
use native.Mathlib.Numerals.{add-one}
use mathlib.Core.Path.{◌≡◌, refl, sym, ap, ◌∙◌}
use mathlib.Core.Bool.{false}
use mathlib.Core.List.{List, [], ◌∷◌, ◌++◌}
use lib.ListN.{length, drop}
use lib.Seq.{drop-drop}
use Rattle.calls.specs.declared.Settings.{Settings}
use Rattle.tokenizer.specs.declared.Token.{Token}
use Rattle.tokenizer.specs.Tokens.{tokens}
use Rattle.calls.specs.Texts.{text_answer, text_after, call_answer, call_output}
use Rattle.params.proofs.AcceptedFills.{fill_accepted}
use Rattle.params.specs.declared.Found.{Found}
use Rattle.params.specs.Get.{own_text}
use Rattle.params.specs.Filled.{is_placeholder, stands_for, index_after, part_bytes, filled_from, filled}
use Rattle.params.specs.Answers.{checked_with, fill_checked, found_for, found_first, found_at, lookup_found, lookup_bytes, lookup_counter, fill_answer, fill_output}

-- the bytes of so many lookups, from a place and a counter on, laid end to end
unfoldable pub lookups : List ℕ → ℕ → ℕ → ℕ → List ℕ → ℕ → ℕ → ℕ → List ℕ
lookups s dialect joins named sheet zero place counter = []
lookups s dialect joins named sheet (suc n) place counter =
    lookup_bytes s dialect joins named sheet place counter
    ++ lookups s dialect joins named sheet n (suc place) (lookup_counter s dialect joins named sheet place counter)

module _ (s : List ℕ) (dialect joins named : ℕ) (sheet : List ℕ) (settings : Settings) (e : checked_with s dialect joins named sheet ≡ Ok settings) where
  -- a lookup is what stands for the token there
  there : (place counter : ℕ) (t : Token) (ts : List Token) → drop place (tokens settings s) ≡ t ∷ ts
      → lookup_found s dialect joins named sheet place counter ≡ found_for s sheet counter t
  unfolding lookup_found found_at found_first
  there place counter t ts f =
      (let z : lookup_found s dialect joins named sheet place counter ≡ found_at settings s sheet place counter = rw e in z)
      ∙ ap (found_first s sheet counter) f

  behind : (place : ℕ) (t : Token) (ts : List Token) → drop place (tokens settings s) ≡ t ∷ ts → drop (suc place) (tokens settings s) ≡ ts
  behind place t ts f = rw (← add-one place) (sym (drop-drop 1 place (tokens settings s)) ∙ ap (drop 1) f)

  from_place : (ts : List Token) (place counter : ℕ) → drop place (tokens settings s) ≡ ts
      → filled_from s sheet counter ts ≡ lookups s dialect joins named sheet (length ts) place counter
  unfolding filled_from lookups
  from_place [] place counter f = refl
  from_place (t ∷ ts) place counter f =
      let found = there place counter t ts f in
      ap (λ (l : List ℕ). part_bytes s sheet (stands_for s sheet counter t) ++ l) (from_place ts (suc place) (index_after s sheet counter t) (behind place t ts f))
      ∙ ap (λ (q : Found). part_bytes s sheet q.part ++ lookups s dialect joins named sheet (length ts) (suc place) q.counter) (sym found)

  pub fill_is_lookups : filled settings s sheet ≡ lookups s dialect joins named sheet (length (tokens settings s)) 0 0
  unfolding filled
  fill_is_lookups = from_place (tokens settings s) 0 0 refl

  -- a token that is no Placeholder keeps its text and the counter
  pub other_kept : (place counter : ℕ) (t : Token) (ts : List Token) → drop place (tokens settings s) ≡ t ∷ ts → is_placeholder t ≡ false
      → lookup_found s dialect joins named sheet place counter ≡ record { part = own_text t; counter = counter }
  unfolding stands_for index_after
  other_kept place counter t ts f g = there place counter t ts f ∙ rw g

-- a fill that is accepted, and so the lookup is
module _ (s : List ℕ) (dialect joins named : ℕ) (sheet : List ℕ) (settings : Settings) (e : fill_checked s dialect joins named sheet ≡ Ok settings) where
  accepted : checked_with s dialect joins named sheet ≡ Ok settings
  accepted = fill_accepted s dialect joins named sheet settings e

  -- tells and writes the bytes of the lookups
  pub fill_tells_lookups : (room : ℕ) → fill_answer s dialect joins named sheet room ≡ text_answer (lookups s dialect joins named sheet (length (tokens settings s)) 0 0) room
  unfolding call_answer
  fill_tells_lookups room =
      (let z : fill_answer s dialect joins named sheet room ≡ text_answer (filled settings s sheet) room = rw e in z)
      ∙ ap (λ (text : List ℕ). text_answer text room) (fill_is_lookups s dialect joins named sheet settings accepted)

  pub fill_writes_lookups : (output : List ℕ) → fill_output s dialect joins named sheet output ≡ text_after (lookups s dialect joins named sheet (length (tokens settings s)) 0 0) output
  unfolding call_output
  fill_writes_lookups output =
      (let z : fill_output s dialect joins named sheet output ≡ text_after (filled settings s sheet) output = rw e in z)
      ∙ ap (λ (text : List ℕ). text_after text output) (fill_is_lookups s dialect joins named sheet settings accepted)
