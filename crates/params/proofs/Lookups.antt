-- The lookup: the token at a place, what stands for it, and what the caller is told.
-- Assumes nothing.
use Prim.Native.Nat.{ℕ, zero, suc, ◌+◌, ◌≤◌, zero-le}
use native.Mathlib.Omega.{arith}
use mathlib.Core.Path.{◌≡◌, refl, sym, ap, ◌∙◌, subst}
use mathlib.Core.Bool.{true}
use mathlib.Core.List.{List, [], ◌∷◌}
use lib.ListN.{length, drop}
use Rattle.calls.specs.declared.Refusal.{Refusal}
use Rattle.calls.specs.declared.Settings.{Settings}
use Rattle.tokenizer.specs.declared.Token.{Token}
use Rattle.calls.specs.Checks.{accepted_or, told_number, told_detail}
use Rattle.calls.specs.Texts.{text_number, text_detail}
use Rattle.tokenizer.specs.Tokens.{tokens}
use Rattle.std.specs.Prelude.{Result, Ok, Err, Option, Some, None, slice_get, IfOk}
use Rattle.std.specs.Result.{result_unwrap_or}
use Rattle.tokenizer.proofs.EachToken.{Each, each_inside, each_key}
use Rattle.params.specs.declared.Found.{Found}
use Rattle.params.specs.Sheet.{is_sheet}
use Rattle.tokenizer.specs.Inner.Inside.{key_end}
use Rattle.params.specs.Inner.Inside.{PartInside}
use Rattle.params.specs.Filled.{stands_for, part_length}
use Rattle.params.specs.Inner.Lookups.{looked_up, length_of}
use Rattle.params.specs.Answers.{checked_with, nothing_found, found_for, found_first, found_at, lookup_found, lookup_number, lookup_detail}
use Rattle.params.proofs.TokensInside.{stands_inside}

-- ---- the token at a place

none_some : {X : Type 0} {t : Token} → ◌≡◌ {A = Option Token} None (Some t) → X
none_some e = let z : ◌≡◌ {A = ℕ} 0 1 = cc in absurd (let w : ⊥ = omega arith in w)

of_got : (P : Token → Type 0) (ts : List Token) (k : ℕ) (t : Token) → Each P ts → slice_get ts k ≡ Some t → P t
of_got P [] k t h e = none_some e
of_got P (u ∷ ts) zero t h e = let f : u ≡ t = cc in subst P f h.0
of_got P (u ∷ ts) (suc k) t h e = of_got P ts k t h.1 e

module _ (s sheet : List ℕ) (counter : ℕ) where
  first_got : (ts : List Token) (k : ℕ) (t : Token) → slice_get ts k ≡ Some t → found_first s sheet counter (drop k ts) ≡ found_for s sheet counter t
  unfolding found_first
  first_got [] k t e = none_some e
  first_got (u ∷ ts) zero t e = let f : u ≡ t = cc in ap (found_for s sheet counter) f
  first_got (u ∷ ts) (suc k) t e = first_got ts k t e

  first_none : (ts : List Token) (k : ℕ) → slice_get ts k ≡ None → found_first s sheet counter (drop k ts) ≡ nothing_found counter
  unfolding found_first
  first_none [] zero e = refl
  first_none [] (suc k) e = refl
  first_none (u ∷ ts) zero e = none_some (sym e)
  first_none (u ∷ ts) (suc k) e = first_none ts k e

module _ (settings : Settings) (s : List ℕ) (place : ℕ) (r : Option Token) (e : r ≡ slice_get (tokens settings s) place) where
  module _ (t : Token) (f : r ≡ Some t) where
    pub find_key : key_end t.key ≤ length s
    find_key = of_got (λ u. key_end u.key ≤ length s) (tokens settings s) place t (each_key settings s) (sym e ∙ f)

    pub find_inside : t.start + t.len ≤ length s
    find_inside = of_got (λ u. u.start + u.len ≤ length s) (tokens settings s) place t (each_inside settings s) (sym e ∙ f)

    module _ (sheet : List ℕ) (counter : ℕ) (found : Found) (g : found ≡ found_for s sheet counter t) where
      pub find_found : found ≡ found_at settings s sheet place counter
      unfolding found_at
      find_found = g ∙ sym (first_got s sheet counter (tokens settings s) place t (sym e ∙ f))

      pub found_inside : is_sheet sheet ≡ true → PartInside s sheet found.part
      found_inside good =
          let p : found.part ≡ stands_for s sheet counter t = ap (λ (q : Found). q.part) g in
          rw p (stands_inside s sheet good t find_inside counter)

  module _ (f : r ≡ None) (sheet : List ℕ) (counter : ℕ) (found : Found) (g : found ≡ nothing_found counter) where
    pub find_none : found ≡ found_at settings s sheet place counter
    unfolding found_at
    find_none = g ∙ sym (first_none s sheet counter (tokens settings s) place (sym e ∙ f))

    pub none_inside : PartInside s sheet found.part
    unfolding nothing_found
    none_inside = let p : found.part ≡ (nothing_found counter).part = ap (λ (q : Found). q.part) g in rw p zero-le

-- ---- what is told

module _ (s : List ℕ) (dialect joins named : ℕ) (sheet : List ℕ) (place counter : ℕ) (answer : Result Found Refusal) (e : answer ≡ looked_up s dialect joins named sheet place counter) where
  -- an answer, by the two cases of the check
  by_check : (P : Result Settings Refusal → Result Found Refusal → Type 0) → ((settings : Settings) → P (Ok settings) (Ok (found_at settings s sheet place counter)))
      → ((refusal : Refusal) → P (Err refusal) (Err refusal)) → P (checked_with s dialect joins named sheet) answer
  unfolding looked_up
  by_check P accepted refused = rw e (go (checked_with s dialect joins named sheet))
    where
      go : (c : Result Settings Refusal) → P c (accepted_or (λ settings. Ok (found_at settings s sheet place counter)) Err c)
      go (Ok settings) = accepted settings
      go (Err refusal) = refused refusal

  pub found_told : result_unwrap_or answer (nothing_found counter) ≡ lookup_found s dialect joins named sheet place counter
  unfolding lookup_found
  found_told =
      by_check (λ c r. result_unwrap_or r (nothing_found counter) ≡ accepted_or (λ settings. found_at settings s sheet place counter) (λ refusal. nothing_found counter) c)
      (λ settings. refl) (λ refusal. refl)

  module _ (told : Result ℕ Refusal) (h : told ≡ length_of answer) where
    pub number_told : (n : ℕ) → n ≡ text_number told → n ≡ lookup_number s dialect joins named sheet
    unfolding lookup_number
    number_told n f = f ∙ ap text_number h ∙ by_check (λ c r. text_number (length_of r) ≡ told_number c) (λ settings. refl) (λ refusal. refl)

    pub detail_told : (n : ℕ) → n ≡ text_detail told → n ≡ lookup_detail s dialect joins named sheet place counter
    unfolding lookup_detail lookup_found
    detail_told n f =
        f
        ∙ ap text_detail h
        ∙ by_check
        (λ c r. text_detail (length_of r) ≡ told_detail (part_length (accepted_or (λ settings. found_at settings s sheet place counter) (λ refusal. nothing_found counter) c).part) c)
        (λ settings. refl) (λ refusal. refl)

  module _ (h : IfOk answer (λ found. PartInside s sheet found.part)) where
    pub told_inside : PartInside s sheet (result_unwrap_or answer (nothing_found counter)).part
    unfolding nothing_found
    told_inside = go answer h
      where
        go : (r : Result Found Refusal) → IfOk r (λ found. PartInside s sheet found.part) → PartInside s sheet (result_unwrap_or r (nothing_found counter)).part
        go (Ok found) g = g
        go (Err refusal) g = zero-le
