-- A statement and a sheet of which one byte more is kept than each may have are refused as the whole of both is.
use Rattle.std.proofs.Common.{◌≡◌, ℕ, ◌≤◌, ◌<◌, ◌⊎◌, inl, inr, leb, List, Bool, true, false, Option, None, Some, IfSome, Result, Ok, Err, OnOk, refl, ap, ◌∙◌, subst, arith, length, take, take_all, length-take-le}
use Rattle.std.proofs.lemmas.Bool.{cases_lt, lt-ltb, lt-leb}
use Rattle.calls.specs.Checks.{checked, checked_text}
use Rattle.calls.specs.Settings.{is_setting}
use Rattle.console.specs.Printed.{call_printed}
use Rattle.params.specs.Answers.{checked_with, with_sheet, with_places, fill_checked}
use Rattle.params.specs.Filled.{filled}
use Rattle.params.specs.Sheet.{is_sheet, is_sheet_length}
use Rattle.filling.specs.Input.{sheet_of, statement_of}
use Rattle.filling.specs.Printed.{fill_printed}
use Rattle.calls.specs.declared.Settings.{Settings}
use Rattle.calls.specs.declared.Refusal.{Refusal}

-- ---- the statement

module _ (sheet : List ℕ) (room : ℕ) where
  overlong : (s front : List ℕ) → 65536 < length s → 65536 < length front → fill_printed front sheet room ≡ fill_printed s sheet room
  unfolding fill_checked checked_with checked checked_text call_printed is_setting
  overlong s front long more = rw (lt-ltb _ _ long, lt-ltb _ _ more)

  statement_by : (s : List ℕ) → (65536 < length s) ⊎ (length s ≤ 65536) → fill_printed (take 65537 s) sheet room ≡ fill_printed s sheet room
  statement_by s (inl long) = overlong s (take 65537 s) long (omega (arith, length-take-le 65537 s (omega arith)))
  statement_by s (inr short) = ap (λ front. fill_printed front sheet room) (take_all 65537 s (omega arith))

-- ---- the sheet

no_sheet : (sheet : List ℕ) → 65536 < length sheet → is_sheet sheet ≡ false
unfolding is_sheet is_sheet_length
no_sheet sheet long = go (leb 3 (length sheet)) refl
  where
    go : (b : Bool) → leb 3 (length sheet) ≡ b → is_sheet sheet ≡ false
    go true e = rw (e, lt-leb _ _ long)
    go false e = rw e

module _ (s : List ℕ) (room : ℕ) where
  without : (sheet front : List ℕ) (c : Result Settings Refusal) → is_sheet sheet ≡ false → is_sheet front ≡ false
      → call_printed (λ settings. filled settings s front) room (with_places s front (with_sheet front c))
      ≡ call_printed (λ settings. filled settings s sheet) room (with_places s sheet (with_sheet sheet c))
  unfolding call_printed
  without sheet front (Ok settings) e f = rw (e, f)
  without sheet front (Err refusal) e f = refl

  long_sheet : (sheet front : List ℕ) → is_sheet sheet ≡ false → is_sheet front ≡ false → fill_printed s front room ≡ fill_printed s sheet room
  unfolding fill_checked checked_with
  long_sheet sheet front e f = without sheet front (checked 0 0 0 s) e f

  sheet_by : (sheet : List ℕ) → (65536 < length sheet) ⊎ (length sheet ≤ 65536) → fill_printed s (take 65537 sheet) room ≡ fill_printed s sheet room
  sheet_by sheet (inl long) = long_sheet sheet (take 65537 sheet) (no_sheet sheet long) (no_sheet _ (omega (arith, length-take-le 65537 sheet (omega arith))))
  sheet_by sheet (inr short) = ap (λ front. fill_printed s front room) (take_all 65537 sheet (omega arith))

pub fill_whole : (s sheet : List ℕ) (room : ℕ) → fill_printed (take 65537 s) (take 65537 sheet) room ≡ fill_printed s sheet room
fill_whole s sheet room = statement_by (take 65537 sheet) room s (cases_lt 65536 (length s)) ∙ sheet_by s room sheet (cases_lt 65536 (length sheet))

-- what holds of what is kept of sheet and statement, and so of the whole, holds of the input where its bytes are known
pub whole_input : {A E : Type 0} (a b : Option (List ℕ)) (r : Result A E) (P : List ℕ → List ℕ → Type 0) (sheet statement : List ℕ) (most : ℕ)
    → IfSome a (λ xs. sheet ≡ take most (sheet_of xs)) → IfSome a (λ xs. b ≡ Some (statement_of xs)) → IfSome b (λ ys. statement ≡ take most ys)
    → ((s whole : List ℕ) → P (take most s) (take most whole) → P s whole)
    → OnOk r (P statement sheet) → OnOk r (IfSome a (λ xs. P (statement_of xs) (sheet_of xs)))
whole_input a b (Err e) P sheet statement most read left text whole shown = tt
whole_input None b (Ok x) P sheet statement most read left text whole shown = tt
whole_input (Some xs) b (Ok x) P sheet statement most read left text whole shown =
    let behind : statement ≡ take most (statement_of xs) = subst (λ k. IfSome k (λ ys. statement ≡ take most ys)) left text in
    whole _ _ (subst (λ k. P k (take most (sheet_of xs))) behind (subst (P statement) read shown))
