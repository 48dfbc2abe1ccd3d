-- What fill answers, by what measuring tells.
-- Assumes nothing.
use Rattle.std.proofs.Common.{Option, Some, None}
use Rattle.std.specs.Prelude.{Result, Ok, Err}
use Rattle.std.specs.Borrow.{Bor}
use Prim.Native.Nat.{ℕ, ◌≤◌}
use native.Mathlib.Nat.{le_trans}
use native.Mathlib.Omega.{arith}
use mathlib.Core.Path.{◌≡◌, refl, sym, ap, ◌∙◌}
use mathlib.Core.Bool.{Bool, true, false, cond}
use mathlib.Core.List.{List}
use borrow.Author.Tests.{le-ltb, ltb-false}
use lib.Dec.{ltb}
use lib.ListN.{length}
use Rattle.calls.specs.declared.Refusal.{Refusal}
use Rattle.calls.specs.declared.Refusal.TheVariants.{OutputFull}
use Rattle.calls.specs.Texts.{text_answer, text_after, call_answer, call_output, written_over}
use Rattle.params.specs.declared.accepting.Filling.{Filling}
use Rattle.params.specs.Filled.{filled}
use Rattle.params.specs.Answers.{checked_with, unless_nought, fill_checked, fill_answer, fill_output}
use Rattle.params.specs.Inner.Fillings.{text_of}
use Rattle.params.specs.Inner.Longest.{most_filled}
use Rattle.params.specs.Inner.Noughts.{may_hold_nought, nought_of, measured, unless_full}
use Rattle.params.proofs.FilledShort.{filled_short}
use Rattle.params.proofs.Noughts.{held_nowhere}

-- so much room is enough, and no pair of bytes may be a place nought
pub fits_unmeasured : (f : Filling) (room n : ℕ) → n ≡ most_filled f.search.text.now f.sheet.headed.bytes.now → n ≤ room → may_hold_nought f.search.text.now f.sheet.headed.bytes.now ≡ false
    → Ok tt ≡ unless_full room (measured f)
fits_unmeasured f room n e h g =
    let none : nought_of f ≡ None = held_nowhere f.search.settings f.search.text.now f.sheet.headed.bytes.now g in
    let fits : length (text_of f) ≤ room = le_trans (filled_short f.search.text.now f.sheet.headed.bytes.now f.sheet.good f.search.settings) (rw (← e) h) in
    rw (none, le-ltb room (length (text_of f)) fits)

-- where it may be written it has the room
pub has_room : (f : Filling) (room : ℕ) → Ok tt ≡ unless_full room (measured f) → length (text_of f) ≤ room
has_room f room h = go (nought_of f) (ltb room (length (text_of f))) refl h
  where
    go : (q : Option ℕ) (b : Bool) → ltb room (length (text_of f)) ≡ b → Ok tt ≡ unless_full room (unless_nought (length (text_of f)) q) → length (text_of f) ≤ room
    go (Some n) b e h = absurd (let z : ◌≡◌ {A = ℕ} 0 1 = cc in let y : ⊥ = omega arith in y)
    go None true e h = absurd (let k : ◌≡◌ {A = Result (Unit {0}) Refusal} (Ok tt) (Err (OutputFull (length (text_of f)))) = rw e at h in let z : ◌≡◌ {A = ℕ} 0 1 = cc in let y : ⊥ = omega arith in y)
    go None false e h = ltb-false room (length (text_of f)) e

-- ---- what is told and written, where nothing stands in the way and where something does

abbrev answer_told : List ℕ → Result (Unit {0}) Refusal → Result ℕ Refusal
answer_told text (Ok u) = Ok (length text)
answer_told text (Err refusal) = Err refusal

abbrev output_told : List ℕ → List ℕ → Result (Unit {0}) Refusal → List ℕ
output_told text output (Ok u) = written_over text output
output_told text output (Err refusal) = output

module _ (text : List ℕ) where
  room_answer : (room : ℕ) → text_answer text room ≡ answer_told text (unless_full room (Ok (length text)))
  unfolding text_answer
  room_answer room = go (ltb room (length text))
    where
      go : (b : Bool) → cond b (Err (OutputFull (length text))) (Ok (length text)) ≡ answer_told text (cond b (Err (OutputFull (length text))) (Ok tt))
      go true = refl
      go false = refl

  room_output : (output : List ℕ) → text_after text output ≡ output_told text output (unless_full (length output) (Ok (length text)))
  unfolding text_after
  room_output output = go (ltb (length output) (length text))
    where
      go : (b : Bool) → cond b output (written_over text output) ≡ output_told text output (cond b (Err (OutputFull (length text))) (Ok tt))
      go true = refl
      go false = refl

module _ (statement sheet : Bor (List ℕ)) (dialect joins named : ℕ) (f : Filling) (e : Ok f.search.settings ≡ checked_with statement.now dialect joins named sheet.now)
    (text : f.search.text ≡ statement) (same : f.sheet.headed.bytes ≡ sheet) where
  checked_is : fill_checked statement.now dialect joins named sheet.now ≡ unless_nought f.search.settings (nought_of f)
  unfolding fill_checked
  checked_is = rw (← e, text, same)

  answer_is : (room : ℕ) → answer_told (text_of f) (unless_full room (measured f)) ≡ fill_answer statement.now dialect joins named sheet.now room
  unfolding call_answer
  answer_is room = go (nought_of f) ∙ rw (checked_is, text, same)
    where
      go : (q : Option ℕ) → answer_told (text_of f) (unless_full room (unless_nought (length (text_of f)) q)) ≡ call_answer (λ settings. filled settings f.search.text.now f.sheet.headed.bytes.now) room (unless_nought f.search.settings q)
      go (Some n) = refl
      go None = sym (room_answer (text_of f) room)

  output_is : (output : List ℕ) → output_told (text_of f) output (unless_full (length output) (measured f)) ≡ fill_output statement.now dialect joins named sheet.now output
  unfolding call_output
  output_is output = go (nought_of f) ∙ rw (checked_is, text, same)
    where
      go : (q : Option ℕ) → output_told (text_of f) output (unless_full (length output) (unless_nought (length (text_of f)) q)) ≡ call_output (λ settings. filled settings f.search.text.now f.sheet.headed.bytes.now) output (unless_nought f.search.settings q)
      go (Some n) = refl
      go None = sym (room_output (text_of f) output)

  module _ (output : List ℕ) (r : Result (Unit {0}) Refusal) (told : r ≡ unless_full (length output) (measured f)) where
    pub refused_answer : (refusal : Refusal) → r ≡ Err refusal → Err refusal ≡ fill_answer statement.now dialect joins named sheet.now (length output)
    refused_answer refusal g = ap (answer_told (text_of f)) (sym g ∙ told) ∙ answer_is (length output)

    pub refused_output : (refusal : Refusal) → r ≡ Err refusal → output ≡ fill_output statement.now dialect joins named sheet.now output
    refused_output refusal g = ap (output_told (text_of f) output) (sym g ∙ told) ∙ output_is output

    pub written_answer : (n : ℕ) → n ≡ length (text_of f) → r ≡ Ok tt → Ok n ≡ fill_answer statement.now dialect joins named sheet.now (length output)
    written_answer n h g = ap Ok h ∙ ap (answer_told (text_of f)) (sym g ∙ told) ∙ answer_is (length output)

    pub written_output : (after : List ℕ) → after ≡ written_over (text_of f) output → r ≡ Ok tt → after ≡ fill_output statement.now dialect joins named sheet.now output
    written_output after h g = h ∙ ap (output_told (text_of f) output) (sym g ∙ told) ∙ output_is output
