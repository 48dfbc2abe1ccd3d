-- What a call says that it wrote lies inside the output.
-- Assumes nothing.
use Rattle.std.specs.Prelude.{Result, Ok, Err}
use Prim.Native.Nat.{ℕ, ◌≤◌}
use native.Mathlib.Omega.{arith}
use mathlib.Core.Path.{◌≡◌, refl, sym, ◌∙◌}
use mathlib.Core.List.{List}
use mathlib.Core.Bool.{Bool, true, false}
use borrow.Author.Tests.{ltb-false}
use lib.Dec.{ltb}
use lib.ListN.{length, length-append, length-drop}
use Rattle.calls.specs.declared.Refusal.{Refusal}
use Rattle.calls.specs.declared.Refusal.TheVariants.{OutputFull}
use Rattle.calls.specs.declared.Settings.{Settings}
use Rattle.calls.specs.Texts.{text_answer, text_after, call_answer, call_output}

text_inside : (text : List ℕ) (room n : ℕ) → text_answer text room ≡ Ok n → n ≤ room
unfolding text_answer
text_inside text room n e = go (ltb room (length text)) refl
  where
    go : (b : Bool) → ltb room (length text) ≡ b → n ≤ room
    go true f =
        let g : Err (OutputFull (length text)) ≡ Ok n = sym (rw f) ∙ e in
        let h : ◌≡◌ {A = ℕ} 0 1 = cc in
        absurd (let z : ⊥ = omega arith in z)
    go false f = let g : Ok (length text) ≡ Ok n = sym (rw f) ∙ e in let h : length text ≡ n = cc in rw (← h) (ltb-false _ _ f)

text_long : (text output : List ℕ) → length (text_after text output) ≡ length output
unfolding text_after
text_long text output = go (ltb (length output) (length text)) refl
  where
    go : (b : Bool) → ltb (length output) (length text) ≡ b → length (text_after text output) ≡ length output
    go true f = rw f
    go false f = let h : length text ≤ length output = ltb-false _ _ f in rw (f, length-append, length-drop) (omega arith)

module _ (text : Settings → List ℕ) where
  call_inside : (room n : ℕ) (c : Result Settings Refusal) → call_answer text room c ≡ Ok n → n ≤ room
  unfolding call_answer
  call_inside room n (Ok settings) e = text_inside (text settings) room n e
  call_inside room n (Err refusal) e = let h : ◌≡◌ {A = ℕ} 0 1 = cc in absurd (let z : ⊥ = omega arith in z)

  call_long : (output : List ℕ) (c : Result Settings Refusal) → length (call_output text output c) ≡ length output
  unfolding call_output
  call_long output (Ok settings) = text_long (text settings) output
  call_long output (Err refusal) = refl

  pub call_written : (output : List ℕ) (c : Result Settings Refusal) (n : ℕ) → call_answer text (length output) c ≡ Ok n → n ≤ length (call_output text output c)
  call_written output c n e = rw call_long (call_inside (length output) n c e)
