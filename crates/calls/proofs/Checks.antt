-- What an accepted call keeps to.
-- Assumes nothing.
use Rattle.std.specs.Prelude.{Ok, Err}
use Prim.Native.Nat.{ℕ, ◌≤◌}
use native.Mathlib.Omega.{arith}
use mathlib.Core.Path.{◌≡◌, refl}
use mathlib.Core.Bool.{Bool, true, false, cond}
use mathlib.Core.List.{List}
use borrow.Author.Tests.{le-ltb, ltb-false}
use lib.Dec.{ltb}
use lib.ListN.{length}
use Rattle.std.specs.declared.option.Option.{Option}
use Rattle.std.specs.declared.option.Option.TheVariants.{Some, None}
use Rattle.characters.specs.Utf8.{first_ill_formed, well_formed}
use Rattle.characters.proofs.WellFormedSteps.{ill_formed_nowhere}
use Rattle.calls.specs.declared.Refusal.{Refusal}
use Rattle.calls.specs.declared.Refusal.TheVariants.{Overlong, NotUtf8, Setting}
use Rattle.calls.specs.declared.Settings.{Settings}
use Rattle.calls.specs.Settings.{is_setting, settings_of}
use Rattle.calls.specs.Checks.{longest, when_utf8, checked_text, checked}

pub refused_accepted : (refusal : Refusal) (settings : Settings) → Err refusal ≡ Ok settings → ⊥
refused_accepted refusal settings e = let z : ◌≡◌ {A = ℕ} 0 1 = cc in let w : ⊥ = omega arith in w

module _ (dialect joins named : ℕ) (settings : Settings) where
  pub record Accepts (s : List ℕ) : Type 0 where
    pub setting : is_setting dialect joins named ≡ true
    pub is : settings_of dialect joins named ≡ settings
    pub short : length s ≤ longest
    pub utf8 : well_formed s ≡ true

  pub accepts : (s : List ℕ) → checked dialect joins named s ≡ Ok settings → Accepts s
  unfolding checked checked_text
  accepts s e = go (is_setting dialect joins named) (ltb longest (length s)) (first_ill_formed s) refl refl refl e
    where
      go : (t u : Bool) (i : Option ℕ) → is_setting dialect joins named ≡ t → ltb longest (length s) ≡ u → first_ill_formed s ≡ i
          → cond t (cond u (Err (Overlong (length s))) (when_utf8 (settings_of dialect joins named) i)) (Err Setting) ≡ Ok settings → Accepts s
      go true true i f g h e = absurd (refused_accepted (Overlong (length s)) settings e)
      go true false (Some k) f g h e = absurd (refused_accepted (NotUtf8 k) settings e)
      go true false None f g h e =
          record { setting = f; is = (let k : settings_of dialect joins named ≡ settings = cc in k); short = ltb-false longest (length s) g; utf8 = (ill_formed_nowhere s).0 h }
      go false u i f g h e = absurd (refused_accepted Setting settings e)

  pub accepted : (s : List ℕ) → Accepts s → checked dialect joins named s ≡ Ok settings
  unfolding checked checked_text
  accepted s a = rw (a.setting, a.is, le-ltb longest (length s) a.short, (ill_formed_nowhere s).1 a.utf8)

pub accepted_short : (dialect joins named : ℕ) (s : List ℕ) (settings : Settings) → checked dialect joins named s ≡ Ok settings → length s ≤ longest
accepted_short dialect joins named s settings e = (accepts dialect joins named settings s e).short
