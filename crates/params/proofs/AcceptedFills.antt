-- A fill that is accepted: a lookup is accepted too, and with an indexed sheet no token has a one-indexed zero as its key. So what
-- the definition of the filled text says of such a key applies to the lookup alone.
-- Assumes nothing.
use Rattle.std.proofs.Common.{Option, Some, None}
use Rattle.std.specs.Prelude.{Result, Ok, Err}
use Prim.Native.Nat.{ℕ}
use native.Mathlib.Omega.{arith}
use mathlib.Core.Path.{◌≡◌, refl, ap, ◌∙◌}
use mathlib.Core.Bool.{false, ◌&&◌}
use mathlib.Core.List.{List}
use Rattle.calls.specs.declared.Refusal.{Refusal}
use Rattle.calls.specs.declared.Settings.{Settings}
use Rattle.calls.proofs.Checks.{refused_accepted}
use Rattle.tokenizer.specs.Tokens.{tokens}
use Rattle.tokenizer.proofs.EachToken.{Each}
use Rattle.params.specs.declared.QueryParams.TheVariants as Q
use Rattle.params.specs.Sheet.{params_of}
use Rattle.params.specs.Filled.{is_placeholder}
use Rattle.params.specs.Nought.{is_nought, first_nought}
use Rattle.params.specs.Answers.{checked_with, unless_nought, with_places, fill_checked}
use Rattle.params.proofs.Noughts.{none_stops}

module _ (s : List ℕ) (dialect joins named : ℕ) (sheet : List ℕ) (settings : Settings) (e : fill_checked s dialect joins named sheet ≡ Ok settings) where
  both : (checked_with s dialect joins named sheet ≡ Ok settings) × (first_nought (params_of sheet) (tokens settings s) ≡ None)
  unfolding fill_checked
  both = go (checked_with s dialect joins named sheet) refl e
    where
      found : (given : Settings) (q : Option ℕ) → first_nought (params_of sheet) (tokens given s) ≡ q → unless_nought given q ≡ Ok settings
          → checked_with s dialect joins named sheet ≡ Ok given
          → (checked_with s dialect joins named sheet ≡ Ok settings) × (first_nought (params_of sheet) (tokens settings s) ≡ None)
      found given (Some n) f g h = absurd (let z : ◌≡◌ {A = ℕ} 0 1 = cc in let y : ⊥ = omega arith in y)
      found given None f g h =
          let same : given ≡ settings = cc in
          (h ∙ ap Ok same, rw same at f)

      go : (c : Result Settings Refusal) → checked_with s dialect joins named sheet ≡ c → with_places s sheet c ≡ Ok settings
          → (checked_with s dialect joins named sheet ≡ Ok settings) × (first_nought (params_of sheet) (tokens settings s) ≡ None)
      go (Ok given) f g = found given (first_nought (params_of sheet) (tokens given s)) refl g f
      go (Err refusal) f g = absurd (refused_accepted refusal settings g)

  pub fill_accepted : checked_with s dialect joins named sheet ≡ Ok settings
  fill_accepted = both.0

  pub no_nought : params_of sheet ≡ Q.Indexed → Each (λ t. (is_placeholder t && is_nought t.key) ≡ false) (tokens settings s)
  no_nought f = rw f at (none_stops (params_of sheet) (tokens settings s) both.1)
