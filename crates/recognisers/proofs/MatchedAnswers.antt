-- Answers taken apart and put together, as a `match` has them.
-- Assumes nothing.
use Rattle.std.proofs.Common.{Option, Some, None}
use Rattle.std.specs.Option.{MatchOption}
use Prim.Native.Nat.{ℕ}
use mathlib.Core.Path.{◌≡◌, ◌∙◌}
use mathlib.Core.List.{List}
use mathlib.Core.Bool.{Bool, true, false, cond, ◌||◌}
use lib.ListN.{drop}
use Rattle.recognisers.specs.declared.TokenKind.TheVariants.{Operator}
use Rattle.recognisers.specs.declared.Piece.{Piece}
use Rattle.recognisers.specs.Taking.{or, at_least, starts_with}
use Rattle.recognisers.specs.Words.{get_any_other_char}
use Rattle.recognisers.specs.Pieces.{token_of}
use Rattle.characters.specs.declared.Character.{Character}
use Rattle.characters.specs.Character.{character}

module _ {A : Type 0} (t : Bool) (x y r : A) where
  pub cond_no : t ≡ false → r ≡ y → r ≡ cond t x y
  cond_no e q = rw e q

-- `get_any_other_char`
module _ (s : List ℕ) (r : Bool) (e : r ≡ (starts_with 10 s || starts_with 13 s)) where
  pub other_break : r ≡ true → None ≡ get_any_other_char s
  unfolding get_any_other_char
  other_break t = rw (← e, t)

  pub other_char : (x : Character) (t : Option ℕ) (q : Option Piece) → r ≡ false → x ≡ character (drop 0 s) → t ≡ at_least 1 x.len → q ≡ token_of Operator t → q ≡ get_any_other_char s
  unfolding get_any_other_char character
  other_char x t q y w f g = g ∙ rw (← e, y, f, w)

-- `or_else`
pub or_other : (a b q : Option ℕ) → MatchOption a (q ≡ b) (λ n. q ≡ Some n) → q ≡ or a b
or_other (Some n) b q e = e
or_other None b q e = e
