-- One link of an ordered choice.
-- Assumes nothing.
use Rattle.std.proofs.Common.{Option, Some, None}
use mathlib.Core.Path.{◌≡◌, sym, ap, ◌∙◌}
use Rattle.recognisers.specs.declared.Piece.{Piece}
use Rattle.recognisers.specs.Pieces.{alt}

-- the first has recognised a piece
pub first_recognises : (first rest found : Option Piece) (p : Piece) → found ≡ first → found ≡ Some p → Some p ≡ alt first rest
first_recognises first rest found p e k = sym (ap (λ x. alt x rest) (sym e ∙ k))

-- the first has recognised nothing
pub rest_recognises : (first rest found answer : Option Piece) → found ≡ first → found ≡ None → answer ≡ rest → answer ≡ alt first rest
rest_recognises first rest found answer e k a = a ∙ sym (ap (λ x. alt x rest) (sym e ∙ k))
