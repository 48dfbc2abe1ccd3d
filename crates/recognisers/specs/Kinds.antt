-- The kinds of tokens, numbered as `TokenKind` has them.
use Rattle.std.specs.Prelude.{ℕ, Bool, false, ◌||◌, List, [], ◌∷◌, eqb}
use Rattle.recognisers.specs.declared.TokenKind.{TokenKind}

abbrev pub kind_number : TokenKind → ℕ
kind_number TokenKind.TypeSpecifier = 0
kind_number TokenKind.Whitespace = 1
kind_number TokenKind.String = 2
kind_number TokenKind.Reserved = 3
kind_number TokenKind.ReservedTopLevel = 4
kind_number TokenKind.ReservedTopLevelNoIndent = 5
kind_number TokenKind.ReservedNewline = 6
kind_number TokenKind.ReservedNewlineAfter = 7
kind_number TokenKind.Operator = 8
kind_number TokenKind.OpenParen = 9
kind_number TokenKind.CloseParen = 10
kind_number TokenKind.LineComment = 11
kind_number TokenKind.BlockComment = 12
kind_number TokenKind.Number = 13
kind_number TokenKind.Placeholder = 14
kind_number TokenKind.Word = 15
kind_number TokenKind.Join = 16

abbrev pub is_kind : TokenKind → TokenKind → Bool
is_kind a b = eqb (kind_number a) (kind_number b)

-- the kind is among these
abbrev pub is_one_of : List TokenKind → TokenKind → Bool
is_one_of [] kind = false
is_one_of (k ∷ kinds) kind = is_kind kind k || is_one_of kinds kind
