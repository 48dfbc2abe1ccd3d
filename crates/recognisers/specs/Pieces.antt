-- Tokens at the start of a rest.
use Rattle.std.specs.Prelude.{ℕ, Option, Some, None}
use Rattle.recognisers.specs.declared.TokenKind.{TokenKind}
use Rattle.recognisers.specs.declared.Key.{Key}
use Rattle.recognisers.specs.declared.Piece.{Piece}

-- a token whose alias is its value, with so many escaped quotes
abbrev pub quote_piece : TokenKind → ℕ → Option Key → ℕ → Piece
quote_piece kind len key escaped = record { kind = kind; len = len; alias = len; key = key; escaped = escaped }

-- one without any
abbrev pub piece : TokenKind → ℕ → Option Key → Piece
piece kind len key = quote_piece kind len key 0

-- a token of what was taken, with the key and the escaped quotes that its length tells
abbrev pub quote_token : TokenKind → (ℕ → Option Key) → (ℕ → ℕ) → Option ℕ → Option Piece
quote_token kind key escaped (Some n) = Some (quote_piece kind n (key n) (escaped n))
quote_token kind key escaped None = None

-- one without key and escaped quotes
abbrev pub token_of : TokenKind → Option ℕ → Option Piece
token_of kind (Some n) = Some (piece kind n None)
token_of kind None = None

-- `alt`: the first that recognises something
abbrev pub alt : Option Piece → Option Piece → Option Piece
alt (Some p) other = Some p
alt None other = other
