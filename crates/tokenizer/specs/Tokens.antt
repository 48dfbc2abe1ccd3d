-- `tokenize`: the tokens of a statement.
use Rattle.std.specs.Prelude.{ℕ, zero, suc, ◌+◌, pred, Bool, cond, List, [], ◌∷◌, ltb, length, take, drop, Option, Some, None}
use Rattle.recognisers.specs.declared.Key.{Key}
use Rattle.recognisers.specs.declared.Key.TheVariants.{Named, Escaped, ZeroIndexed, OneIndexed}
use Rattle.recognisers.specs.declared.TokenKind.{TokenKind}
use Rattle.recognisers.specs.Kinds.{is_kind}
use Rattle.recognisers.specs.declared.Piece.{Piece}
use Rattle.tokenizer.specs.declared.Memory.{Memory}
use Rattle.calls.specs.declared.Settings.{Settings}
use Rattle.tokenizer.specs.declared.Token.{Token}
use Rattle.tokenizer.specs.declared.Cursor.{Cursor}
use Rattle.tokenizer.specs.Memory.{start, remembered}
use Rattle.tokenizer.specs.NextToken.{next_piece}

-- a Join is given out as top level or as a newline word
unfoldable pub given_out : Bool → TokenKind → TokenKind
given_out joins kind = cond (is_kind kind TokenKind.Join) (cond joins TokenKind.ReservedTopLevel TokenKind.ReservedNewline) kind

-- a key's places, counted from the statement's start
abbrev pub placed : ℕ → Option Key → Option Key
placed at None = None
placed at (Some (Named start len)) = Some (Named (at + start) len)
placed at (Some (Escaped start len)) = Some (Escaped (at + start) len)
placed at (Some (ZeroIndexed n)) = Some (ZeroIndexed n)
placed at (Some (OneIndexed n)) = Some (OneIndexed n)

abbrev pub token_at : Settings → ℕ → Piece → Token
token_at settings at piece =
    record {
      kind = given_out settings.joins piece.kind;
      start = at;
      len = piece.len;
      alias = piece.alias;
      key = placed at piece.key;
      escaped = piece.escaped;
    }

-- the token at the cursor, and the cursor past it
abbrev pub step_of : Settings → List ℕ → Cursor → Option Piece → Option (Token × Cursor)
step_of settings s cursor (Some piece) =
    Some (
      token_at settings cursor.at piece,
      record {
        at = cursor.at + piece.len;
        memory = remembered cursor.memory piece.kind (take piece.len (drop cursor.at s)) piece.alias;
      },
    )
step_of settings s cursor None = None

unfoldable pub step_at : Settings → List ℕ → Cursor → Option (Token × Cursor)
step_at settings s cursor =
    cond (ltb cursor.at (length s)) (step_of settings s cursor (next_piece settings cursor.memory (drop cursor.at s))) None

-- the tokens of a rest that starts at a place, where its first `passed` bytes belong to a token that has been read
unfoldable pub tokens_from : Settings → Memory → ℕ → ℕ → List ℕ → List Token
tokens_from settings memory at passed [] = []
tokens_from settings memory at (suc passed) (b ∷ s) = tokens_from settings memory (suc at) passed s
tokens_from settings memory at zero (b ∷ s) =
    elim (next_piece settings memory (b ∷ s)) [
      | Some piece ↦ token_at settings at piece ∷ tokens_from settings (remembered memory piece.kind (take piece.len (b ∷ s)) piece.alias) (suc at) (pred piece.len) s
      | None ↦ []
    ]

unfoldable pub tokens : Settings → List ℕ → List Token
tokens settings statement = tokens_from settings start 0 0 statement
