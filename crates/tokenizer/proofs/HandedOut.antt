-- What is handed out: never kind 16, and of an accepted statement only words that fit 32 bits, so that a record tells them all.
-- Assumes nothing.
use Rattle.std.proofs.Common.{Option, Some, None}
use Prim.Native.Nat.{ℕ, ◌+◌, ◌^◌, ◌≤◌, ◌<◌}
use native.Mathlib.Omega.{arith}
use mathlib.Core.Path.{◌≡◌}
use mathlib.Core.Bool.{Bool, true, false}
use mathlib.Core.List.{List}
use lib.ListN.{length, drop, get_or, length-drop}
use Rattle.recognisers.specs.declared.Key.{Key}
use Rattle.recognisers.specs.declared.Key.TheVariants.{Named, Escaped, ZeroIndexed, OneIndexed}
use Rattle.recognisers.specs.declared.Piece.{Piece}
use Rattle.recognisers.specs.declared.TokenKind.{TokenKind}
use Rattle.recognisers.specs.Kinds.{kind_number}
use Rattle.recognisers.proofs.PieceSizes.{KeyFits, Sized}
use Rattle.tokenizer.specs.declared.Memory.{Memory}
use Rattle.calls.specs.declared.Settings.{Settings}
use Rattle.calls.specs.Checks.{longest}
use Rattle.tokenizer.specs.declared.Token.{Token}
use Rattle.tokenizer.specs.Levels.{levels}
use Rattle.tokenizer.specs.NextToken.{next_piece}
use Rattle.tokenizer.specs.Records.{key_words}
use Rattle.tokenizer.specs.Tokens.{given_out, placed, tokens}
use Rattle.tokenizer.proofs.EachToken.{Each, each_token}
use Rattle.tokenizer.proofs.EndToEnd.{tokens_short}
use Rattle.tokenizer.proofs.LevelLaws.{levels_low}
use Rattle.tokenizer.proofs.NextPieceSizes.{piece_sized}

never_join : (joins : Bool) (kind : TokenKind) → kind_number (given_out joins kind) < 16
unfolding given_out
never_join joins TokenKind.TypeSpecifier = omega arith
never_join joins TokenKind.Whitespace = omega arith
never_join joins TokenKind.String = omega arith
never_join joins TokenKind.Reserved = omega arith
never_join joins TokenKind.ReservedTopLevel = omega arith
never_join joins TokenKind.ReservedTopLevelNoIndent = omega arith
never_join joins TokenKind.ReservedNewline = omega arith
never_join joins TokenKind.ReservedNewlineAfter = omega arith
never_join joins TokenKind.Operator = omega arith
never_join joins TokenKind.OpenParen = omega arith
never_join joins TokenKind.CloseParen = omega arith
never_join joins TokenKind.LineComment = omega arith
never_join joins TokenKind.BlockComment = omega arith
never_join joins TokenKind.Number = omega arith
never_join joins TokenKind.Placeholder = omega arith
never_join joins TokenKind.Word = omega arith
never_join true TokenKind.Join = omega arith
never_join false TokenKind.Join = omega arith

pub record Words32 (t : Token) : Type 0 where
  pub kind_below : kind_number t.kind < 16
  pub start_below : t.start < 2 ^ 32
  pub len_below : t.len < 2 ^ 32
  pub alias_below : t.alias < 2 ^ 32
  pub a_below : (key_words t.key).a < 2 ^ 32
  pub b_below : (key_words t.key).b < 2 ^ 32

record Key32 (key : Option Key) : Type 0 where
  a_below : (key_words key).a < 2 ^ 32
  b_below : (key_words key).b < 2 ^ 32

key_below : (at n : ℕ) (key : Option Key) → at + n ≤ longest → KeyFits n key → Key32 (placed at key)
key_below at n None l h = record { a_below = omega arith; b_below = omega arith }
key_below at n (Some (Named start len)) l h = record { a_below = omega arith; b_below = omega arith }
key_below at n (Some (Escaped start len)) l h = record { a_below = omega arith; b_below = omega arith }
key_below at n (Some (ZeroIndexed i)) l h = record { a_below = omega arith; b_below = omega arith }
key_below at n (Some (OneIndexed i)) l h = record { a_below = omega arith; b_below = omega arith }

pub handed_out : (settings : Settings) (s : List ℕ) → length s ≤ longest → Each Words32 (tokens settings s)
handed_out settings s l = each_token settings s Words32 (λ at. Unit {0}) one tt
  where
    one : (memory : Memory) (at : ℕ) (p : Piece) → at < length s → Unit {0} → next_piece settings memory (drop at s) ≡ Some p
        → Words32 (record { kind = given_out settings.joins p.kind; start = at; len = p.len; alias = p.alias; key = placed at p.key; escaped = p.escaped }) × Unit {0}
    one memory at p h u e =
        let f : Sized (drop at s) (Some p) = rw e at (piece_sized settings memory (drop at s)) in
        let i = f.inside in
        let a = f.alias_inside in
        let n = length-drop at s in
        let k = key_below at p.len p.key (omega (arith, l)) f.key_inside in (
          record {
            kind_below = never_join settings.joins p.kind;
            start_below = omega (arith, l);
            len_below = omega (arith, l);
            alias_below = omega (arith, l);
            a_below = k.a_below;
            b_below = k.b_below;
          },
          tt,
        )

-- the eighth word: no level is above the number of tokens before it
pub levels_handed_out : (settings : Settings) (s : List ℕ) → length s ≤ longest → (i : ℕ) → i < length (tokens settings s) → get_or (levels (tokens settings s)) i 0 < 2 ^ 32
levels_handed_out settings s l i h = omega (arith, l, h, tokens_short settings s, levels_low (tokens settings s) i)
