-- When two searches agree: the same tokens, with gaps of the same sorts in the same places.
use Rattle.std.specs.Prelude.{ℕ, suc, Bool, true, cond, not, ◌&&◌, ◌||◌, List, [], ◌∷◌, ◌≡◌, eqb, Option, Some, None}
use Rattle.recognisers.specs.declared.Key.{Key}
use Rattle.recognisers.specs.declared.Key.TheVariants.{Named, Escaped, ZeroIndexed, OneIndexed}
use Rattle.recognisers.specs.declared.TokenKind.{TokenKind}
use Rattle.recognisers.specs.declared.TokenKind.TheVariants as K
use Rattle.recognisers.specs.Kinds.{is_kind}
use Rattle.calls.specs.declared.Settings.{Settings}
use Rattle.tokenizer.specs.declared.Token.{Token}
use Rattle.tokenizer.specs.KeyText.{key_text}
use Rattle.tokenizer.specs.Tokens.{tokens}
use Rattle.tokenizer.specs.Values.{value}
use Rattle.tight.specs.Returning.{returns}

-- what a key means, wherever its text stands: none, one text with escapes undone, or one number of one indexed kind
pub data Meaning : Type 0 where
  none : Meaning
  named : List ℕ → Meaning
  zero_indexed : ℕ → Meaning
  one_indexed : ℕ → Meaning

abbrev pub meaning : List ℕ → Option Key → Meaning
meaning s None = none
meaning s (Some (Named start len)) = named (key_text s (Some (Named start len)))
meaning s (Some (Escaped start len)) = named (key_text s (Some (Escaped start len)))
meaning s (Some (ZeroIndexed n)) = zero_indexed n
meaning s (Some (OneIndexed n)) = one_indexed n

-- what is compared of a token
pub record Compared : Type 0 where
  pub kind : TokenKind
  pub value : List ℕ
  pub alias : ℕ
  pub key : Meaning

unfoldable pub compared : List ℕ → Token → Compared
compared s t = record { kind = t.kind; value = value s t; alias = t.alias; key = meaning s t.key }

unfoldable pub compared_all : List ℕ → List Token → List Compared
compared_all s [] = []
compared_all s (t ∷ ts) = compared s t ∷ compared_all s ts

-- the list that `tokenize` gives, as it is compared
unfoldable pub reading : Settings → List ℕ → List Compared
reading settings s = compared_all s (tokens settings s)

unfoldable pub is_gap : Compared → Bool
is_gap c = is_kind c.kind K.Whitespace

-- gaps taken out
unfoldable pub without_gaps : List Compared → List Compared
without_gaps [] = []
without_gaps (c ∷ cs) = cond (is_gap c) (without_gaps cs) (c ∷ without_gaps cs)

unfoldable pub only_gaps : List Compared → Bool
only_gaps [] = true
only_gaps (c ∷ cs) = is_gap c && only_gaps cs

-- The gaps that count, each with its place and its sort, whether it returns. A gap's place is the number of tokens before it,
-- gaps not counted: n of them stand before this list. A gap with none before it does not count, nor does one with none
-- behind it, unless it returns.
unfoldable pub gaps : ℕ → List Compared → List (ℕ × Bool)
gaps n [] = []
gaps n (c ∷ cs) =
    cond (is_gap c)
    (cond (eqb n 0 || (only_gaps cs && not (returns c.value))) (gaps n cs) ((n, returns c.value) ∷ gaps n cs))
    (gaps (suc n) cs)

-- one list of tokens: equally long and, at each index, the same in kind, value, alias length and key
pub record Agree (settings : Settings) (s t : List ℕ) : Type 0 where
  pub same_tokens : without_gaps (reading settings s) ≡ without_gaps (reading settings t)
  pub same_gaps : gaps 0 (reading settings s) ≡ gaps 0 (reading settings t)
