-- The text of a key.
use Rattle.std.specs.Prelude.{ℕ, ◌+◌, cond, ◌&&◌, List, [], ◌∷◌, eqb, take, drop, get_or, Option, Some, None}
use Rattle.recognisers.specs.declared.Key.{Key}
use Rattle.recognisers.specs.declared.Key.TheVariants.{Named, Escaped, ZeroIndexed, OneIndexed}
use Rattle.recognisers.specs.Text.{byte}
use Rattle.recognisers.specs.Taking.{starts_with}

-- `get_escaped_placeholder_key`: a backslash directly before the quote goes
unfoldable pub unescaped : ℕ → List ℕ → List ℕ
unescaped quote [] = []
unescaped quote (b ∷ text) = cond (eqb b (byte "\\") && starts_with quote text) (unescaped quote text) (b ∷ unescaped quote text)

-- `PlaceholderKind::named`: an index has the empty text. The quote stands behind the text.
abbrev pub key_text : List ℕ → Option Key → List ℕ
key_text s None = []
key_text s (Some (Named start len)) = take len (drop start s)
key_text s (Some (Escaped start len)) = unescaped (get_or s (start + len) 0) (take len (drop start s))
key_text s (Some (ZeroIndexed n)) = []
key_text s (Some (OneIndexed n)) = []
