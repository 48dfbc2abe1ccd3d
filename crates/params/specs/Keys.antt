-- What is asked of a token's key.
use Rattle.std.specs.Prelude.{ℕ, Bool, true, false, List, ltb, length, Option, Some, None}
use Rattle.recognisers.specs.declared.Key.{Key}
use Rattle.recognisers.specs.declared.Key.TheVariants.{Named, Escaped, ZeroIndexed, OneIndexed}
use Rattle.tokenizer.specs.KeyText.{key_text}

-- `key.named() != ""`; no key has the empty text
unfoldable pub has_name : List ℕ → Option Key → Bool
has_name s key = ltb 0 (length (key_text s key))

abbrev pub has_key : Option Key → Bool
has_key None = false
has_key (Some (Named start len)) = true
has_key (Some (Escaped start len)) = true
has_key (Some (ZeroIndexed n)) = true
has_key (Some (OneIndexed n)) = true

-- `key.indexed()` is none
abbrev pub has_no_index : Option Key → Bool
has_no_index None = true
has_no_index (Some (Named start len)) = true
has_no_index (Some (Escaped start len)) = true
has_no_index (Some (ZeroIndexed n)) = false
has_no_index (Some (OneIndexed n)) = false
