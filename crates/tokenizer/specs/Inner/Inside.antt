-- What of a token lies inside the statement.
use Rattle.std.specs.Prelude.{ℕ, ◌+◌, Option, Some, None}
use Rattle.recognisers.specs.declared.Key.{Key}
use Rattle.recognisers.specs.declared.Key.TheVariants.{Named, Escaped, ZeroIndexed, OneIndexed}

-- where the bytes of a key's text end, with the closing quote where escapes are to be undone
abbrev pub key_end : Option Key → ℕ
key_end None = 0
key_end (Some (Named start len)) = start + len
key_end (Some (Escaped start len)) = start + len + 1
key_end (Some (ZeroIndexed n)) = 0
key_end (Some (OneIndexed n)) = 0
