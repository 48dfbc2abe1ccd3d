-- For inner contracts alone: where a key's text starts.
use Rattle.std.specs.Prelude.{ℕ, Option, Some, None}
use Rattle.recognisers.specs.declared.Key.{Key}
use Rattle.recognisers.specs.declared.Key.TheVariants.{Named, Escaped, ZeroIndexed, OneIndexed}

abbrev pub key_start : Option Key → ℕ
key_start None = 0
key_start (Some (Named start len)) = start
key_start (Some (Escaped start len)) = start
key_start (Some (ZeroIndexed n)) = 0
key_start (Some (OneIndexed n)) = 0
