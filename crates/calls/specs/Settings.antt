-- The settings of a call, from the numbers that a caller gives.
use Rattle.std.specs.Prelude.{ℕ, Bool, cond, ◌&&◌, leb, eqb}
use Rattle.recognisers.specs.declared.Dialect.{Dialect}
use Rattle.recognisers.specs.declared.Dialect.TheVariants.{Generic, PostgreSql, SQLServer}
use Rattle.calls.specs.declared.Settings.{Settings}

-- dialects 0 to 2, flags 0 or 1
unfoldable pub is_setting : ℕ → ℕ → ℕ → Bool
is_setting dialect joins named = leb dialect 2 && (leb joins 1 && leb named 1)

unfoldable pub dialect_of : ℕ → Dialect
dialect_of dialect = cond (eqb dialect 0) Generic (cond (eqb dialect 1) PostgreSql SQLServer)

unfoldable pub settings_of : ℕ → ℕ → ℕ → Settings
settings_of dialect joins named = record { dialect = dialect_of dialect; joins = eqb joins 1; named = eqb named 1 }
