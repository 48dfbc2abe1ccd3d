-- For inner contracts alone: what the choice asks of the settings.
use Rattle.std.specs.Prelude.{Bool, false}
use Rattle.recognisers.specs.declared.Dialect.{Dialect}
use Rattle.calls.specs.declared.Settings.{Settings}

-- how Joins are given out is not asked
abbrev pub choosing : Dialect → Bool → Settings
choosing dialect named = record { dialect = dialect; joins = false; named = named }
