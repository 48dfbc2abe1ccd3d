-- The settings that a script is cut by. They are the cutter's own, whatever the default call's are.
use Rattle.std.specs.Prelude.{false}
use Rattle.recognisers.specs.declared.Dialect.TheVariants.{Generic}
use Rattle.calls.specs.declared.Settings.{Settings}

abbrev pub cutter_settings : Settings
cutter_settings = record { dialect = Generic; joins = false; named = false }
