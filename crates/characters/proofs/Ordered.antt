-- Each table's ranges are in order and apart: one test that the checker computes over the whole table.
-- Assumes nothing.
use mathlib.Core.Path.{◌≡◌, refl}
use mathlib.Core.Bool.{true}
use Rattle.characters.specs.Ranges.{ordered}
use Rattle.characters.specs.WhiteSpace.{white_space}
use Rattle.characters.specs.Alphabetic.{alphabetic}
use Rattle.characters.specs.Numeric.{numeric}
use Rattle.characters.specs.Mark.{mark}
use Rattle.characters.specs.Connector.{connector}

pub white_space_ordered : ordered 0 white_space ≡ true
unfolding ordered white_space
white_space_ordered = refl

pub alphabetic_ordered : ordered 0 alphabetic ≡ true
unfolding ordered alphabetic
alphabetic_ordered = refl

pub numeric_ordered : ordered 0 numeric ≡ true
unfolding ordered numeric
numeric_ordered = refl

pub mark_ordered : ordered 0 mark ≡ true
unfolding ordered mark
mark_ordered = refl

pub connector_ordered : ordered 0 connector ≡ true
unfolding ordered connector
connector_ordered = refl
