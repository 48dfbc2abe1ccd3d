-- Laws that the proofs cite, and theorems on the definitions.
pub mod Tiles
pub mod PartWalk
pub mod PartsEndToEnd
pub mod PartEnds
pub mod PartsAccepted
pub mod ReadAlone
pub mod WorkedScripts
