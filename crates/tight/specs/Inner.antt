-- For the contracts of inner functions alone: no promise of the crate names any of it.
pub mod Added
pub mod Searches
