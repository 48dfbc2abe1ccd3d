-- For the contracts of inner functions, and for what `lookup_part` says of its part beside the equation: no other promise of
-- the crate names any of it.
pub mod Bodies
pub mod Entries
pub mod Fillings
pub mod Inside
pub mod Longest
pub mod Lookups
pub mod Noughts
pub mod Placed
