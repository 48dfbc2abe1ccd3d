-- For the contracts of inner functions alone: no promise of the crate names any of it.
pub mod Choosing
-- For what a `PlacedToken` says of itself: no promise of the crate names any of it.
pub mod Inside
-- A step that moves its cursor on in place.
pub mod Stepping
