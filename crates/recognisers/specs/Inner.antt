-- For the contracts of inner functions alone: no promise of the crate names any of it.
pub mod Behind
pub mod FirstAmong
pub mod KeyStart
pub mod Known
pub mod KnownOnce
pub mod WordLength
