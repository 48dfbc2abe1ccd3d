-- The parts of a script, and what `cut` tells and writes.
pub mod Settings
pub mod Cuts
pub mod Parts
pub mod Places
pub mod Answers
pub mod Inner
