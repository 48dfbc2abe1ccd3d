-- The tight text of a statement, and what `tighten` tells and writes.
pub mod Returning
pub mod TightText
pub mod Answers
pub mod Agree
pub mod Inner
