-- Laws that the proofs cite.
pub mod Checks
pub mod TextCalls
pub mod Storing
pub mod NumberBytes
pub mod Words
