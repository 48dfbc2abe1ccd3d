-- The reserved phrases of src/tokenizer.rs and the tokens that they make.
pub mod Phrases
pub mod TopLevel
pub mod NewlineAfter
pub mod Newline
pub mod Join
pub mod NoIndent
pub mod Plain
pub mod Reserved
pub mod UcWords
pub mod UcChoices
pub mod UcReserved
pub mod Inner
