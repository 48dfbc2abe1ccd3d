-- The recognisers of src/tokenizer.rs that look at the text alone, in its order and under its names.
pub mod Text
pub mod Same
pub mod Kinds
pub mod Taking
pub mod Pieces
pub mod TypeSpecifier
pub mod Comment
pub mod Strings
pub mod Parens
pub mod Placeholder
pub mod Number
pub mod Words
pub mod Inner
