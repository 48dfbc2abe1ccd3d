-- What is printed of the tokens, one after the other.
pub mod Lines
