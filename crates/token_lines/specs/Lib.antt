-- What is printed of tokens.
pub mod Printed
