-- What the twins say in numbers.
pub mod Places
