-- What is promised of code points and of UTF-8.
pub mod Ranges
pub mod WhiteSpace
pub mod Alphabetic
pub mod Numeric
pub mod Mark
pub mod Connector
pub mod Classes
pub mod Ascii
pub mod Utf8
pub mod Character
pub mod Runs
pub mod Inner
