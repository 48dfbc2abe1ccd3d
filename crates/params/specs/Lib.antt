-- The value sheet, `Params::get` over it, the filled text, and what `lookup` and `fill` tell and write.
pub mod Sheet
pub mod Keys
pub mod Get
pub mod Filled
pub mod Nought
pub mod Answers
pub mod Inner
