-- What every call shares.
pub mod Settings
pub mod Refusals
pub mod Checks
pub mod Texts
pub mod LittleEndian
