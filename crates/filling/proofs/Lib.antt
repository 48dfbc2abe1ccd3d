-- What the reading of a sheet uses, and that what is kept of an input is enough.
mod Sheets
pub mod Skipping
mod Whole
