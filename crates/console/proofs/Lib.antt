-- Laws that the proofs of programs cite, and what reading uses.
pub mod AnswersInside
pub mod Whole
mod Reading
