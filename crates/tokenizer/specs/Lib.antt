-- The reading of a statement: src/tokenizer.rs over its recognisers.
pub mod Memory
pub mod NextToken
pub mod Tokens
pub mod Left
pub mod EscapedQuotes
pub mod Levels
pub mod Records
pub mod Answers
pub mod Values
pub mod KeyText
pub mod Inner
