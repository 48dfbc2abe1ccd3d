-- What is printed of a statement.
mod Statements
