-- What printing an answer asks for, and what it prints.
pub mod Printed
