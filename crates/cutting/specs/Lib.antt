-- What the program prints.
pub mod Printed
pub mod Inner
