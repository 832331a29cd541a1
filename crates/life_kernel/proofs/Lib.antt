pub mod Adder
pub mod Vectors
pub mod Words
