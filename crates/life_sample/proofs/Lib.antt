-- Lemmas about the sample.
pub mod Cells
pub mod Naming
pub mod Properness
