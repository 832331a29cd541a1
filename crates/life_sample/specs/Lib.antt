-- The sample: a recipe book of any size from two numbers.
pub mod Sample
pub mod Summary
