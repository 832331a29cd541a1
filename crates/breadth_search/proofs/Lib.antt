-- Lemmas on the search by breadth.
pub mod Back
pub mod Growing
pub mod Kept
pub mod Same
