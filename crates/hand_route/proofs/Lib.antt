-- Lemmas on the ways of the hand.
pub mod Clear
pub mod Indexed
pub mod Tabled
pub mod Sorting
pub mod CarriedPlaces
pub mod Kept
