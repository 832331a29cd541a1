-- Lemmas on the search for islands.
pub mod Adding
pub mod Flooding
pub mod Linking
pub mod Ranking
pub mod Noting
pub mod Listing
pub mod Cornering
