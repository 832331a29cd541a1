-- Lemmas of this crate's own proofs.
pub mod Comparisons
pub mod SetBox
pub mod Resting
pub mod HitStarts
pub mod Hitting
pub mod OneRefusal
pub mod Earlier
pub mod Ends
pub mod Missing
pub mod OneSalvo
pub mod Sides
pub mod Found
