-- Lemmas of this crate's own proofs.
pub mod Places
pub mod Merging
pub mod Times
pub mod Runs
pub mod Around
pub mod Casts
pub mod Boxing
pub mod Generations
pub mod Differing
pub mod Inserting
pub mod Closeness
