-- Lemmas of this crate's own proofs.
pub mod Options
pub mod Hits
pub mod Parting
pub mod Stands
pub mod Remembering
