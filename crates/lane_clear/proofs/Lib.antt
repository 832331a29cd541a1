-- Lemmas on clearance.
pub mod FirstFailing
pub mod CellTests
pub mod BoxRows
pub mod Barred
pub mod Near
pub mod Kept
