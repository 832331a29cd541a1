-- Lemmas on checked books.
pub mod JudgedEntries
pub mod Judged
pub mod Indexing
pub mod Refusing
pub mod OneList
pub mod Whole
pub mod AcceptedPart
