-- The one text that is written for a book.
pub mod Laid
pub mod Parts
pub mod Canonical
