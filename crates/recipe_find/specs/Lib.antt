-- What the finder adds to a book.
pub mod Names
pub mod Adding
pub mod Limited
pub mod Known
pub mod Growing
pub mod Extended
pub mod Refusals
