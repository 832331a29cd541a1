-- What a book's text says.
pub mod Names
pub mod Stated
pub mod Limited
pub mod Joining
pub mod Reading
pub mod Book
pub mod Drafted
