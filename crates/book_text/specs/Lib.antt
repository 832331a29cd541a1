-- What a book's text says, and how it is written.
pub mod Book
