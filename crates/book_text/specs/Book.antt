-- What a book's text says, or why it says no book.
pub use Rattle.book_parts.specs.Said.{Said}
pub use Rattle.book_read.specs.Book.{Says, StopsWith}
pub use Rattle.book_write.specs.Canonical.{IsBookText}
