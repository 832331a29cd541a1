-- What is known of a book that was checked, and why a book is refused.
pub mod Entries
pub mod EntryLaws
pub mod Verdicts
pub mod Accepting
pub mod Checked
pub mod ByShape
pub mod Refusals
