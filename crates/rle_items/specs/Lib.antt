-- What items and body words say.
pub mod Numbers
pub mod Items
pub mod Spelling
pub mod Words
pub mod Reach
pub mod Gaps
pub mod ItemFaults
pub mod Faults
pub mod Cursor
pub mod Read
pub mod FirstLaws
pub mod NumberLaws
pub mod ItemLaws
pub mod SpellingLaws
pub mod FineLaws
pub mod OneReadingLaws
pub mod DrawnLaws
