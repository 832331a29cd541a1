-- What the kernel's contracts say: rows of 64 cells as numbers, the rule on them, and planes of words.
pub mod Rows
pub mod Words
pub mod WordLaws
pub mod BitLaws
