-- What one line of a book states.
pub mod Words
pub mod WordLaws
pub mod Limits
pub mod Lines
pub mod Values
pub mod NumberLaws
pub mod Forms
pub mod Statements
pub mod Faults
pub mod Reads
pub mod Cuts
pub mod Counts
