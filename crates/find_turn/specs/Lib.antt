-- The turn that is found for a list of delays at a kind.
pub mod Found
pub mod FoundLaws
pub mod Standing
pub mod Search
pub mod Boxes
pub mod Behind
pub mod Settled
