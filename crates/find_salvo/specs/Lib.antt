-- What gliders at a hand build and where they leave it, found and not stated.
pub mod Outcomes
pub mod Salvos
pub mod OutcomeLaws
pub mod Kept
pub mod Memo
