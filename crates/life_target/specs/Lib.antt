-- What is built: targets.
pub mod Targets
