-- What the program answers.
pub mod Stages
pub mod Exact
pub mod Book
pub mod Inputs
pub mod Extended
pub mod Compiled
pub mod Replayed
pub mod Sampled
pub mod Verdicts
pub mod Statuses
pub mod Putting
pub mod Commands
pub mod Run
pub mod ErrorLines
pub mod Complete
