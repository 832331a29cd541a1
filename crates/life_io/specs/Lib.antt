pub mod Calls
pub mod Counts
pub mod Depots
pub mod MemDepots
pub mod MemSinks
pub mod Sinks
pub mod Taken
pub mod Texts
