-- Lemmas on schedules and patterns.
pub mod Places
pub mod EventsAdded
pub mod LastTurn
pub mod Gliding
pub mod Near
pub mod Laid
pub mod Compiled
