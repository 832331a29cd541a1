-- Turns and hits in time: when each turn may start, the pattern, and its number of generations.
pub mod TimedTurns
pub mod SceneTurns
pub mod SceneTurnLaws
pub mod Events
pub mod Lane
pub mod Least
pub mod Clock
pub mod Early
pub mod ClockLaws
pub mod EarlyLaws
