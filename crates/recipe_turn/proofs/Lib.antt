-- Lemmas on kinds, on a turn's gliders, delays and bounds, and on refusals.
pub mod KindTests
pub mod Delays
pub mod Spacing
pub mod Ranges
pub mod TurnEnds
pub mod Fronts
pub mod KnownBounds
pub mod Refused
pub mod Courses
pub mod OneRefusal
