-- Lists of salvos that lead the hand from place to place, or take it away; and how they are found.
pub mod Clearings
pub mod Moves
pub mod Lists
pub mod Visits
pub mod VisitLaws
pub mod Carriers
pub mod Rooms
pub mod Ways
