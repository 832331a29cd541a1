-- What keeps two planes apart.
pub mod FarBoxes
pub mod Sides
pub mod CellLaws
