-- Gliders as cells.
pub mod Glider
pub mod Listing
pub mod Beyond
pub mod Starts
pub mod GliderLaws
