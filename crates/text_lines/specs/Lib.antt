-- Lines of a text.
pub mod Lines
pub mod Blanks
pub mod LineLaws
