-- What makes a kind of elbow valid, and a turn at it sound.
pub mod Kind
pub mod Turn
pub mod Gliders
pub mod GliderLaws
pub mod Gaps
pub mod Bounds
pub mod Breaches
pub mod Range
pub mod Checked
pub mod Refusals
pub mod QuarterLaws
pub mod StartLaws
pub mod GapLaws
