-- Clearance of hits at the hand's place.
pub mod BaseLaws
pub mod Frames
pub mod FrameLaws
pub mod MovedFrameLaws
pub mod Clear
pub mod Refusals
pub mod RefusalLaws
pub mod Bare
pub mod Barriers
pub mod StaysApart
pub mod ClearLaws
