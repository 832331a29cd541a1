-- The parts of a recipe book.
pub mod Limits
pub mod Said
pub mod Proper
pub mod Kinds
pub mod KindLaws
pub mod LimitLaws
pub mod ListLaws
