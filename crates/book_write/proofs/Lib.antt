-- Lemmas of the writer's parts.
pub mod Laying
pub mod Numbering
pub mod Moving
-- Lemmas of what is read back.
pub mod Visible
pub mod Splitting
pub mod Numerals
pub mod BodyWords
pub mod Within
pub mod Stating
pub mod Distinct
pub mod Following
pub mod OneWriting
