-- Lemmas of the readers of items and of body words.
pub mod Fronts
pub mod Behind
pub mod ReadItems
pub mod WholeWord
pub mod OneReading
