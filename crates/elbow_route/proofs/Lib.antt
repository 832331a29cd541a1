-- Lemmas on least lists.
pub mod Answered
