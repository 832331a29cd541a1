-- Lemmas on targets.
pub mod NoCells
pub mod OneRefusal
