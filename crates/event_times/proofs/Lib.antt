-- Lemmas on least starts.
pub mod LeastStarts
