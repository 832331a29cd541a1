-- Lemmas on tables of turns, and on the ways over a graph.
pub mod Tabling
pub mod Leading
pub mod LastTurns
