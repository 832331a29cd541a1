-- Lemmas on spans, on tests of numbers, and on cells looked at one by one.
pub mod Comparisons
pub mod Spans
pub mod EachCell
pub mod Sides
