-- Lemmas on the cells of gliders, on cells looked at one by one, and on where a glider begins.
pub mod PlacedCells
pub mod EachCell
pub mod PastWall
pub mod FirstCells
