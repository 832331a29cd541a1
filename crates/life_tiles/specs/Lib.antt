-- What is seen of tiles, how a set of cells lies in them, how they are stepped, and how those with no live cell are given back.
pub mod Tiled
pub mod Tiling
pub mod Spans
pub mod Rows
pub mod LiveRows
pub mod Stepping
pub mod Pruning
pub mod CourseLaws
