-- Lemmas on what stands at the end of a turn, and on the numbers of generations that are tried.
pub mod Numbers
pub mod KindBoxes
pub mod Kept
pub mod Moving
pub mod KindsInOrder
pub mod Throwing
pub mod Ends
pub mod Tries
pub mod BoxesTell
pub mod Searching
pub mod Soundness
pub mod OneTurn
pub mod Lasting
pub mod Flying
pub mod Settling
pub mod Gone
