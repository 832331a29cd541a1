-- Proofs about lists of numbers in their order.
mod Behind
mod Passing
mod Listed
mod Delaying
mod NextKind
