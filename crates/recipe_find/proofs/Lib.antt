-- Proofs about what is found.
mod Searching
mod Setting
mod Placing
mod Naming
mod Finding
mod Options
mod Growth
mod Distinct
mod Whole
mod OneWhole
