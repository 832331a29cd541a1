-- Lemmas of the top call.
mod Asked
mod StageLaws
mod Notes
mod Titles
mod Generations
mod Written
mod Gaining
mod Ending
mod OneBook
mod Exactness
mod Appended
