-- Lemmas of words.
mod Level
mod Line
mod Dashes
mod Reading
mod Misnumbered
mod Beginning
mod Forms
mod Asking
