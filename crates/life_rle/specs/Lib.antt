-- What a text in RLE says, and which text is written.
pub mod Rests
pub mod Comments
pub mod Header
pub mod Text
pub mod TextFaults
pub mod Told
pub mod Opened
pub mod HeaderRead
pub mod Written
pub mod Drawn
pub mod ByteLaws
pub mod SpellingLaws
pub mod WrittenFineLaws
