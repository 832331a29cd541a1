-- Lemmas of the reader: lines, the header, comments and items.
pub mod Lined
pub mod Headers
pub mod BeforeItems
pub mod Placing
pub mod Blanking
pub mod Meaning
pub mod OneMeaning
pub mod OneText
-- Lemmas of the writer.
pub mod Made
pub mod Growing
pub mod Heading
pub mod Framing
pub mod ReadBack
pub mod Whole
pub mod WrittenLines
pub mod OneWriting
