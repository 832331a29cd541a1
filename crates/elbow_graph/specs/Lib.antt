-- The graph of the elbow: what turns do to it, lists of turns that are walked, the elbows that are reached, and tables of turns.
pub mod ListOrder
pub mod Exits
pub mod Elbows
pub mod Numbered
pub mod NumberedLaws
pub mod Goals
pub mod SameElbows
pub mod SameElbowLaws
pub mod States
pub mod StateLaws
pub mod Answers
pub mod Tables
pub mod Made
pub mod Tabled
pub mod SameKeys
pub mod SameKeyLaws
