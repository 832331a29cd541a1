-- Lists of turns that lead an elbow where it is wanted, and the least of them.
pub mod Lists
pub mod ShortnessLaws
pub mod SpanLaws
