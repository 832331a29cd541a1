-- What the finder tries, in its order.
pub mod Lists
pub mod Candidates
pub mod Ahead
pub mod Listing
pub mod Coming
pub mod Fit
pub mod FitLaws
pub mod Same
pub mod SameLaws
