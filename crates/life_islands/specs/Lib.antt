-- Islands of a set of cells, their order and their shapes.
pub mod Joined
pub mod JoinedLaws
pub mod Islands
pub mod IslandLaws
pub mod MovedIslands
pub mod MovedIslandLaws
pub mod Order
pub mod OrderLaws
pub mod Shapes
pub mod ShapeLaws
pub mod Search
pub mod Ranks
