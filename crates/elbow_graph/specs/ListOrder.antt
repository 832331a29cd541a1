-- The order of lists, passed on.
pub use Rattle.breadth_search.specs.ListOrder.{IsNoLater, IsAtMost, IsEarlier, IsBefore}
