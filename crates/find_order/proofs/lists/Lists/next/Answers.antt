use Rattle.std.proofs.Common.{◌≡◌, sym, subst}
use Rattle.std.proofs.lemmas.List.Elements.{same_from_all_zip}
use Rattle.find_order.specs.Listing.{IsListed}
use Rattle.find_order.proofs.lists.Lists.next.Goals as goal

pub returns-clause-listed : goal.returns-clause-listed
returns-clause-listed c =
    let same : c.in_ok-list.list.items ≡ c.self.inside.list.items = same_from_all_zip _ _ _ c.in_ok-list.ensures.cases.0 (λ x y e. e) in
    subst (λ l. IsListed l.low l.high l.longest c.in_ok-list.list.items) c.self.view_is
    (subst (IsListed c.self.inside.low c.self.inside.high c.self.inside.longest) (sym same) c.self.invariant)
