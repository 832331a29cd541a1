use Rattle.std.proofs.Common.{sym, ap, ◌∙◌}
use Rattle.life_cells.specs.Cells.{from_list}
use Rattle.life_islands.proofs.Listing.{place_lives, one_if_whole, whole_if_one, none_is_one}
use Rattle.life_islands.proofs.parting.is_one_island.Goals as goal

pub returns-in_default : goal.returns-in_default
returns-in_default c = (λ h. absurd (cc), λ one. absurd (none_is_one c.args.cells.now (sym c.get.ensures ∙ c.in_default.is) one))

pub joined_with-requires : goal.joined_with-requires
joined_with-requires c = place_lives c.args.cells.now 0 c.in-Some.first (sym c.get.ensures ∙ c.in-Some.is)

pub returns : goal.returns
returns c =
    let s = c.args.cells.now in
    let lives = place_lives s 0 c.in-Some.first (sym c.get.ensures ∙ c.in-Some.is) in
    let set = c.in_ok-island.ensures ∙ ap from_list c.as_slice.ensures.keys in (
      λ h. one_if_whole s c.in-Some.first c.in_ok-found.found.keys c.in_ok-island.island lives c.in_ok-found.ensures set (c.equal.ensures.0 h),
      λ one. c.equal.ensures.1 (whole_if_one s c.in-Some.first c.in_ok-found.found.keys c.in_ok-island.island lives c.in_ok-found.ensures set one),
    )
