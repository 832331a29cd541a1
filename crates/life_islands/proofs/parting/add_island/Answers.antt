use Rattle.std.proofs.Common.{◌∷◌, ◌∙◌, ap, sym, subst, ◌^◌}
use Rattle.life_cells.specs.Boxes.{IsInRange}
use Rattle.life_cells.specs.Cells.{alive, from_list}
use Rattle.life_cells.specs.Listed.{listed}
use Rattle.life_islands.specs.Joined.{Lives}
use Rattle.life_islands.specs.Ranks.{IsRankOf}
use Rattle.life_islands.specs.Search.{Adds}
use Rattle.life_islands.proofs.Noting.{found_in_range, found_ranked, adds_island, ranked_more}
use Rattle.life_islands.proofs.parting.add_island.Goals as goal

pub of-rank-requires : goal.of-rank-requires
of-rank-requires c =
    subst (λ xs. IsInRange (2 ^ 60) (listed (c.args.start ∷ xs))) (sym c.as_slice-2.ensures.keys)
    (found_in_range (2 ^ 60) (alive c.args.cells.now) c.args.start c.in_ok-found.found.keys c.requires.lives c.requires.range c.in_ok-found.ensures)

pub returns-clause-adds : goal.returns-clause-adds
returns-clause-adds c =
    let set = c.in_ok-island.ensures ∙ ap from_list c.as_slice-3.ensures.keys in
    let rank = subst (λ xs. IsRankOf c.of-rank.result (listed (c.args.start ∷ xs))) c.as_slice-2.ensures.keys c.of-rank.ensures in
    let ranked = found_ranked (alive c.args.cells.now) c.args.start c.in_ok-found.found.keys c.of-rank.result c.in_ok-island.island c.requires.lives c.in_ok-found.ensures rank set in
    adds_island (alive c.args.cells.now) c.args.start c.in_ok-found.found.keys c.of-rank.result c.in_ok-island.island _ _ c.requires.ranked.each c.requires.lives c.in_ok-found.ensures ranked set c.in_ok-insert.ensures.entries

pub returns-clause-ranked : goal.returns-clause-ranked
returns-clause-ranked c =
    let set = c.in_ok-island.ensures ∙ ap from_list c.as_slice-3.ensures.keys in
    let rank = subst (λ xs. IsRankOf c.of-rank.result (listed (c.args.start ∷ xs))) c.as_slice-2.ensures.keys c.of-rank.ensures in
    let ranked = found_ranked (alive c.args.cells.now) c.args.start c.in_ok-found.found.keys c.of-rank.result c.in_ok-island.island c.requires.lives c.in_ok-found.ensures rank set in
    let adds = subst (λ xs. Adds (Lives (listed xs)) c.args.seen.now.keys c.add_all.new.found.keys) c.as_slice.ensures.keys c.in_ok-add_all.ensures in
    ranked_more (alive c.args.cells.now) c.args.start c.in_ok-found.found.keys _ _ c.of-rank.result c.in_ok-island.island _ _ c.requires.ranked c.in_ok-found.ensures ranked set c.in_ok-insert.ensures.entries adds
