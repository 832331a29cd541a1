-- The links from a cell, row by row.
use Rattle.std.proofs.Common.{◌≡◌, ◌⊎◌, true, false, List, sym, ap, ◌∙◌, arith, inl, inr, w64, to_z, of_z}
use Rattle.std.specs.Prelude.{◌&&◌, ℤ, pos, negsuc, ◌+ℤ◌, ◌≤ℤ◌, ◌<ℤ◌}
use Rattle.std.specs.List.{filter}
use Rattle.std.proofs.lemmas.Int.{ints}
use Rattle.std.proofs.lemmas.Bool.{and_parts, and_from}
use lib.Signed.{lt_z}
use Rattle.life_cells.specs.declared.cell.Cell.{Cell}
use Rattle.life_cells.specs.Cells.{Cells, alive, in_order}
use Rattle.life_cells.specs.Close.{is_close_in_row}
use Rattle.life_cells.specs.CloseLaws.{close_in_row_is, close_in_row_holds, listed-close}
use Rattle.life_cells.specs.Laws.{alive-in_order}
use Rattle.life_cells.specs.Listed.{listed}
use Rattle.life_islands.specs.Joined.{Lives, Links}
use Rattle.life_islands.specs.Search.{Adds}
use Rattle.life_islands.proofs.Adding.{adds_as, adds_both, adds_nothing}
use Rattle.life_plane.specs.NumberLaws.{cases_below, lt_from_test, test_from_lt}
use Rattle.life_plane.specs.Plane.{Plane}

-- a link leads from the one cell to the other, which is above the row dy below the first
pub record LinksAbove (s : Plane) (here : Cell) (dy : ℤ) (to : Cell) : Type 0 where
  pub link : Links s here to
  pub above : to.y <ℤ (here.y +ℤ dy)

-- the cells of the rows before this one were added
pub record IsAddedTo (s : Plane) (here : Cell) (dy : ℤ) (before now : List Cell) : Type 0 where
  pub low : negsuc 1 ≤ℤ dy
  pub high : dy ≤ℤ pos 3
  pub adds : Adds (LinksAbove s here dy) before now

-- none at first
pub rows_begin : (s : Plane) (here : Cell) (found : List Cell) → IsAddedTo s here (negsuc 1) found found
rows_begin s here found = record {
  low = omega (arith, ints);
  high = omega (arith, ints);
  adds = adds_nothing (LinksAbove s here (negsuc 1)) found (λ c h. let near = h.link.near.above in let above = h.above in omega (arith, ints));
}

-- the cells that are close in one more row
pub rows_more : (s : Cells) (here : Cell) (dy next : ℤ) (close before now after : List Cell) → IsAddedTo (alive s) here dy before now → lt_z dy (pos 3) ≡ true → next ≡ to_z w64 (of_z w64 (dy +ℤ pos 1)) →
    close ≡ filter (is_close_in_row here.x (here.y +ℤ dy)) (in_order s) → Adds (Lives (listed close)) now after → IsAddedTo (alive s) here next before after
rows_more s here dy next close before now after was test e is adds =
    let low = was.low in
    let lt : dy <ℤ pos 3 = lt_from_test test in
    let one_on : next ≡ dy +ℤ pos 1 = omega (arith, ints) in
    record {
      low = omega (arith, ints);
      high = omega (arith, ints);
      adds = adds_both (LinksAbove (alive s) here dy) (Lives (listed close)) (LinksAbove (alive s) here next) before now after was.adds adds
          (λ c h. let above = h.above in record { link = h.link; above = omega (arith, ints) })
          (λ c lives.
          let both = and_parts (is_close_in_row here.x (here.y +ℤ dy) c) (listed (in_order s) c.x c.y) (sym (listed_is c) ∙ lives) in
          let at = close_in_row_is here.x (here.y +ℤ dy) c both.0 in
          let left = at.left in
          let right = at.right in
          let row = at.row in
          record {
            link = record {
              lives = ap (λ (p : Plane). p c.x c.y) (alive-in_order s) ∙ both.1;
              near = record { right = omega (arith, ints); left = omega (arith, ints); below = omega (arith, ints); above = omega (arith, ints) };
            };
            above = omega (arith, ints);
          })
          (λ c h. elim (cases_below c.y (here.y +ℤ dy)) [
            | inl above ↦ inl (record { link = h.link; above = above })
            | inr le ↦
                let above = h.above in
                let left = h.link.near.left in
                let right = h.link.near.right in
                inr (listed_is c ∙ and_from _ _ (close_in_row_holds here.x (here.y +ℤ dy) c (record { left = omega (arith, ints); right = omega (arith, ints); row = omega (arith, ints) })) (sym (ap (λ (p : Plane). p c.x c.y) (alive-in_order s)) ∙ h.link.lives))
          ]);
    }
  where
    listed_is : (c : Cell) → listed close c.x c.y ≡ (is_close_in_row here.x (here.y +ℤ dy) c && listed (in_order s) c.x c.y)
    listed_is c = ap (λ cs. listed cs c.x c.y) is ∙ listed-close (in_order s) here.x (here.y +ℤ dy) c.x c.y

-- all links at last
pub rows_end : (s : Plane) (here : Cell) (dy : ℤ) (before now : List Cell) → IsAddedTo s here dy before now → lt_z dy (pos 3) ≡ false → Adds (Links s here) before now
rows_end s here dy before now was test = adds_as (LinksAbove s here dy) (Links s here) before now was.adds (λ c h. h.link) (λ c h. record { link = h; above = above c h (cases_below dy (pos 3)) })
  where
    above : (c : Cell) → Links s here c → (dy <ℤ pos 3) ⊎ (pos 3 ≤ℤ dy) → c.y <ℤ (here.y +ℤ dy)
    above c h (inl lt) = let t = test_from_lt lt in absurd (cc)
    above c h (inr le) = let near = h.near.below in omega (arith, ints)
