-- Where the cells of fine items are.
use Rattle.std.proofs.Common.{◌≡◌, ◌^◌, true, List, [], ◌∷◌, ◌++◌, refl, sym, ◌∙◌, subst, arith, ℤ}
use Rattle.std.proofs.lemmas.Int.{ints}
use Rattle.std.proofs.lemmas.List.{append_assoc}
use Rattle.life_plane.specs.Plane.{Plane}
use Rattle.life_cells.specs.Boxes.{IsInRange}
use Rattle.life_cells.specs.declared.cell.Cell.{Cell}
use Rattle.rle_items.specs.declared.item.Item.{Item}
use Rattle.rle_items.specs.declared.item.Tag.TheVariants.{Alive}
use Rattle.rle_items.specs.Items.{AreCells}
use Rattle.rle_items.specs.ItemLaws.{columns_push_other}
use Rattle.rle_items.specs.Reach.{IsNearZero, IsInReach, AreFineFrom}

module _ (place : Cell) (items : List Item) (s : Plane) (fine : AreFineFrom place items) (cells : AreCells place items s) where
  in_reach : (x y : ℤ) → s x y ≡ true → IsInReach (record { x = x; y = y })
  in_reach x y h =
      let m = cells.made x y h in
      let last : Item = record { count = m.count; tag = Alive } in
      let from = fine.near m.before (last ∷ m.after) m.split in
      let to = fine.near (m.before ++ (last ∷ [])) m.after (m.split ∙ sym (append_assoc m.before (last ∷ []) m.after)) in
      let ends = columns_push_other m.before last refl in
      let low = from.x.low in
      let high = to.x.high in
      let left = m.from in
      let right = m.to in
      record { x = record { low = omega (arith, ints); high = omega (arith, ints) }; y = subst IsNearZero (sym m.row) from.y }

  pub fine_range : IsInRange (2 ^ 40) s
  fine_range = record {
    x_low = λ x y h. (in_reach x y h).x.low;
    x_high = λ x y h. (in_reach x y h).x.high;
    y_low = λ x y h. (in_reach x y h).y.low;
    y_high = λ x y h. (in_reach x y h).y.high;
  }
