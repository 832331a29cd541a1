-- The cursor behind one more item.
use Rattle.std.proofs.Common.{◌≡◌, ◌+◌, true, false, List, [], ◌∷◌, ◌++◌, refl, ap, arith, if◌then◌else◌}
use Rattle.rle_items.specs.declared.item.Item.{Item}
use Rattle.rle_items.specs.declared.item.Tag.TheVariants.{Dead, Alive, RowEnd}
use Rattle.rle_items.specs.declared.cursor.Cursor.{Cursor}
use Rattle.rle_items.specs.Items.{rows_of, live, is_row_end, is_alive}
use Rattle.rle_items.specs.ItemLaws.{rows_push, live_push, columns_push_end, columns_push_other}
use Rattle.rle_items.specs.Cursor.{IsBehind}

pub behind_dead : (items : List Item) (i : Item) (c d : Cursor) → i.tag ≡ Dead → d.row ≡ c.row → d.column ≡ c.column + i.count → d.live ≡ c.live
    → IsBehind items c → IsBehind (items ++ (i ∷ [])) d
behind_dead items i c d t row column live h =
    let no_end : is_row_end i.tag ≡ false = ap is_row_end t in
    let no_rows : rows_of i ≡ 0 = rw no_end refl in
    let dead : (if is_alive i.tag then i.count else 0) ≡ 0 = rw (ap is_alive t) refl in
    record {
      row = omega (arith, rows_push items i);
      column = omega (arith, columns_push_other items i no_end);
      live = omega (arith, live_push items i);
    }

pub behind_alive : (items : List Item) (i : Item) (c d : Cursor) → i.tag ≡ Alive → d.row ≡ c.row → d.column ≡ c.column + i.count → d.live ≡ c.live + i.count
    → IsBehind items c → IsBehind (items ++ (i ∷ [])) d
behind_alive items i c d t row column live h =
    let no_end : is_row_end i.tag ≡ false = ap is_row_end t in
    let no_rows : rows_of i ≡ 0 = rw no_end refl in
    let lives : (if is_alive i.tag then i.count else 0) ≡ i.count = rw (ap is_alive t) refl in
    record {
      row = omega (arith, rows_push items i);
      column = omega (arith, columns_push_other items i no_end);
      live = omega (arith, live_push items i);
    }

pub behind_row_end : (items : List Item) (i : Item) (c d : Cursor) → i.tag ≡ RowEnd → d.row ≡ c.row + i.count → d.column ≡ 0 → d.live ≡ c.live
    → IsBehind items c → IsBehind (items ++ (i ∷ [])) d
behind_row_end items i c d t row column live h =
    let ends : is_row_end i.tag ≡ true = ap is_row_end t in
    let down : rows_of i ≡ i.count = rw ends refl in
    let dead : (if is_alive i.tag then i.count else 0) ≡ 0 = rw (ap is_alive t) refl in
    record {
      row = omega (arith, rows_push items i);
      column = omega (arith, columns_push_end items i ends);
      live = omega (arith, live_push items i);
    }
