-- Items that are read up to a rest.
use Rattle.std.proofs.Common.{◌≡◌, ℕ, ◌<◌, ◌≤◌, ◌^◌, List, [], ◌∷◌, ◌++◌, length, refl, sym, ap, ◌∙◌, subst, inl, inr, arith, pos, ◌+ℤ◌, ◌≤ℤ◌}
use Rattle.std.proofs.lemmas.Int.{ints}
use Rattle.std.proofs.lemmas.List.{append_assoc, length-append}
use Rattle.std.proofs.lemmas.Bool.{cases_Bool}
use Rattle.life_plane.specs.Plane.{Plane}
use Rattle.life_cells.specs.declared.cell.Cell.{Cell}
use Rattle.life_cells.specs.Cells.{from_list}
use Rattle.life_cells.specs.Laws.{alive-from_list, in_order-from_list}
use Rattle.rle_items.specs.declared.item.Item.{Item}
use Rattle.rle_items.specs.declared.item.Tag.TheVariants.{Alive}
use Rattle.rle_items.specs.declared.cursor.Cursor.{Cursor}
use Rattle.rle_items.specs.declared.error.BodyError.{BodyError}
use Rattle.rle_items.specs.Items.{rows_of, live, is_row_end, AreCells}
use Rattle.rle_items.specs.ItemLaws.{rows_push, columns_push_end, columns_push_other, spells_push, reach_at_place, fine_none, fine_push}
use Rattle.rle_items.specs.Spelling.{SpellsItem}
use Rattle.rle_items.specs.SpellingLaws.{count_some, tag_behind}
use Rattle.rle_items.specs.Reach.{IsInReach, cursor_behind}
use Rattle.rle_items.specs.Gaps.{IsAtEnd}
use Rattle.rle_items.specs.ItemFaults.{IsReadTo, IsFault, ItemsStopWith}
use Rattle.rle_items.specs.Read.{IsItemAt, IsRead}
use Rattle.rle_items.specs.Cursor.{IsBehind, stands_at, IsWithin, HasRoom, HasMoved, item_cells}
use Rattle.rle_items.specs.DrawnLaws.{IsDrawn, drawn_none, drawn_push}

-- ---- the cursor

stands_behind : (place : Cell) (items : List Item) (c : Cursor) → IsBehind items c → stands_at place c ≡ cursor_behind place items
stands_behind place items c b = (λ k. record { y = place.y +ℤ pos (b.row k); x = place.x +ℤ pos (b.column k) })

pub has_room : (place : Cell) (c : Cursor) → IsInReach place → IsWithin place c → HasRoom c
has_room place c p w =
    let px = p.x.low in
    let py = p.y.low in
    let x = w.near.x.high in
    let y = w.near.y.high in
    let l = w.live in
    record { row = omega (arith, ints); column = omega (arith, ints); live = l }

pub has_moved : (items : List Item) (i : Item) (c d : Cursor) → HasRoom c → i.count < 10 ^ 18 → IsBehind items c → IsBehind (items ++ (i ∷ [])) d → HasMoved d
has_moved items i c d room small b a =
    let row = room.row in
    let column = room.column in
    let br = b.row in
    let bc = b.column in
    let ar = a.row in
    let ac = a.column in
    elim (cases_Bool (is_row_end i.tag)) [
      | inl ends ↦
          let down : rows_of i ≡ i.count = rw ends refl in
          record { row = omega (arith, rows_push items i); column = omega (arith, columns_push_end items i ends) }
      | inr other ↦
          let level : rows_of i ≡ 0 = rw other refl in
          record { row = omega (arith, rows_push items i); column = omega (arith, columns_push_other items i other) }
    ]

-- a live item that ends in reach has room for its cells
pub row_fits : (place : Cell) (items : List Item) (i : Item) (c d : Cursor) (first : Cell) → i.tag ≡ Alive → IsBehind items c → IsBehind (items ++ (i ∷ [])) d → IsWithin place d
    → first ≡ stands_at place c → (first.x +ℤ pos i.count) ≤ℤ pos (2 ^ 40)
row_fits place items i c d first t b a w is =
    let x : first.x ≡ place.x +ℤ pos c.column = ap (λ (e : Cell). e.x) is in
    let high = w.near.x.high in
    let bc = b.column in
    let ac = a.column in
    omega (arith, ints, columns_push_other items i (ap is_row_end t))

-- ---- the items so far

module _ (Gap : List ℕ → Type 0) (text : List ℕ) (place : Cell) (body : List ℕ) where
  -- the body is read up to the rest; the cursor is behind the items, and the cells are theirs
  pub record IsSoFar (rest : List ℕ) (cursor : Cursor) (cells : List Cell) : Type 0 where
    pub items : List Item
    pub read : IsReadTo Gap place body rest items
    pub short : length rest ≤ length text
    pub behind : IsBehind items cursor
    pub within : IsWithin place cursor
    pub drawn : IsDrawn place items cells

  pub so_far_start : (cursor : Cursor) → IsInReach place → length body ≤ length text → IsBehind [] cursor → IsSoFar body cursor []
  so_far_start cursor near short behind = record {
    items = [];
    read = record { front = []; split = refl; spelled = refl; fine = fine_none place near };
    short = short;
    behind = behind;
    within = record { near = subst IsInReach (sym (stands_behind place [] cursor behind)) (reach_at_place place near); live = let l = behind.live in omega arith };
    drawn = drawn_none place;
  }

  module _ (rest : List ℕ) (c d : Cursor) (cells : List Cell) (item : Item) (at : ℕ) (more : List ℕ)
      (so_far : IsSoFar rest c cells) (next : IsItemAt Gap text rest item at more)
      (moves : (items : List Item) → IsBehind items c → IsBehind (items ++ (item ∷ [])) d) where
    rest_is : rest ≡ (((next.next.at.past.gap ++ next.next.digits) ++ next.next.at.next.gap) ++ (next.tag ∷ [])) ++ more
    rest_is = tag_behind Gap rest item next.tag more next.next ∙ sym (append_assoc ((next.next.at.past.gap ++ next.next.digits) ++ next.next.at.next.gap) (next.tag ∷ []) more)

    spelled : SpellsItem Gap (((next.next.at.past.gap ++ next.next.digits) ++ next.next.at.next.gap) ++ (next.tag ∷ [])) item
    spelled = record {
      before = next.next.at.past.gap;
      digits = next.next.digits;
      between = next.next.at.next.gap;
      tag = next.tag;
      whole = refl;
      gap_before = next.next.at.past.gap_is;
      gap_between = next.next.at.next.gap_is;
      count = next.next.count;
      tag_is = next.next.tag_is;
    }

    pub rest_shorter : length more < length rest
    rest_shorter = omega (
      arith,
      ap length rest_is,
      length-append (((next.next.at.past.gap ++ next.next.digits) ++ next.next.at.next.gap) ++ (next.tag ∷ [])) more,
      length-append ((next.next.at.past.gap ++ next.next.digits) ++ next.next.at.next.gap) (next.tag ∷ []),
    )

    pub so_far_push : (first : Cell) → first ≡ stands_at place c → IsWithin place d → IsSoFar more d (cells ++ item_cells first item)
    so_far_push first first_is within =
        let items = so_far.items in
        let behind = moves items so_far.behind in
        let front = so_far.read.front in
        let text_of : List ℕ = ((next.next.at.past.gap ++ next.next.digits) ++ next.next.at.next.gap) ++ (next.tag ∷ []) in
        let few : live (items ++ (item ∷ [])) ≤ 2 ^ 18 = (let p = behind.live in let q = within.live in omega arith) in
        let short : length more ≤ length text = (let s = so_far.short in let r = rest_shorter in omega arith) in
        record {
          items = items ++ (item ∷ []);
          read = record {
            front = front ++ text_of;
            split = so_far.read.split ∙ ap (λ (bs : List ℕ). front ++ bs) rest_is ∙ sym (append_assoc front text_of more);
            spelled = spells_push Gap front text_of items item so_far.read.spelled spelled;
            fine = fine_push place items item so_far.read.fine (subst IsInReach (stands_behind place (items ++ (item ∷ [])) d behind) within.near) few;
          };
          short = short;
          behind = behind;
          within = within;
          drawn = subst (λ (e : Cell). IsDrawn place (items ++ (item ∷ [])) (cells ++ item_cells e item)) (sym (first_is ∙ stands_behind place items c so_far.behind))
              (drawn_push place items item cells (count_some next.next.digits item.count next.next.count) so_far.drawn);
        }

  -- a fault at the front of the rest is where the reading stops
  pub stops_at_fault : (rest : List ℕ) (cursor : Cursor) (cells : List Cell) (e : BodyError) → IsSoFar rest cursor cells
      → ((place : Cell) (items : List Item) → IsFault Gap text place rest items e) → ItemsStopWith Gap text place body e
  stops_at_fault rest cursor cells e h f = record { items = h.items; rest = rest; read = h.read; fault = f place h.items }

  pub so_far_read : (rest : List ℕ) (cursor : Cursor) (cells : List Cell) → IsSoFar rest cursor cells → IsAtEnd Gap rest → IsRead Gap place body (from_list cells) rest
  so_far_read rest cursor cells h end = record {
    items = h.items;
    read = h.read;
    end = end;
    are_cells = subst (λ (s : Plane). AreCells place h.items s) (sym (alive-from_list cells)) h.drawn.are_cells;
    few = let within = h.within.live in let behind = h.behind.live in omega (arith, h.drawn.count, ap length (in_order-from_list cells h.drawn.rising));
  }
