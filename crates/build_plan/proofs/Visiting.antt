-- The gliders of salvos, added one salvo after the other.
use Rattle.std.specs.Prelude.{◌≡◌, ℕ, suc, ◌<◌, ◌≤◌, ◌^◌, List, [], ◌∷◌, ◌++◌, length, drop, get_or}
use Rattle.std.proofs.Common.{sym, ap, subst, ◌∙◌, arith, append_assoc, append-nil, inl, inr}
use Rattle.std.proofs.Math.Seq.{drop-cons}
use Rattle.std.proofs.lemmas.Int.{ints}
use Rattle.std.proofs.lemmas.List.{drop_all}
use Rattle.life_cells.specs.declared.cell.Cell.{Cell}
use Rattle.life_cells.specs.declared.bounds.Bounds.{Bounds}
use Rattle.life_cells.specs.Boxes.{InBox, IsBoxInRange, IsCellInRange}
use Rattle.hand_route.specs.Moves.{Site}
use Rattle.hand_route.specs.Rooms.{IsRoom}
use Rattle.hand_route.specs.Lists.{IsHandList, IsFarewell}
use Rattle.recipe_hit.specs.Checked.{Struck}
use Rattle.build_plan.specs.declared.throw.Throw.{Throw}
use Rattle.build_plan.specs.Numbers.{item_of}
use Rattle.build_plan.specs.Throws.{salvo_throws, place_past, list_throws}
use Rattle.build_plan.specs.ThrowLaws.{past_there}
use Rattle.build_plan.specs.Visited.{IsVisited, AreVisited}

-- the sides of a room
pub room_in_range : (room : Bounds) → IsRoom room → IsBoxInRange (2 ^ 50) room
room_in_range room r =
    let left = r.columns.from in let right = r.columns.to in let across = r.columns.order in
    let top = r.rows.from in let bottom = r.rows.to in let down = r.rows.order in
    record {
      left_low = omega (arith, ints);
      left_high = omega (arith, ints);
      top_low = omega (arith, ints);
      top_high = omega (arith, ints);
      right_low = omega (arith, ints);
      right_high = omega (arith, ints);
      bottom_low = omega (arith, ints);
      bottom_high = omega (arith, ints);
    }

-- a place of a room
pub in_range : (room : Bounds) (at : Cell) → IsBoxInRange (2 ^ 50) room → InBox room at.x at.y → IsCellInRange (2 ^ 50) at
in_range room at r i = record { x_low = omega (arith, ints); x_high = omega (arith, ints); y_low = omega (arith, ints); y_high = omega (arith, ints) }

module _ (site : Site) (range : IsBoxInRange (2 ^ 50) site.room) where
  -- the salvos of a hand list, and of a farewell
  pub list_visited : (from to : Cell) (list : List ℕ) → InBox site.room from.x from.y → IsHandList site from list to → AreVisited site.salvos from list
  list_visited from to [] here leads = tt
  list_visited from to (k ∷ ks) here (between, (carries, more)) = (
    record { salvo = carries.salvo; numbered = carries.moves.numbered; range = in_range site.room from range here },
    subst (λ (p : Cell). AreVisited site.salvos p ks) (sym (past_there site.salvos k carries.salvo from between carries.moves.numbered carries.leaves)) (list_visited between to ks carries.in_room more),
  )

  pub farewell_visited : (from : Cell) (list : List ℕ) → InBox site.room from.x from.y → IsFarewell site from list → AreVisited site.salvos from list
  farewell_visited from [] here says = absurd says
  farewell_visited from (k ∷ ks) here (inl last) = (
    record { salvo = last.0.salvo; numbered = last.0.moves.numbered; range = in_range site.room from range here },
    subst (AreVisited site.salvos (place_past (item_of site.salvos k) from)) (sym last.1) tt,
  )
  farewell_visited from (k ∷ ks) here (inr (between, (carries, more))) = (
    record { salvo = carries.salvo; numbered = carries.moves.numbered; range = in_range site.room from range here },
    subst (λ (p : Cell). AreVisited site.salvos p ks) (sym (past_there site.salvos k carries.salvo from between carries.moves.numbered carries.leaves)) (farewell_visited between ks carries.in_room more),
  )

-- the gliders of the salvos before a place are added: with those from there on they are all
pub record IsGathered (salvos : List Struck) (list : List ℕ) (first : Cell) (before : List Throw) (place : ℕ) (at : Cell) (throws : List Throw) : Type 0 where
  pub visited : AreVisited salvos at (drop place list)
  pub throws_are : throws ++ list_throws salvos at (drop place list) ≡ before ++ list_throws salvos first list

module _ (salvos : List Struck) (list : List ℕ) (first : Cell) (before : List Throw) where
  pub next_visited : (place : ℕ) (at : Cell) (throws : List Throw) → place < length list → IsGathered salvos list first before place at throws →
      IsVisited salvos (get_or list place 0) at × AreVisited salvos (place_past (item_of salvos (get_or list place 0)) at) (drop (suc place) list)
  next_visited place at throws lt p = subst (AreVisited salvos at) (drop-cons list place 0 lt) p.visited

  pub gathered_more : (place : ℕ) (at next : Cell) (throws : List Throw) → place < length list → IsGathered salvos list first before place at throws → next ≡ place_past (item_of salvos (get_or list place 0)) at →
      IsGathered salvos list first before (suc place) next (throws ++ salvo_throws salvos (get_or list place 0) at)
  gathered_more place at next throws lt p is =
      let k = get_or list place 0 in
      let rest = drop (suc place) list in
      let past = place_past (item_of salvos k) at in
      let split : drop place list ≡ k ∷ rest = drop-cons list place 0 lt in
      let throws_are : (throws ++ salvo_throws salvos k at) ++ list_throws salvos past rest ≡ before ++ list_throws salvos first list =
      append_assoc throws (salvo_throws salvos k at) (list_throws salvos past rest) ∙ ap (λ (l : List ℕ). throws ++ list_throws salvos at l) (sym split) ∙ p.throws_are in
      subst (λ (c : Cell). IsGathered salvos list first before (suc place) c (throws ++ salvo_throws salvos k at)) (sym is) (record { visited = (next_visited place at throws lt p).1; throws_are = throws_are })

  pub gathered_all : (place : ℕ) (at : Cell) (throws : List Throw) → length list ≤ place → IsGathered salvos list first before place at throws → throws ≡ before ++ list_throws salvos first list
  gathered_all place at throws le p = sym (append-nil throws) ∙ ap (λ (l : List ℕ). throws ++ list_throws salvos at l) (sym (drop_all place list le)) ∙ p.throws_are
