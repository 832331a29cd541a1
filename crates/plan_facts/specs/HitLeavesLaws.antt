-- What a hit that may come leaves is at rest.
use Rattle.std.specs.Prelude.{◌≡◌, Bool, true, false, cond, nat_eq, suc, ◌+ℤ◌, ◌-ℤ◌, length, Option}
use Rattle.std.specs.declared.option.Option.TheVariants.{Some, None}
use Rattle.std.proofs.Common.{refl, sym, ap, subst, ◌∙◌, arith}
use Rattle.std.proofs.lemmas.Int.{ints}
use Rattle.std.proofs.lemmas.Bool.{eqb-true, or_left, or_right}
use Rattle.life_plane.specs.PlaneLaws.{union_assoc}
use Rattle.life_plane.specs.Plane.{Plane, union, shift, IsStill, same_plane}
use Rattle.life_plane.specs.Apart.{Apart}
use Rattle.life_plane.specs.Strips.{Each}
use Rattle.life_plane.specs.StripLaws.{apart_symmetric, apart_union}
use Rattle.life_scene.specs.HandSide.{Rests}
use Rattle.recipe_hit.specs.Sound.{IsSound, left_hand}
use Rattle.lane_clear.specs.Frames.{moved_bounds}
use Rattle.plan_facts.specs.Happenings.{SalvoHit, frame_of}
use Rattle.lane_clear.specs.Clear.{IsClear}
use Rattle.lane_clear.specs.ClearLaws.{clear_stays_apart}
use Rattle.plan_facts.specs.State.{hand_plane, State, left_by}
use Rattle.plan_facts.specs.MayHit.{is_last, hand_left, built_after, hand_after, MayHit}
use Rattle.life_plane.specs.StillLaws.{first_still, second_still, still_union, apart_moved}
use Rattle.plan_facts.specs.SalvoLaws.{IsHitInTurn, all_left, hit_in_turn}
use Rattle.recipe_hit.specs.SceneBoxes.{as_box}
use Rattle.plan_facts.specs.HitLeaves.{left_of, LeavesBoth}
use Rattle.lane_clear.specs.MovedFrameLaws.{hit_at}
use Rattle.life_scene.specs.HitLaws.{left_inside}
use Rattle.life_scene.specs.Hits as scene
use Rattle.life_cells.specs.Cells.{alive}
use Rattle.life_cells.specs.declared.cell.Cell.{Cell}
use Rattle.book_parts.specs.declared.settings.Settings.{Settings}
use Rattle.plan_facts.specs.State.Hand.{Under}
use Rattle.book_parts.specs.declared.settings.Settings.{Settings}

-- what lies in bounds is apart from what is off them
pub off_apart : (settings : Settings) (built : Plane) (h : SalvoHit) (s : Plane) → IsClear settings built (frame_of h) → Each (scene.InBox (as_box (frame_of h).bounds)) s → Apart built s
off_apart settings built h s clear inside = (clear_stays_apart settings built (frame_of h) clear).hit s inside

-- the hand where a salvo leaves it, from where it stood
pub hand_moved : (hand : Plane) (place : Cell) (to : Option Cell) → hand_plane hand (hand_left place to) ≡ shift place.x place.y (left_hand hand to)
hand_moved hand place None = refl
hand_moved hand place (Some to) = same_plane _ _ (λ x y.
    let ex : x -ℤ (place.x +ℤ to.x) ≡ (x -ℤ place.x) -ℤ to.x = omega (arith, ints) in
    let ey : y -ℤ (place.y +ℤ to.y) ≡ (y -ℤ place.y) -ℤ to.y = omega (arith, ints) in
    (λ i. hand (ex i) (ey i)))

module _ (settings : Settings) (hand built : Plane) (h : SalvoHit) (still : IsStill built) (left_still : IsStill (left_of h))
    (inside : Each (scene.InBox (as_box (frame_of h).bounds)) (left_of h)) (clear : IsClear settings built (frame_of h)) where
  -- in the middle of a salvo
  goes_on : Apart built (left_of h) → LeavesBoth built (left_of h) (as_box (frame_of h).bounds) built (left_of h)
  goes_on apart = record {
    parts = refl;
    grows = record { has = λ x y p. p };
    rests = record { built_still = still; hand_still = left_still; apart = apart };
    inside = inside;
  }

  -- where what is left falls into a product and a hand
  splits : (product rest : Plane) → left_of h ≡ union product rest → Apart product rest → LeavesBoth built (left_of h) (as_box (frame_of h).bounds) (union built product) rest
  splits product rest is apart =
      let both : IsStill (union product rest) = subst IsStill is left_still in
      let product_still = first_still product rest apart both in
      let product_inside : Each (scene.InBox (as_box (frame_of h).bounds)) product = λ x y p. inside x y (ap (λ (q : Plane). q x y) is ∙ or_left (product x y) (rest x y) p) in
      let rest_inside : Each (scene.InBox (as_box (frame_of h).bounds)) rest = λ x y p. inside x y (ap (λ (q : Plane). q x y) is ∙ or_right (product x y) (rest x y) p) in
      record {
        parts = union_assoc built product rest ∙ ap (union built) (sym is);
        grows = record { has = λ x y p. or_left (built x y) (product x y) p };
        rests = record {
          built_still = still_union built product (off_apart settings built h product clear product_inside) still product_still;
          hand_still = second_still product rest apart both;
          apart = apart_symmetric (apart_union (apart_symmetric (off_apart settings built h rest clear rest_inside)) (apart_symmetric apart));
        };
        inside = rest_inside;
      }

  -- the salvo's last hit leaves the product and the hand
  ends : IsSound hand h.salvo.raw h.salvo.hits → IsHitInTurn hand h.salvo.hits h.number h.hit → suc h.number ≡ length h.salvo.hits →
      left_of h ≡ union (shift h.place.x h.place.y (alive h.salvo.raw.product)) (hand_plane hand (hand_left h.place h.salvo.raw.hand))
  ends sound turn last =
      ap (shift h.place.x h.place.y) (sym turn.leaves ∙ all_left hand h.salvo.hits (suc h.number) last ∙ sound.ends)
      ∙ ap (union (shift h.place.x h.place.y (alive h.salvo.raw.product))) (sym (hand_moved hand h.place h.salvo.raw.hand))

  pub leaves_both : IsSound hand h.salvo.raw h.salvo.hits → IsHitInTurn hand h.salvo.hits h.number h.hit →
      LeavesBoth built (left_of h) (as_box (frame_of h).bounds) (built_after built h) (hand_plane hand (hand_after h))
  leaves_both sound turn = by (is_last h) refl
    where
      -- mid-salvo what stands at the hand is what the hit leaves
      stands : left_of h ≡ hand_plane hand (Under h.salvo h.place (suc h.number))
      stands = ap (shift h.place.x h.place.y) (sym turn.leaves)

      by : (b : Bool) → nat_eq (suc h.number) (length h.salvo.hits) ≡ b →
          LeavesBoth built (left_of h) (as_box (frame_of h).bounds) (cond b (union built (shift h.place.x h.place.y (alive h.salvo.raw.product))) built)
          (hand_plane hand (cond b (hand_left h.place h.salvo.raw.hand) (Under h.salvo h.place (suc h.number))))
      by true last =
          let product = shift h.place.x h.place.y (alive h.salvo.raw.product) in
          splits product (hand_plane hand (hand_left h.place h.salvo.raw.hand)) (ends sound turn (eqb-true (suc h.number) (length h.salvo.hits) last))
          (subst (Apart product) (sym (hand_moved hand h.place h.salvo.raw.hand)) (apart_moved h.place.x h.place.y (alive h.salvo.raw.product) (left_hand hand h.salvo.raw.hand) sound.clear))
      by false more = subst (LeavesBoth built (left_of h) (as_box (frame_of h).bounds) built) stands (goes_on (off_apart settings built h (left_of h) clear inside))

-- what a hit that may come leaves
pub may_leave : (settings : Settings) (hand : Plane) (state : State) (h : SalvoHit) → MayHit settings hand state h → Rests state.built (hand_plane hand state.hand) →
    LeavesBoth state.built (left_of h) (as_box (frame_of h).bounds) (built_after state.built h) (hand_plane hand (hand_after h))
may_leave settings hand state h may rests =
    let turn = hit_in_turn hand h.salvo.raw.lanes h.salvo.hits h.number h.hit may.sound.hits_are may.hit_is in
    let moved = hit_at h.place (left_by h.number hand h.salvo.hits) h.hit turn.is_hit in
    leaves_both settings hand state.built h rests.built_still moved.still
    (left_inside (shift h.place.x h.place.y (left_by h.number hand h.salvo.hits)) (as_box (moved_bounds h.place turn.is_hit.box)) (frame_of h).lane (frame_of h).start h.hit.generations (left_of h)
    (as_box (frame_of h).bounds) moved)
    may.clear may.sound turn
