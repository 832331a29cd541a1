-- Links between tiles.
use Rattle.std.proofs.Common.{◌≡◌, ◌≢◌, ◌⊎◌, ℕ, nat_eq, ◌+◌, ◌-◌, ◌*◌, ◌/◌, ◌%◌, ◌^◌, ◌<◌, ◌≤◌, Bool, true, false, cond, eqb, pos, ◌+ℤ◌, ◌-ℤ◌, List, [], ◌∷◌, ◌++◌, length, set, slice_get, slice_index, Some, refl, sym, ap, subst, ◌∙◌, arith, inl, inr, length-append}
use Rattle.std.proofs.lemmas.Bool.{cases_lt}
use Rattle.std.proofs.lemmas.Int.{ints}
use Rattle.std.proofs.lemmas.List.{get_or-set_other, get_or-set_same, length-set}
use Rattle.std.proofs.lemmas.List.Folds.{position_or_len_push}
use Rattle.std.proofs.lemmas.Option.{slice_get_within}
use Rattle.std.specs.List.{IsDistinct}
use Rattle.life_plane.specs.ListLaws.{same_item}
use Rattle.life_tiles.specs.declared.place.Place.{Place}
use Rattle.life_tiles.specs.Tiling.{same_place, index_of, neighbour, HasTile, IsLink, AreLinked, KeepsLinks, LinksAt, LinksTo}
use Rattle.life_tiles.proofs.Tiling.{same_place_is, index_is, index_within, index_at_most, slice_get_left, last_item, pushed_item}

-- the way back
pub way_back : (p : Place) (direction : ℕ) → direction < 9 → neighbour (neighbour p direction) (8 - direction) ≡ p
way_back p direction h =
    let row : ((((p.row +ℤ pos (direction / 3)) -ℤ pos 1) +ℤ pos ((8 - direction) / 3)) -ℤ pos 1) ≡ p.row = omega (arith, ints) in
    let column : ((((p.column +ℤ pos (direction % 3)) -ℤ pos 1) +ℤ pos ((8 - direction) % 3)) -ℤ pos 1) ≡ p.column = omega (arith, ints) in
    λ i. record { row = row i; column = column i }

-- ---- right links

-- the index of a tile is a link to it
pub link_there : (places : List Place) (i : ℕ) (p : Place) → IsDistinct same_place places → slice_get places i ≡ Some p → IsLink places p i
link_there places i p distinct at =
    let within = slice_get_within places i p at in
    let index = index_is places i p distinct at in
    record { index = omega arith; far = λ past. absurd (omega arith) }

-- where there is no tile, the link is past all
pub link_nowhere : (places : List Place) (p : Place) → length places < 2 ^ 63 → length places ≤ index_of places p.column p.row → IsLink places p (2 ^ 64 - 1)
link_nowhere places p small none =
    let most = index_at_most places p.column p.row in
    record { index = omega arith; far = λ past. refl }

pub keeps_none : (places : List Place) (beside : List ℕ) → KeepsLinks places beside beside
keeps_none places beside = record { long = refl; each = λ i direction p at h is. is }

pub keeps_both : (places : List Place) (a b d : List ℕ) → KeepsLinks places a b → KeepsLinks places b d → KeepsLinks places a d
keeps_both places a b d f g = record { long = g.long ∙ f.long; each = λ i direction p at h is. g.each i direction p at h (f.each i direction p at h is) }

-- a right link that is set
module _ (places : List Place) (beside : List ℕ) (i direction : ℕ) (p : Place) (l : ℕ) (below : direction < 9) (at : slice_get places i ≡ Some p) (within : 9 * i + direction < length beside) (right : IsLink places (neighbour p direction) l) where
  pub set_link : IsLink places (neighbour p direction) (slice_index (set beside (9 * i + direction) l) (9 * i + direction))
  set_link = subst (IsLink places (neighbour p direction)) (sym (get_or-set_same beside (9 * i + direction) l 0 within)) right

  pub keeps_set : KeepsLinks places beside (set beside (9 * i + direction) l)
  keeps_set = record { long = length-set beside (9 * i + direction) l; each = λ j other q there h is. by j other q there h is (nat_eq (9 * j + other) (9 * i + direction)) refl }
    where
      by : (j other : ℕ) (q : Place) → slice_get places j ≡ Some q → other < 9 → IsLink places (neighbour q other) (slice_index beside (9 * j + other)) → (b : Bool) → nat_eq (9 * j + other) (9 * i + direction) ≡ b
          → IsLink places (neighbour q other) (slice_index (set beside (9 * i + direction) l) (9 * j + other))
      by j other q there h is false e =
          let apart : 9 * j + other ≢ 9 * i + direction = grind arith in
          subst (IsLink places (neighbour q other)) (sym (get_or-set_other beside (9 * i + direction) (9 * j + other) l 0 apart)) is
      by j other q there h is true e =
          let sums : 9 * j + other ≡ 9 * i + direction = grind arith in
          let same_tile : i ≡ j = omega arith in
          let same_way : direction ≡ other = omega arith in
          let same_place : p ≡ q = same_item at (ap (slice_get places) same_tile ∙ there) in
          subst (λ k. IsLink places (neighbour q k) (slice_index (set beside (9 * i + direction) l) (9 * j + other))) same_way
          (subst (λ (r : Place). IsLink places (neighbour r direction) (slice_index (set beside (9 * i + direction) l) (9 * j + other))) same_place
          (subst (λ n. IsLink places (neighbour p direction) (slice_index (set beside (9 * i + direction) l) n)) (sym sums) set_link))

-- ---- the tiles about one

module _ (places : List Place) (beside : List ℕ) (index direction : ℕ) (p : Place) (distinct : IsDistinct same_place places) (below : direction < 9) (at : slice_get places index ≡ Some p) (room : 9 * length places ≤ length beside) where
  pub links_none : length places < 2 ^ 63 → length places ≤ index_of places (neighbour p direction).column (neighbour p direction).row → LinksAt places beside (set beside (9 * index + direction) (2 ^ 64 - 1)) index direction
  links_none small none =
      let lt = slice_get_within places index p at in
      let within : 9 * index + direction < length beside = omega arith in
      let right = link_nowhere places (neighbour p direction) small none in
      record {
        keeps = keeps_set places beside index direction p (2 ^ 64 - 1) below at within right;
        own = λ q there. subst (λ (r : Place). IsLink places (neighbour r direction) (slice_index (set beside (9 * index + direction) (2 ^ 64 - 1)) (9 * index + direction))) (same_item at there) (set_link places beside index direction p (2 ^ 64 - 1) below at within right);
        back = λ i q r there here e.
            let is : neighbour p direction ≡ r = ap (λ (s : Place). neighbour s direction) (same_item at there) ∙ e in
            let has : HasTile places (neighbour p direction).column (neighbour p direction).row = record { index = i; at = here ∙ ap Some (sym is) } in
            let inside = index_within places (neighbour p direction).column (neighbour p direction).row has in
            absurd (omega arith);
      }

  pub links_found : (other : ℕ) → slice_get places other ≡ Some (neighbour p direction) → LinksAt places beside (set (set beside (9 * index + direction) other) (9 * other + (8 - direction)) index) index direction
  links_found other there =
      let lt = slice_get_within places index p at in
      let lt' = slice_get_within places other (neighbour p direction) there in
      let within : 9 * index + direction < length beside = omega arith in
      let within' : 9 * other + (8 - direction) < length (set beside (9 * index + direction) other) = omega (arith, length-set beside (9 * index + direction) other) in
      let right = link_there places other (neighbour p direction) distinct there in
      let back_below : 8 - direction < 9 = omega arith in
      let back_right = subst (λ (r : Place). IsLink places r index) (sym (way_back p direction below)) (link_there places index p distinct at) in
      let first = keeps_set places beside index direction p other below at within right in
      let second = keeps_set places (set beside (9 * index + direction) other) other (8 - direction) (neighbour p direction) index back_below there within' back_right in
      let back_set = set_link places (set beside (9 * index + direction) other) other (8 - direction) (neighbour p direction) index back_below there within' back_right in
      record {
        keeps = keeps_both places _ _ _ first second;
        own = λ q same. subst (λ (r : Place). IsLink places (neighbour r direction) (slice_index (set (set beside (9 * index + direction) other) (9 * other + (8 - direction)) index) (9 * index + direction))) (same_item at same)
            (second.each index direction p at below (set_link places beside index direction p other below at within right));
        back = λ i q r same here e.
            let is : p ≡ q = same_item at same in
            let next : neighbour p direction ≡ r = ap (λ (s : Place). neighbour s direction) is ∙ e in
            let tile : other ≡ i = sym (index_is places other (neighbour p direction) distinct there) ∙ ap (λ (s : Place). index_of places s.column s.row) next ∙ index_is places i r distinct here in
            subst (λ k. IsLink places q (slice_index (set (set beside (9 * index + direction) other) (9 * other + (8 - direction)) index) (9 * k + (8 - direction)))) tile
            (subst (λ (s : Place). IsLink places s (slice_index (set (set beside (9 * index + direction) other) (9 * other + (8 - direction)) index) (9 * other + (8 - direction)))) (way_back p direction below ∙ is) back_set);
      }

pub links_begin : (places : List Place) (beside : List ℕ) (index : ℕ) → LinksTo places beside beside index 0
links_begin places beside index = record { keeps = keeps_none places beside; own = λ direction p lt. absurd (omega arith); back = λ direction i p q lt. absurd (omega arith) }

-- one direction more
pub links_more : (places : List Place) (first before after : List ℕ) (index direction : ℕ) → direction < 9 → LinksTo places first before index direction → LinksAt places before after index direction → LinksTo places first after index (direction + 1)
links_more places first before after index direction below done now = record {
  keeps = keeps_both places _ _ _ done.keeps now.keeps;
  own = λ d p lt at. elim (cases_lt d direction) [
    | inl less ↦ now.keeps.each index d p at (omega arith) (done.own d p less at)
    | inr ge ↦
        let same : direction ≡ d = omega arith in
        subst (λ k. IsLink places (neighbour p k) (slice_index after (9 * index + k))) same (now.own p at)
  ];
  back = λ d i p q lt at there e. elim (cases_lt d direction) [
    | inl less ↦
        let way : neighbour q (8 - d) ≡ p = ap (λ (r : Place). neighbour r (8 - d)) (sym e) ∙ way_back p d (omega arith) in
        subst (λ (r : Place). IsLink places r (slice_index after (9 * i + (8 - d)))) way
        (now.keeps.each i (8 - d) q there (omega arith) (subst (λ (r : Place). IsLink places r (slice_index before (9 * i + (8 - d)))) (sym way) (done.back d i p q less at there e)))
    | inr ge ↦
        let same : direction ≡ d = omega arith in
        subst (λ k. IsLink places p (slice_index after (9 * i + (8 - k)))) same (now.back i p q at there (ap (neighbour p) same ∙ e))
  ];
}

-- ---- one tile more

-- a link stays right where the new place is another
link_kept : (places : List Place) (p q : Place) (l : ℕ) → length places + 1 < 2 ^ 63 → same_place q p ≡ false → IsLink places q l → IsLink (places ++ p ∷ []) q l
link_kept places p q l small other right = by (eqb (index_of places q.column q.row) (length places)) refl
  where
    count : length (places ++ p ∷ []) ≡ length places + 1
    count = length-append places (p ∷ [])

    pushed : index_of (places ++ p ∷ []) q.column q.row ≡ cond (eqb (index_of places q.column q.row) (length places)) (length places + cond (same_place q p) 0 1) (index_of places q.column q.row)
    pushed = position_or_len_push (same_place q) places p

    by : (b : Bool) → eqb (index_of places q.column q.row) (length places) ≡ b → IsLink (places ++ p ∷ []) q l
    by true e =
        let is : index_of places q.column q.row ≡ length places = grind arith in
        let now : index_of (places ++ p ∷ []) q.column q.row ≡ length places + 1 = pushed ∙ ap (λ b. cond b (length places + cond (same_place q p) 0 1) (index_of places q.column q.row)) e ∙ ap (λ b. length places + cond b 0 1) other in
        let index = right.index in
        let more = count in
        let past : length places ≤ l = omega arith in
        let far = right.far past in
        record { index = omega arith; far = λ h. far }
    by false e =
        let is : index_of places q.column q.row ≢ length places = grind arith in
        let now : index_of (places ++ p ∷ []) q.column q.row ≡ index_of places q.column q.row = pushed ∙ ap (λ b. cond b (length places + cond (same_place q p) 0 1) (index_of places q.column q.row)) e in
        let index = right.index in
        let more = count in
        let most = index_at_most places q.column q.row in
        let lt : l < length places = omega arith in
        record { index = omega arith; far = λ h. absurd (omega arith) }

-- the links of the tiles that were, once one more is linked
pub links_grown : (places : List Place) (p : Place) (before after : List ℕ) → length places + 1 < 2 ^ 63 → AreLinked places before → LinksTo (places ++ p ∷ []) before after (length places) 9 → AreLinked (places ++ p ∷ []) after
links_grown places p before after small linked links = record { each = λ i d q at below. from i d q below (pushed_item places p i q at) }
  where
    by : (i d : ℕ) (q : Place) → d < 9 → slice_get places i ≡ Some q → (b : Bool) → same_place (neighbour q d) p ≡ b → IsLink (places ++ p ∷ []) (neighbour q d) (slice_index after (9 * i + d))
    by i d q below there false e = links.keeps.each i d q (slice_get_left places (p ∷ []) i q there) below (link_kept places p (neighbour q d) (slice_index before (9 * i + d)) small e (linked.each i d q there below))
    by i d q below there true e =
        let is : neighbour q d ≡ p = same_place_is (neighbour q d) p e in
        let way : neighbour p (8 - d) ≡ q = ap (λ (r : Place). neighbour r (8 - d)) (sym is) ∙ way_back q d below in
        let back_below : 8 - d < 9 = omega arith in
        let twice : 8 - (8 - d) ≡ d = omega arith in
        subst (λ k. IsLink (places ++ p ∷ []) (neighbour q d) (slice_index after (9 * i + k))) twice
        (subst (λ (r : Place). IsLink (places ++ p ∷ []) r (slice_index after (9 * i + (8 - (8 - d))))) (sym is)
        (links.back (8 - d) i p q back_below (last_item places p) (slice_get_left places (p ∷ []) i q there) way))

    from : (i d : ℕ) (q : Place) → d < 9 → (slice_get places i ≡ Some q) ⊎ ((i ≡ length places) × (p ≡ q)) → IsLink (places ++ p ∷ []) (neighbour q d) (slice_index after (9 * i + d))
    from i d q below (inl there) = by i d q below there (same_place (neighbour q d) p) refl
    from i d q below (inr new) =
        subst (λ (r : Place). IsLink (places ++ p ∷ []) (neighbour r d) (slice_index after (9 * i + d))) new.1
        (subst (λ k. IsLink (places ++ p ∷ []) (neighbour p d) (slice_index after (9 * k + d))) (sym new.0) (links.own d p below (last_item places p)))
