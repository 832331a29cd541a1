-- What trying a salvo comes to.
use Rattle.std.specs.Prelude.{◌≡◌, ℕ, ◌≤◌, ◌^◌, List, [], ◌∷◌, length, get_or, true, Option, IfSome, IfNone}
use Rattle.std.specs.List.{AllByRecursion}
use Rattle.std.specs.declared.option.Option.TheVariants.{Some, None}
use Rattle.std.proofs.lemmas.List.{length-map}
use Rattle.std.proofs.Common.{refl, sym, ap, subst, ◌∙◌, arith}
use Rattle.life_plane.specs.Plane.{Plane, union, shift}
use Rattle.life_cells.specs.declared.cell.Cell.{Cell}
use Rattle.life_cells.specs.declared.bounds.Bounds.{Bounds}
use Rattle.life_cells.specs.Boxes.{InBox, IsInRange}
use Rattle.life_cells.specs.Cells.{alive}
use Rattle.life_cells.specs.BoxLaws.{range_wider}
use Rattle.lane_clear.specs.Frames.{farthest}
use Rattle.life_islands.specs.Islands.{IsNoted}
use Rattle.life_islands.specs.Order.{AreInOrder}
use Rattle.life_islands.specs.declared.island.Island.{Island}
use Rattle.book_parts.specs.declared.salvo.RawSalvo.{RawSalvo}
use Rattle.book_parts.specs.declared.limits.TheConstants.{MOST_SALVOS}
use Rattle.elbow_graph.specs.declared.elbow.Elbow.{Elbow}
use Rattle.elbow_graph.specs.Numbered.{IsNumbered}
use Rattle.elbow_graph.specs.NumberedLaws.{numbered_once}
use Rattle.hand_route.specs.Clearings.{IsSalvoClear}
use Rattle.hand_route.specs.Moves.{leaves_hand}
use Rattle.recipe_hit.specs.Checked.{Struck}
use Rattle.recipe_hit.specs.Sound.{IsWhole}
use Rattle.recipe_turn.specs.Checked.{raws}
use Rattle.recipe_book.specs.Checked.{CheckedEntries, IsCheckedBook}
use Rattle.recipe_book.specs.ByShape.{Builds, IsNumberOf}
use Rattle.recipe_book.specs.Entries.{AreThose}
use Rattle.build_plan.specs.declared.event.Event.{Event}
use Rattle.build_plan.specs.declared.search.Search.{Search}
use Rattle.build_plan.specs.declared.throw.Throw.{Throw}
use Rattle.build_plan.specs.declared.trial.Trial.{Trial}
use Rattle.build_plan.specs.declared.walk.Walk.{Walk}
use Rattle.build_plan.specs.Fits.{Fits, IsOutside, AreLeftAfter}
use Rattle.elbow_graph.specs.NumberedLaws.{numbered_from_at}
use Rattle.build_plan.specs.ServedWalk.{AddsEvents, ServedBy}
use Rattle.build_plan.specs.Stand.{Stand}
use Rattle.build_plan.specs.Usable.{Taken, product_of, hand_after, IsWayIn, way_throws, SaysFarewell, CanSayFarewell, MayLeave, IsUsable}
use Rattle.build_plan.specs.Trials.{MayBeLeft, MayBegin, first_of, built_with, search_site, IsSearch, with_ways, SameSearch, stand_of, IsThrown, IsWalkedTo, IsLeft, HasNoFarewell, farewell_events, farewell_elbow, IsLastWord, IsTrial, NoneUsable, AddsSome}
use Rattle.build_plan.proofs.FromBook.{sound_salvos}
use Rattle.build_plan.proofs.Leasts.{ServingIsOne}
use Rattle.build_plan.proofs.OneServed.{served_once}
use Rattle.recipe_book.specs.EntryLaws.{those_once}
use Rattle.build_plan.proofs.OneTaken.{fits_once}
use Rattle.build_plan.proofs.OnIsland.{fits_there, rest_left}
use Rattle.build_plan.proofs.Searching.{OneWay, one_way}

-- a list of one has no other
none_else : (wanted : Island) (others : List Island) → length (wanted ∷ others) ≡ 1 → others ≡ []
none_else wanted [] h = refl
none_else wanted (other ∷ others) h = absurd (omega arith)

one_alone : (wanted : Island) (others : List Island) → others ≡ [] → length (wanted ∷ others) ≡ 1
one_alone wanted others none = ap (λ (l : List Island). length (wanted ∷ l)) none

-- a salvo that builds a shape has its number
pub number_of : (salvos : List Struck) (shape : Plane) (number : ℕ) (n : IsNumberOf salvos shape number) → IsNumbered salvos number n.salvo
number_of salvos shape number n = subst (λ (k : ℕ). IsNumbered salvos k n.salvo) (sym (let e = n.number_is in omega arith)) (numbered_from_at salvos n.place n.salvo n.there)

pub builds_shape : (salvos : List Struck) (shape : Plane) (number : ℕ) (salvo : Struck) → IsNumberOf salvos shape number → IsNumbered salvos number salvo → Builds salvo shape
builds_shape salvos shape number salvo n numbered = subst (λ (x : Struck). Builds x shape) (numbered_once salvos number n.salvo salvo (number_of salvos shape number n) numbered) n.builds

-- a checked book has few salvos
pub few_salvos : (book : CheckedEntries) → IsCheckedBook book → length book.salvos ≤ MOST_SALVOS
few_salvos book checked = let e = length-map {B = RawSalvo} book.salvos (λ (x : Struck). x.raw) in let few = checked.proper.few_salvos in omega arith

-- cells of an island of a plane in range
pub island_near : (n : ℕ) (target : Plane) (island : Island) → IsNoted target island → IsInRange n target → IsInRange n (alive island.cells)
island_near n target island noted range = record {
  x_low = λ x y lives. range.x_low x y (noted.is.within (record { y = y; x = x }) lives);
  x_high = λ x y lives. range.x_high x y (noted.is.within (record { y = y; x = x }) lives);
  y_low = λ x y lives. range.y_low x y (noted.is.within (record { y = y; x = x }) lives);
  y_high = λ x y lives. range.y_high x y (noted.is.within (record { y = y; x = x }) lives);
}

-- the first island of a search, and its range
pub first_is : (search : Search) (s : IsSearch search) (d : Island) → get_or search.left.now 0 d ≡ s.wanted
first_is search s d = ap (λ (l : List Island). get_or l 0 d) s.left_is

pub first_near : (search : Search) (s : IsSearch search) (d : Island) → IsInRange farthest (alive (get_or search.left.now 0 d).cells)
first_near search s d =
    let noted : AllByRecursion (IsNoted s.target) (s.wanted ∷ s.others) = subst (AllByRecursion (IsNoted s.target)) s.left_is s.islands.noted in
    subst (λ (i : Island). IsInRange farthest (alive i.cells)) (sym (first_is search s d))
    (range_wider (2 ^ 40) farthest (alive s.wanted.cells) (island_near (2 ^ 40) s.target s.wanted noted.0 s.near) (omega arith))

-- what an island is built with it
pub with_first : (search : Search) (s : IsSearch search) (d : Island) → union (alive search.built.now) (alive (get_or search.left.now 0 d).cells) ≡ built_with search
with_first search s d = ap (λ (i : Island). union (alive search.built.now) (alive i.cells)) (first_is search s d) ∙ ap (λ (l : List Island). union (alive search.built.now) (first_of l)) (sym s.left_is)

-- the place of a last hand is in the room
pub last_in_room : (search : Search) (salvo : Struck) (at place : Cell) → MayBegin search salvo at → leaves_hand salvo at ≡ Some place → InBox search.planner.now.placing.room place.x place.y
last_in_room search salvo at place may is = subst (λ (h : Option Cell). MayBeLeft search.planner.now.placing.room h (length search.left.now ≡ 1)) is may.left

module _ (search : Search) (s : IsSearch search) (checked : IsCheckedBook search.planner.now.book.now) (elbow : Elbow) (number : ℕ) (salvo : Struck)
    (numbered : IsNumbered search.planner.now.book.now.salvos number salvo) (at : Cell) (on : shift at.x at.y (alive salvo.raw.product) ≡ alive s.wanted.cells) where
  abbrev book : CheckedEntries
  book = search.planner.now.book.now

  abbrev room : Bounds
  room = search.planner.now.placing.room

  abbrev stand : Stand
  stand = stand_of search elbow

  abbrev left : List Island
  left = s.wanted ∷ s.others

  each : AllByRecursion (IsNoted s.target) left
  each = subst (AllByRecursion (IsNoted s.target)) s.left_is s.islands.noted

  whole : IsWhole (alive salvo.raw.product)
  whole = (sound_salvos book checked number salvo numbered).sound.whole

  -- the salvo fits there
  fits_at : Fits search.left.now (alive salvo.raw.product) at
  fits_at = subst (λ (l : List Island). Fits l (alive salvo.raw.product) at) (sym s.left_is) (fits_there s.target (alive salvo.raw.product) s.wanted s.others salvo.raw.product at each.0 refl whole on)

  -- and the others are left after it
  left_at : AreLeftAfter search.left.now (shift at.x at.y (alive salvo.raw.product)) s.others
  left_at =
      subst (λ (l : List Island). AreLeftAfter l (shift at.x at.y (alive salvo.raw.product)) s.others) (sym s.left_is)
      (rest_left s.target s.wanted s.others (shift at.x at.y (alive salvo.raw.product)) each (subst AreInOrder s.left_is s.islands.in_order) on)

  built_is : union (alive search.built.now) (shift at.x at.y (alive salvo.raw.product)) ≡ built_with search
  built_is = ap (union (alive search.built.now)) (on ∙ sym (ap first_of s.left_is))

  -- what is usable with this number is this salvo, there
  record IsThis (taken : Taken) : Type 0 where
    salvo_is : taken.salvo ≡ salvo
    at_is : taken.place ≡ at
    left_is : taken.left ≡ s.others

  this : (taken : Taken) → IsUsable book room stand taken → taken.number ≡ number → IsThis taken
  this taken u is =
      let salvos : taken.salvo ≡ salvo = numbered_once book.salvos number taken.salvo salvo (subst (λ (k : ℕ). IsNumbered book.salvos k taken.salvo) is u.numbered) numbered in
      let places : taken.place ≡ at = fits_once search.left.now (alive salvo.raw.product) taken.place at (subst (λ (t : Struck). Fits search.left.now (alive t.raw.product) taken.place) salvos u.fits) fits_at in
      let product : product_of taken ≡ shift at.x at.y (alive salvo.raw.product) = λ i. shift (places i).x (places i).y (alive (salvos i).raw.product) in
      record {
        salvo_is = salvos;
        at_is = places;
        left_is = those_once (IsOutside (shift at.x at.y (alive salvo.raw.product))) search.left.now taken.left s.others
            (subst (λ (p : Plane). AreThose (IsOutside p) search.left.now taken.left) product u.left_after) left_at;
      }

  hand_is : (taken : Taken) → IsThis taken → hand_after taken ≡ leaves_hand salvo at
  hand_is taken t i = leaves_hand (t.salvo_is i) (t.at_is i)

  -- ---- where it may not begin

  may_be_left : (hand : Option Cell) (built : Plane) (to : Elbow) → MayLeave book room built hand to s.others → MayBeLeft room hand (length search.left.now ≡ 1)
  may_be_left None built to none = ap length s.left_is ∙ one_alone s.wanted s.others none
  may_be_left (Some place) built to h = h.0

  begins : (taken : Taken) → IsUsable book room stand taken → taken.number ≡ number → MayBegin search salvo at
  begins taken u is =
      let t = this taken u is in
      record {
        in_room = subst (λ (c : Cell). InBox room c.x c.y) t.at_is u.in_room;
        left = may_be_left (leaves_hand salvo at) _ taken.elbow
            (subst (λ (h : Option Cell). MayLeave book room (union stand.built (product_of taken)) h taken.elbow s.others) (hand_is taken t)
            (subst (MayLeave book room (union stand.built (product_of taken)) (hand_after taken) taken.elbow) t.left_is u.leaves));
        clear = subst (λ (x : Struck). IsSalvoClear book.settings stand.built x at) t.salvo_is (subst (IsSalvoClear book.settings stand.built taken.salvo) t.at_is u.clear);
      }

  pub not_begun : (MayBegin search salvo at → ⊥) → NoneUsable book room stand number
  not_begun none taken u is = none (begins taken u is)

  -- ---- where its lanes have no lists

  thrown : (taken : Taken) → IsUsable book room stand taken → taken.number ≡ number → IsThrown book room stand number at taken.way taken.events taken.elbow
  thrown taken u is =
      let t = this taken u is in
      record {
        way_is = subst (IsWayIn (search_site search) search.place taken.way) t.at_is u.way;
        served = subst (λ (l : List Throw). ServedBy book elbow l taken.events taken.elbow) (λ i. way_throws book.salvos search.place taken.way (is i) (t.at_is i)) u.served;
      }

  pub not_walked : ((way : List ℕ) (events : List Event) (to : Elbow) → IsThrown book room stand number at way events to → ⊥) → NoneUsable book room stand number
  not_walked none taken u is = none taken.way taken.events taken.elbow (thrown taken u is)

  -- ---- where its hand has no farewell

  module _ (one : OneWay (search_site search)) (serving : ServingIsOne) (way : List ℕ) (events : List Event) (to : Elbow) (is_thrown : IsThrown book room stand number at way events to) where
    same_elbow : (taken : Taken) → IsUsable book room stand taken → taken.number ≡ number → taken.elbow ≡ to
    same_elbow taken u is =
        let t = thrown taken u is in
        let ways : taken.way ≡ way = one_way (search_site search) search.place at taken.way way one t.way_is is_thrown.way_is in
        (served_once serving (raws book.turns) book.settings.span (way_throws book.salvos search.place way number at) elbow taken.events events taken.elbow to
        (subst (λ (w : List ℕ). ServedBy book elbow (way_throws book.salvos search.place w number at) taken.events taken.elbow) ways t.served) is_thrown.served).1

    has_said : (hand : Option Cell) (built : Plane) (from : Elbow) → s.others ≡ [] → MayLeave book room built hand from s.others → CanSayFarewell book room built hand from
    has_said None built from last h = ([], (from, (refl, refl)))
    has_said (Some place) built from last h = h.1 last

    pub not_said : HasNoFarewell search salvo at to → NoneUsable book room stand number
    not_said never taken u is =
        let t = this taken u is in
        let last : s.others ≡ [] = none_else s.wanted s.others (ap length (sym s.left_is) ∙ never.is_last) in
        let product : union stand.built (product_of taken) ≡ built_with search = (λ i. union (alive search.built.now) (shift (t.at_is i).x (t.at_is i).y (alive (t.salvo_is i).raw.product))) ∙ built_is in
        let leaves : MayLeave book room (built_with search) (leaves_hand salvo at) to s.others =
        subst (λ (h : Option Cell). MayLeave book room (built_with search) h to s.others) (hand_is taken t)
        (subst (λ (e : Elbow). MayLeave book room (built_with search) (hand_after taken) e s.others) (same_elbow taken u is)
        (subst (λ (p : Plane). MayLeave book room p (hand_after taken) taken.elbow s.others) product
        (subst (MayLeave book room (union stand.built (product_of taken)) (hand_after taken) taken.elbow) t.left_is u.leaves))) in
        never.none (has_said (leaves_hand salvo at) (built_with search) to last leaves)

    -- ---- where it is usable

    abbrev tried : Taken
    tried = record { number = number; salvo = salvo; place = at; way = way; events = events; elbow = to; left = s.others }

    left_there : (hand : Option Cell) (trial : Trial) → trial.hand ≡ hand → MayBeLeft room hand (length search.left.now ≡ 1) → IsLastWord book room (built_with search) to (length search.left.now ≡ 1) trial →
        MayLeave book room (built_with search) hand to s.others
    left_there None trial is may word = none_else s.wanted s.others (ap length (sym s.left_is) ∙ may)
    left_there (Some place) trial is may word = (
      may,
      λ none. (
        farewell_events trial.farewell,
        (
          farewell_elbow to trial.farewell,
          subst (λ (h : Option Cell). SaysFarewell book room (built_with search) h to (farewell_events trial.farewell) (farewell_elbow to trial.farewell)) is
              (word (ap length s.left_is ∙ one_alone s.wanted s.others none)),
        ),
      ),
    )

    pub is_usable : (trial : Trial) → MayBegin search salvo at → IsLeft search salvo at to trial → IsUsable book room stand tried
    is_usable trial may l = record {
      numbered = numbered;
      fits = fits_at;
      left_after = left_at;
      in_room = may.in_room;
      way = is_thrown.way_is;
      clear = may.clear;
      served = is_thrown.served;
      leaves = subst (λ (p : Plane). MayLeave book room p (leaves_hand salvo at) to s.others) (sym built_is) (left_there (leaves_hand salvo at) trial l.hand_is may.left l.last_word);
    }

    pub is_trial : (old new : Walk) (trial : Trial) → old.elbow ≡ elbow → new.elbow ≡ to → AddsEvents old new events → MayBegin search salvo at → IsLeft search salvo at to trial → IsTrial book room stand number old new trial
    is_trial old new trial old_is new_is adds may l = record {
      taken = tried;
      usable = is_usable trial may l;
      number_is = refl;
      events = adds;
      elbow = new_is;
      at = l.at_is;
      hand = l.hand_is;
      farewell = λ none.
          subst (λ (p : Plane). SaysFarewell book room p trial.hand to (farewell_events trial.farewell) (farewell_elbow to trial.farewell)) (sym built_is) (l.last_word (ap length s.left_is ∙ one_alone s.wanted s.others none));
    }

-- ---- the last hand

pub no_farewell : (search : Search) (salvo : Struck) (at : Cell) (elbow : Elbow) (built : Plane) (hand : Option Cell) (place : Cell) → built ≡ built_with search → hand ≡ leaves_hand salvo at → hand ≡ Some place →
    length search.left.now ≡ 1 → (CanSayFarewell search.planner.now.book.now search.planner.now.placing.room built (Some place) elbow → ⊥) → HasNoFarewell search salvo at elbow
no_farewell search salvo at elbow built hand place built_is hand_is some last none =
    let book = search.planner.now.book.now in
    let room = search.planner.now.placing.room in
    record {
      is_last = last;
      none = λ can.
          none
          (subst (λ (h : Option Cell). CanSayFarewell book room built h elbow) (sym hand_is ∙ some)
          (subst (λ (p : Plane). CanSayFarewell book room p (leaves_hand salvo at) elbow) (sym built_is) can));
    }

-- ---- after the hand's ways have grown

pub still_begins : (old new : Search) (salvo : Struck) (at : Cell) → SameSearch old new → MayBegin old salvo at → MayBegin new salvo at
still_begins old new salvo at same may =
    let here : MayBegin (with_ways old new.ways) salvo at = record { in_room = may.in_room; left = may.left; clear = may.clear } in
    subst (λ (x : Search). MayBegin x salvo at) (sym same) here

left_before : (old new : Search) (salvo : Struck) (at : Cell) (elbow : Elbow) (trial : Trial) → SameSearch old new → IsLeft new salvo at elbow trial → IsLeft old salvo at elbow trial
left_before old new salvo at elbow trial same l =
    let here : IsLeft (with_ways old new.ways) salvo at elbow trial = subst (λ (x : Search). IsLeft x salvo at elbow trial) same l in
    record { at_is = here.at_is; hand_is = here.hand_is; last_word = here.last_word }

none_before : (old new : Search) (salvo : Struck) (at : Cell) (elbow : Elbow) → SameSearch old new → HasNoFarewell new salvo at elbow → HasNoFarewell old salvo at elbow
none_before old new salvo at elbow same l =
    let here : HasNoFarewell (with_ways old new.ways) salvo at elbow = subst (λ (x : Search). HasNoFarewell x salvo at elbow) same l in
    record { is_last = here.is_last; none = here.none }

-- ---- what a trial comes to

module _ (search new : Search) (s : IsSearch search) (checked : IsCheckedBook search.planner.now.book.now) (number : ℕ) (salvo : Struck) (numbered : IsNumbered search.planner.now.book.now.salvos number salvo) (at : Cell)
    (on : shift at.x at.y (alive salvo.raw.product) ≡ alive s.wanted.cells) (one : OneWay (search_site search)) (serving : ServingIsOne) (old_walk new_walk : Walk) (same : SameSearch search new) (may : MayBegin search salvo at)
    (walked : IsWalkedTo search old_walk new_walk number at true) where
  pub tried_some : (found : Option Trial) → IfSome found (IsLeft new salvo at new_walk.elbow) →
      IfSome found (IsTrial search.planner.now.book.now search.planner.now.placing.room (stand_of search old_walk.elbow) number old_walk new_walk)
  tried_some None h = tt
  tried_some (Some trial) h =
      is_trial search s checked old_walk.elbow number salvo numbered at on one serving walked.0 walked.1.0 new_walk.elbow walked.1.1.1 old_walk new_walk trial refl refl walked.1.1.0 may
      (left_before search new salvo at new_walk.elbow trial same h)

  pub tried_none : (found : Option Trial) → IfNone found (HasNoFarewell new salvo at new_walk.elbow) →
      IfNone found (NoneUsable search.planner.now.book.now search.planner.now.placing.room (stand_of search old_walk.elbow) number × AddsSome old_walk new_walk)
  tried_none None h = (
    not_said search s checked old_walk.elbow number salvo numbered at on one serving walked.0 walked.1.0 new_walk.elbow walked.1.1.1 (none_before search new salvo at new_walk.elbow same h),
    (walked.1.0, walked.1.1.0),
  )
  tried_none (Some trial) h = tt
