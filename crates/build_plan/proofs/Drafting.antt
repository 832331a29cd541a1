-- Drafts that grow by an island.
use Rattle.std.specs.Prelude.{◌≡◌, ℕ, zero, suc, ◌+◌, ◌<◌, ◌≤◌, ◌^◌, ◌-ℤ◌, List, [], ◌∷◌, ◌++◌, length, drop, get_or, Option}
use Rattle.std.specs.List.{AllByRecursion}
use Rattle.std.specs.declared.option.Option.TheVariants.{Some, None}
use Rattle.std.specs.Option.{option_or}
use Rattle.std.proofs.Common.{refl, sym, ap, subst, ◌∙◌, arith, append-nil, length-append}
use Rattle.std.proofs.Math.Seq.{drop-append_seam, drop-cons}
use Rattle.std.proofs.lemmas.List.{drop-drop}
use Rattle.std.proofs.lemmas.Option.{slice_get-get_or}
use Rattle.life_plane.specs.Plane.{Plane, union}
use Rattle.life_cells.specs.declared.cell.Cell.{Cell}
use Rattle.life_cells.specs.declared.bounds.Bounds.{Bounds}
use Rattle.life_cells.specs.Boxes.{IsCellInRange}
use Rattle.life_cells.specs.Cells.{Cells, alive, cell}
use Rattle.life_cells.specs.Laws.{alive-empty}
use Rattle.life_islands.specs.Islands.{IsNoted}
use Rattle.life_islands.specs.Order.{AreInOrder}
use Rattle.life_islands.specs.declared.island.Island.{Island}
use Rattle.elbow_graph.specs.Numbered.{IsNumbered}
use Rattle.elbow_graph.specs.declared.elbow.Elbow.{Elbow}
use Rattle.recipe_hit.specs.Sound.{IsWhole}
use Rattle.recipe_turn.specs.Checked.{raws}
use Rattle.recipe_book.specs.Checked.{CheckedEntries, IsCheckedBook}
use Rattle.build_plan.specs.declared.draft.Draft.{Draft}
use Rattle.build_plan.specs.declared.event.Event.{Event}
use Rattle.build_plan.specs.declared.placing.Placing.{Placing}
use Rattle.build_plan.specs.declared.trial.Trial.{Trial}
use Rattle.build_plan.specs.declared.walk.Walk.{Walk}
use Rattle.build_plan.specs.Drafts.{AreNear, AreLeft, IsFirstDraft, stand_at, HasFarewell, first_or, TakesOne, IsDraftTo}
use Rattle.build_plan.specs.Fits.{Fits, IsOutside, AreLeftAfter}
use Rattle.elbow_graph.specs.NumberedLaws.{numbered_from_at}
use Rattle.build_plan.specs.Plan.{most_gliders, first_stand, TakeOn, taken_events, first_place, gliders_in}
use Rattle.build_plan.specs.ServedWalk.{AddsEvents}
use Rattle.build_plan.specs.Stand.{Stand}
use Rattle.build_plan.specs.Stops.{Reaches, HasNoRecipe, IsLongAtSalvo}
use Rattle.build_plan.specs.Trials.{IsHandIn, IsFirstUsable, farewell_events, farewell_elbow}
use Rattle.build_plan.specs.Usable.{Taken, product_of, hand_after, IsUsable, IsTaken, MayLeave, SaysFarewell, stand_after}
use Rattle.build_plan.proofs.FromBook.{sound_salvos}
use Rattle.build_plan.proofs.Gliders.{gliders_both, events_both}
use Rattle.build_plan.proofs.OnIsland.{fits_on, rest_left}
use Rattle.recipe_book.specs.EntryLaws.{those_once}

-- ---- the islands from a place on

-- a list from a place on begins with an item
pub record IsSplit {X : Type 0} (xs : List X) (place : ℕ) : Type 0 where
  pub first : X
  pub others : List X
  pub is : drop place xs ≡ first ∷ others

pub split : {X : Type 0} (xs : List X) (place : ℕ) → place < length xs → IsSplit xs place
split [] place lt = absurd (omega arith)
split (x ∷ xs) zero lt = record { first = x; others = xs; is = refl }
split (x ∷ xs) (suc place) lt = let rest = split xs place (omega arith) in record { first = rest.first; others = rest.others; is = rest.is }

each_from : {X : Type 0} (P : X → Type 0) (xs : List X) (place : ℕ) → AllByRecursion P xs → AllByRecursion P (drop place xs)
each_from P [] zero all = all
each_from P [] (suc place) all = all
each_from P (x ∷ xs) zero all = all
each_from P (x ∷ xs) (suc place) all = each_from P xs place all.1

order_from : (xs : List Island) (place : ℕ) → AreInOrder xs → AreInOrder (drop place xs)
order_from [] zero order = order
order_from [] (suc place) order = order
order_from (x ∷ xs) zero order = order
order_from (x ∷ xs) (suc place) order = order_from xs place order.1

pub left_from : (islands : List Island) (place : ℕ) → AreNear islands → place < length islands → AreLeft (drop place islands)
left_from islands place near lt =
    let s = split islands place lt in
    record {
      wanted = s.first;
      others = s.others;
      left_is = s.is;
      target = near.target;
      islands = record { noted = each_from (IsNoted near.target) islands place near.islands.noted; in_order = order_from islands place near.islands.in_order };
      near = near.near;
    }

-- the first cell of an island
noted_at : (P : Island → Type 0) (islands : List Island) (place : ℕ) (d : Island) → AllByRecursion P islands → place < length islands → P (get_or islands place d)
noted_at P [] place d all lt = absurd (omega arith)
noted_at P (x ∷ xs) zero d all lt = all.0
noted_at P (x ∷ xs) (suc place) d all lt = noted_at P xs place d all.1 (omega arith)

pub first_near : (islands : List Island) (place : ℕ) (d : Island) → AreNear islands → place < length islands → IsCellInRange (2 ^ 40) (get_or islands place d).first
first_near islands place d near lt =
    let i = get_or islands place d in
    let noted = noted_at (IsNoted near.target) islands place d near.islands.noted lt in
    let lives = noted.is.within i.first noted.first.is in
    record { x_low = near.near.x_low i.first.x i.first.y lives; x_high = near.near.x_high i.first.x i.first.y lives; y_low = near.near.y_low i.first.x i.first.y lives; y_high = near.near.y_high i.first.x i.first.y lives }

-- ---- one salvo more is taken

module _ (book : CheckedEntries) (room : Bounds) where
  take_one_more : (from to : Stand) (all : List Taken) (next : Taken) → TakeOn book room from all to → IsTaken book room to next → TakeOn book room from (all ++ next ∷ []) (stand_after to next)
  take_one_more from to [] next takes is = (subst (λ (s : Stand). IsTaken book room s next) takes is, ap (λ (s : Stand). stand_after s next) takes)
  take_one_more from to (first ∷ all) next takes is = (takes.0, take_one_more (stand_after from first) to all next takes.1 is)

  events_more : (all : List Taken) (next : Taken) → taken_events (all ++ next ∷ []) ≡ taken_events all ++ next.events
  events_more all next = events_both all (next ∷ []) ∙ ap (λ (l : List Event). taken_events all ++ l) (append-nil next.events)

  gliders_more : (all : List Taken) (next : Taken) → gliders_in book (taken_events (all ++ next ∷ [])) ≡ gliders_in book (taken_events all) + gliders_in book next.events
  gliders_more all next = ap (gliders_in book) (events_more all next) ∙ gliders_both (raws book.turns) (taken_events all) next.events

  first_more : (all : List Taken) (next : Taken) (first : Option Cell) → first ≡ first_place all → first_or first next.place ≡ first_place (all ++ next ∷ [])
  first_more [] next first is = ap (λ (f : Option Cell). first_or f next.place) is
  first_more (taken ∷ all) next first is = ap (λ (f : Option Cell). first_or f next.place) is

  module _ (islands : List Island) (place : ℕ) (old : Draft) (d : IsDraftTo book room islands place old) where
    count_more : (new : Draft) (t : TakesOne book room old (drop place islands) new) → new.gliders ≡ gliders_in book (taken_events (d.taken ++ t.taken ∷ []))
    count_more new t = t.gliders ∙ ap (λ (n : ℕ). n + gliders_in book t.taken.events) d.gliders_are ∙ sym (gliders_more d.taken t.taken)

    pub built_more : (new : Draft) → TakesOne book room old (drop place islands) new → new.gliders ≤ most_gliders → IsDraftTo book room islands (place + 1) new
    built_more new t few = record {
      taken = d.taken ++ t.taken ∷ [];
      takes = subst (TakeOn book room (first_stand book islands) (d.taken ++ t.taken ∷ [])) (sym (ap (stand_at new) (sym left) ∙ t.stand_is))
          (take_one_more (first_stand book islands) (stand_at old (drop place islands)) d.taken t.taken d.takes t.is_taken);
      events_are = t.events ∙ ap (λ (l : List Event). l ++ t.taken.events) d.events_are ∙ sym (events_more d.taken t.taken);
      gliders_are = count_more new t;
      few = few;
      first_is = t.first_is ∙ first_more d.taken t.taken old.first_hand d.first_is;
      hand = t.hand;
      farewell = subst (HasFarewell book room new) left t.farewell;
    }
      where
        left : t.taken.left ≡ drop (place + 1) islands
        left = t.left_is ∙ drop-drop 1 place islands

    pub few_so_far : gliders_in book (taken_events d.taken) ≤ most_gliders
    few_so_far = subst (λ (n : ℕ). n ≤ most_gliders) d.gliders_are d.few

-- nothing is taken yet
pub built_none : (book : CheckedEntries) (room : Bounds) (islands : List Island) (draft : Draft) → IsFirstDraft book draft → IsDraftTo book room islands 0 draft
built_none book room islands draft f = record {
  taken = [];
  takes = λ i. record { elbow = f.elbow_is i; place = f.no_hand i; built = (ap alive f.none_built ∙ alive-empty) i; left = islands };
  events_are = f.no_events;
  gliders_are = f.no_gliders;
  few = subst (λ (n : ℕ). n ≤ most_gliders) (sym f.no_gliders) (omega arith);
  first_is = f.no_first;
  hand = subst (IsHandIn room) (sym f.no_hand) tt;
  farewell = λ none.
      subst (λ (h : Option Cell). SaysFarewell book room (alive draft.built) h draft.walk.elbow (farewell_events draft.farewell) (farewell_elbow draft.walk.elbow draft.farewell)) (sym f.no_hand)
      (ap farewell_events f.no_farewell, ap (farewell_elbow draft.walk.elbow) f.no_farewell);
}

-- ---- where planning stops at an island

module _ (book : CheckedEntries) (placing : Placing) (islands : List Island) (place : ℕ) (old : Draft) (d : IsDraftTo book placing.room islands place old) where
  reached : Reaches book placing islands d.taken (stand_at old (drop place islands))
  reached = record { takes = d.takes; few = few_so_far book placing.room islands place old d }

  pub long_there : (new : Draft) → TakesOne book placing.room old (drop place islands) new → most_gliders < new.gliders → IsLongAtSalvo book placing islands new.gliders
  long_there new t more = record {
    taken = d.taken;
    stand = stand_at old (drop place islands);
    reaches = reached;
    next = t.taken;
    is_next = t.is_taken;
    count_is = count_more book placing.room islands place old d new t;
    more = more;
  }

  pub none_there : (island : Island) → place < length islands → island ≡ get_or islands place island → ((taken : Taken) → IsUsable book placing.room (stand_at old (drop place islands)) taken → ⊥) → (at : Cell) →
      at ≡ cell (island.first.x -ℤ placing.by.x) (island.first.y -ℤ placing.by.y) → HasNoRecipe book placing islands (place + 1) at
  none_there island lt is none at at_is =
      let there = slice_get-get_or islands place island lt in
      let number : suc place ≡ place + 1 = omega arith in
      record {
        taken = d.taken;
        stand = stand_at old (drop place islands);
        reaches = reached;
        island = island;
        others = drop (suc place) islands;
        left_is = drop-cons islands place island lt ∙ ap (λ (i : Island). i ∷ drop (suc place) islands) (sym is);
        none = none;
        number_is = subst (λ (k : ℕ). IsNumbered islands k island) number (numbered_from_at islands place island (there ∙ ap Some (sym is)));
        at_is = at_is;
      }

-- what was walked before is within what was walked
pub walked_before : (old new : Walk) (more : List Event) → AddsEvents old new more → length old.events.items ≤ length new.events.items
walked_before old new more adds = let e = ap (λ (l : List Event). length l) adds ∙ length-append old.events.items more in omega arith

-- the place of the first hand
pub first_is_or : (first : Option Cell) (at : Cell) → option_or first (Some at) ≡ first_or first at
first_is_or None at = refl
first_is_or (Some first) at = refl

-- ---- what is taken for the first of the islands left

module _ (book : CheckedEntries) (room : Bounds) (checked : IsCheckedBook book) (old : Draft) (left : List Island) (l : AreLeft left) (walk : Walk) (trial : Trial) (f : IsFirstUsable book room (stand_at old left) old.walk walk trial) where
  abbrev taken : Taken
  taken = f.is_trial.taken

  usable : IsUsable book room (stand_at old left) taken
  usable = f.is_trial.usable

  whole : IsWhole (alive taken.salvo.raw.product)
  whole = (sound_salvos book checked taken.number taken.salvo usable.numbered).sound.whole

  on : product_of taken ≡ alive l.wanted.cells
  on = fits_on (alive taken.salvo.raw.product) l.wanted l.others taken.place (subst (λ (x : List Island). Fits x (alive taken.salvo.raw.product) taken.place) l.left_is usable.fits) whole

  others_left : taken.left ≡ drop 1 left
  others_left =
      those_once (IsOutside (product_of taken)) left taken.left l.others usable.left_after
      (subst (λ (x : List Island). AreLeftAfter x (product_of taken) l.others) (sym l.left_is)
      (rest_left l.target l.wanted l.others (product_of taken) (subst (AllByRecursion (IsNoted l.target)) l.left_is l.islands.noted) (subst AreInOrder l.left_is l.islands.in_order) on))
      ∙ sym (ap (drop 1) l.left_is)

  hand_there : (hand : Option Cell) (built : Plane) (elbow : Elbow) (after : List Island) → MayLeave book room built hand elbow after → IsHandIn room hand
  hand_there None built elbow after h = tt
  hand_there (Some place) built elbow after h = h.0

  built_is : (d : Island) → union (alive old.built) (alive (get_or left 0 d).cells) ≡ union (alive old.built) (product_of taken)
  built_is d = ap (λ (x : List Island). union (alive old.built) (alive (get_or x 0 d).cells)) l.left_is ∙ ap (union (alive old.built)) (sym on)

  pub takes_one : (built : Cells) (gliders : ℕ) (first : Option Cell) (d : Island) → alive built ≡ union (alive old.built) (alive (get_or left 0 d).cells) →
      gliders ≡ old.gliders + gliders_in book (drop (length old.walk.events.items) walk.events.items) → first ≡ first_or old.first_hand trial.at →
      TakesOne book room old left (record { walk = walk; gliders = gliders; first_hand = first; hand = trial.hand; built = built; farewell = trial.farewell })
  takes_one built gliders first d built_with count first_is = record {
    taken = taken;
    is_taken = record { usable = usable; least = λ other u. subst (λ (n : ℕ). n ≤ other.number) (sym f.is_trial.number_is) (f.least other u) };
    left_is = others_left;
    stand_is = λ i. record { elbow = f.is_trial.elbow i; place = f.is_trial.hand i; built = now_built i; left = taken.left };
    events = f.is_trial.events;
    gliders = count ∙ ap (λ (events : List Event). old.gliders + gliders_in book events) (ap (drop (length old.walk.events.items)) f.is_trial.events ∙ drop-append_seam old.walk.events.items taken.events);
    first_is = first_is ∙ ap (first_or old.first_hand) f.is_trial.at;
    hand = subst (IsHandIn room) (sym f.is_trial.hand) (hand_there (hand_after taken) (union (alive old.built) (product_of taken)) taken.elbow taken.left usable.leaves);
    farewell = λ none.
        subst (λ (e : Elbow). SaysFarewell book room (alive built) trial.hand e (farewell_events trial.farewell) (farewell_elbow e trial.farewell)) (sym f.is_trial.elbow)
        (subst (λ (p : Plane). SaysFarewell book room p trial.hand taken.elbow (farewell_events trial.farewell) (farewell_elbow taken.elbow trial.farewell)) (sym now_built) (f.is_trial.farewell none));
  }
    where
      now_built : alive built ≡ union (alive old.built) (product_of taken)
      now_built = built_with ∙ built_is d
