-- For a target there is at most one plan or one stop, and not both.
use Rattle.std.specs.Prelude.{◌≡◌, ◌≢◌, ℕ, zero, suc, ◌+◌, ◌≤◌, ℤ, ◌-ℤ◌, true, List, [], ◌∷◌, ◌++◌}
use Rattle.std.proofs.Common.{refl, sym, ap, subst, ◌∙◌, arith, inl, inr}
use Rattle.life_plane.specs.Plane.{Plane, nothing}
use Rattle.life_cells.specs.Boxes.{IsLeastBox}
use Rattle.life_cells.specs.BoxLaws.{one_least_box}
use Rattle.life_cells.specs.declared.bounds.Bounds.{Bounds}
use Rattle.life_cells.specs.declared.cell.Cell.{Cell}
use Rattle.life_cells.specs.Cells.{cell}
use Rattle.life_islands.specs.Islands.{AreIslands}
use Rattle.life_islands.specs.IslandLaws.{one_list, IsAmong, each_among}
use Rattle.life_islands.specs.Order.{ComesBefore, AreInOrder}
use Rattle.life_islands.specs.OrderLaws.{not_before_itself}
use Rattle.life_islands.specs.declared.island.Island.{Island}
use Rattle.book_parts.specs.declared.settings.Settings.{Settings}
use Rattle.elbow_graph.specs.Elbows.{elbow}
use Rattle.elbow_graph.specs.declared.elbow.Elbow.{Elbow}
use Rattle.elbow_graph.specs.Numbered.{IsNumbered}
use Rattle.elbow_route.specs.Lists.{ClosesBy}
use Rattle.recipe_turn.specs.Checked.{raws}
use Rattle.recipe_book.specs.Checked.{CheckedEntries}
use Rattle.build_plan.specs.declared.event.Event.{Event}
use Rattle.build_plan.specs.declared.error.PlanError.{PlanError}
use Rattle.build_plan.specs.declared.error.PlanError.TheVariants.{NoRecipe, NoClosing, StreamLong, Memory}
use Rattle.build_plan.specs.declared.placing.Placing.{Placing}
use Rattle.build_plan.specs.declared.event.Plan.{Plan}
use Rattle.build_plan.specs.Placing.{IsPlacing, moved_target, to_corner, room_about}
use Rattle.build_plan.specs.Stand.{Stand}
use Rattle.build_plan.specs.TurnEvents.{turn_events}
use Rattle.build_plan.specs.Usable.{Taken, IsTaken}
use Rattle.build_plan.specs.Plan.{most_gliders, first_stand, TakeOn, taken_events, Course, IsCourse, all_events, gliders_in, IsPlanFor, IsPlan, SamePlan, first_place}
use Rattle.build_plan.specs.Stops.{HasNoRecipe, HasNoClosing, IsLongAtSalvo, IsLongAtClosing, StopsFor, StopsThere, PlanStops}
use Rattle.build_plan.proofs.Leasts.{LeastAreOne}
use Rattle.build_plan.proofs.Gliders.{gliders_both}
use Rattle.build_plan.proofs.OneTaken.{heads_same}
use Rattle.build_plan.proofs.OnePlan.{some_left, end_of_all, same_end, long_before_end, long_once, course_once, closing_once}

-- ---- the place of a target

not_both : (target : Plane) (box : Bounds) → target ≡ nothing → IsLeastBox box target → ⊥
not_both target box none least =
    let lives : nothing least.lives.0 least.lives.1.0 ≡ true = subst (λ (s : Plane). s least.lives.0 least.lives.1.0 ≡ true) none least.lives.1.1 in cc

pub placing_once : (settings : Settings) (target : Plane) (a b : Placing) → IsPlacing settings target a → IsPlacing settings target b → a ≡ b
placing_once settings target a b (inl h) (inl k) = λ i. record { by = (h.by_none ∙ sym k.by_none) i; room = (h.no_room ∙ sym k.no_room) i }
placing_once settings target a b (inl h) (inr k) = absurd (not_both target k.box h.empty k.least)
placing_once settings target a b (inr h) (inl k) = absurd (not_both target h.box k.empty h.least)
placing_once settings target a b (inr h) (inr k) =
    let boxes : h.box ≡ k.box = one_least_box target h.box k.box h.least k.least in
    let by : a.by ≡ b.by = h.by_is ∙ ap (to_corner settings.corner) boxes ∙ sym k.by_is in
    let room : a.room ≡ b.room = h.room_is ∙ (λ i. room_about settings (by i) (boxes i)) ∙ sym k.room_is in
    λ i. record { by = by i; room = room i }

-- ---- the number of an island

-- an island with a number is among them
among_numbered : (islands : List Island) (k : ℕ) (a : Island) → IsNumbered islands (suc k) a → IsAmong islands a
among_numbered [] k a h = absurd h
among_numbered (b ∷ islands) zero a h = inl (sym h)
among_numbered (b ∷ islands) (suc k) a h = inr (among_numbered islands k a h)

-- islands in order have one number each
number_once : (islands : List Island) → AreInOrder islands → (j k : ℕ) (a : Island) → IsNumbered islands j a → IsNumbered islands k a → j ≡ k
number_once [] order j k a h l = absurd h
number_once (b ∷ islands) order zero k a h l = absurd h
number_once (b ∷ islands) order (suc j) zero a h l = absurd l
number_once (b ∷ islands) order (suc zero) (suc zero) a h l = refl
number_once (b ∷ islands) order (suc zero) (suc (suc k)) a h l =
    absurd (not_before_itself b (subst (ComesBefore b) h (each_among (ComesBefore b) islands a order.0 (among_numbered islands k a l))))
number_once (b ∷ islands) order (suc (suc j)) (suc zero) a h l =
    absurd (not_before_itself b (subst (ComesBefore b) l (each_among (ComesBefore b) islands a order.0 (among_numbered islands j a h))))
number_once (b ∷ islands) order (suc (suc j)) (suc (suc k)) a h l = ap suc (number_once islands order.1 (suc j) (suc k) a h l)

module _ (one : LeastAreOne) (book : CheckedEntries) (placing : Placing) (islands : List Island) where
  abbrev room : Bounds
  room = placing.room

  -- ---- plans

  plans_are_one_for : (a b : Plan) → IsPlanFor book placing islands a → IsPlanFor book placing islands b → SamePlan a b
  plans_are_one_for a b h k =
      let course = course_once one book room islands h.course k.course h.is_course k.is_course in
      let closing = closing_once one book room h.course k.course h.closing k.closing course h.least k.least in
      record {
        events = h.events_are ∙ (λ i. all_events book (course i) (closing i)) ∙ sym k.events_are;
        first_hand = h.first_is ∙ (λ i. first_place (course i).taken) ∙ sym k.first_is;
        back = h.back_is ∙ sym k.back_is;
      }

  -- the part of a plan that is taken has few gliders too
  few_taken : (course : Course) (closing : List ℕ) → gliders_in book (all_events book course closing) ≤ most_gliders → gliders_in book (taken_events course.taken) ≤ most_gliders
  few_taken course closing few = let both : gliders_in book (all_events book course closing) ≡ gliders_in book (taken_events course.taken) + gliders_in book (course.farewell ++ turn_events (raws book.turns) course.elbow closing) = gliders_both (raws book.turns) (taken_events course.taken) (course.farewell ++ turn_events (raws book.turns) course.elbow closing) in omega arith

  -- ---- ends of what is taken

  -- salvos are taken, few gliders so far, until the planner stands where none is taken
  record Ends : Type 0 where
    taken : List Taken
    stand : Stand
    takes : TakeOn book room (first_stand book islands) taken stand
    few : gliders_in book (taken_events taken) ≤ most_gliders
    end : (next : Taken) → IsTaken book room stand next → ⊥

  abbrev of_course : (course : Course) → IsCourse book room islands course → gliders_in book (taken_events course.taken) ≤ most_gliders → Ends
  of_course course c few = record { taken = course.taken; stand = course.last; takes = c.takes; few = few; end = end_of_all one book room course.last c.all_built }

  abbrev of_recipe : (number : ℕ) (at : Cell) → HasNoRecipe book placing islands number at → Ends
  of_recipe number at h = record { taken = h.taken; stand = h.stand; takes = h.reaches.takes; few = h.reaches.few; end = λ next t. h.none next t.usable }

  one_stand : (a b : Ends) → a.stand ≡ b.stand
  one_stand a b = (same_end one book room (first_stand book islands) a.stand b.stand a.taken b.taken a.takes b.takes a.end b.end).stands

  not_long : (count : ℕ) → Ends → IsLongAtSalvo book placing islands count → ⊥
  not_long count e l =
      long_before_end one book room (first_stand book islands) l.stand e.stand l.taken e.taken l.next l.reaches.takes e.takes e.end e.few l.is_next
      (let c = l.count_is in let more = l.more in omega arith)

  -- all is built in one, and an island is left in the other
  not_built : (number : ℕ) (at : Cell) (course : Course) → IsCourse book room islands course → gliders_in book (taken_events course.taken) ≤ most_gliders → HasNoRecipe book placing islands number at → ⊥
  not_built number at course c few h =
      some_left h.island h.others (sym c.all_built ∙ ap (λ (s : Stand). s.left) (one_stand (of_course course c few) (of_recipe number at h)) ∙ h.left_is)

  -- ---- a stop excludes a plan

  stop_excludes : (plan : Plan) (stop : PlanError) → IsPlanFor book placing islands plan → StopsFor book placing islands stop → stop ≡ Memory
  stop_excludes plan (NoRecipe number at) p s = absurd (not_built number at p.course p.is_course (few_taken p.course p.closing (subst (λ (l : List Event). gliders_in book l ≤ most_gliders) p.events_are p.few)) s)
  stop_excludes plan (NoClosing kind shift) p s =
      absurd (s.none p.closing (subst (λ (c : Course). ClosesBy (raws book.turns) book.settings.span c.elbow p.closing) (course_once one book room islands p.course s.course p.is_course s.is_course) p.least.ends))
  stop_excludes plan (StreamLong count) p (inl s) =
      absurd (not_long count (of_course p.course p.is_course (few_taken p.course p.closing (subst (λ (l : List Event). gliders_in book l ≤ most_gliders) p.events_are p.few))) s)
  stop_excludes plan (StreamLong count) p (inr s) =
      let course = course_once one book room islands p.course s.course p.is_course s.is_course in
      let closing = closing_once one book room p.course s.course p.closing s.closing course p.least s.least in
      let same : gliders_in book plan.events.items ≡ count = ap (gliders_in book) (p.events_are ∙ (λ i. all_events book (course i) (closing i))) ∙ sym s.count_is in
      let few = p.few in let more = s.more in
      absurd (omega arith)
  stop_excludes plan Memory p s = refl

  -- ---- one stop

  same_elbow : (a b : Elbow) → a ≡ b → NoClosing a.kind a.shift ≡ NoClosing b.kind b.shift
  same_elbow a b e i = NoClosing (e i).kind (e i).shift

  recipe_once : (order : AreInOrder islands) (j k : ℕ) (c d : Cell) → HasNoRecipe book placing islands j c → HasNoRecipe book placing islands k d → NoRecipe j c ≡ NoRecipe k d
  recipe_once order j k c d h l =
      let stands = one_stand (of_recipe j c h) (of_recipe k d l) in
      let island : h.island ≡ l.island = heads_same h.island l.island h.others l.others (sym h.left_is ∙ ap (λ (s : Stand). s.left) stands ∙ l.left_is) in
      let number : j ≡ k = number_once islands order j k l.island (subst (IsNumbered islands j) island h.number_is) l.number_is in
      let at : c ≡ d = h.at_is ∙ (λ i. cell ((island i).first.x -ℤ placing.by.x) ((island i).first.y -ℤ placing.by.y)) ∙ sym l.at_is in
      λ i. NoRecipe (number i) (at i)

  closing_stop_once : (j k : ℕ) (s t : ℤ) → HasNoClosing book placing islands j s → HasNoClosing book placing islands k t → NoClosing j s ≡ NoClosing k t
  closing_stop_once j k s t h l =
      same_elbow (elbow j s) (elbow k t) (sym h.elbow_is ∙ ap (λ (c : Course). c.elbow) (course_once one book room islands h.course l.course h.is_course l.is_course) ∙ l.elbow_is)

  long_salvo_once : (m n : ℕ) → IsLongAtSalvo book placing islands m → IsLongAtSalvo book placing islands n → m ≡ n
  long_salvo_once m n h l =
      let e = h.count_is in let f = l.count_is in let more = h.more in let many = l.more in
      h.count_is ∙ ap (λ (t : List Taken). gliders_in book (taken_events t))
      (long_once one book room (first_stand book islands) h.stand l.stand h.taken l.taken h.next l.next h.reaches.takes l.reaches.takes h.reaches.few l.reaches.few h.is_next l.is_next (omega arith) (omega arith)) ∙ sym l.count_is

  long_closing_once : (m n : ℕ) → IsLongAtClosing book placing islands m → IsLongAtClosing book placing islands n → m ≡ n
  long_closing_once m n h l =
      let course = course_once one book room islands h.course l.course h.is_course l.is_course in
      let closing = closing_once one book room h.course l.course h.closing l.closing course h.least l.least in
      h.count_is ∙ (λ i. gliders_in book (all_events book (course i) (closing i))) ∙ sym l.count_is

  abbrev of_long : (n : ℕ) → IsLongAtClosing book placing islands n → Ends
  of_long n h = of_course h.course h.is_course h.few

  abbrev of_closing : (j : ℕ) (s : ℤ) → HasNoClosing book placing islands j s → Ends
  of_closing j s h = of_course h.course h.is_course h.few

  no_closing_list : (j n : ℕ) (s : ℤ) → HasNoClosing book placing islands j s → IsLongAtClosing book placing islands n → ⊥
  no_closing_list j n s h l =
      h.none l.closing (subst (λ (c : Course). ClosesBy (raws book.turns) book.settings.span c.elbow l.closing) (course_once one book room islands l.course h.course l.is_course h.is_course) l.least.ends)

  stop_once : AreInOrder islands → (e f : PlanError) → StopsFor book placing islands e → StopsFor book placing islands f → e ≢ Memory → f ≢ Memory → e ≡ f
  stop_once order Memory f h k e_is f_is = absurd (e_is refl)
  stop_once order (NoRecipe j c) (NoRecipe k d) h l e_is f_is = recipe_once order j k c d h l
  stop_once order (NoRecipe j c) (NoClosing k t) h l e_is f_is = absurd (not_built j c l.course l.is_course l.few h)
  stop_once order (NoRecipe j c) (StreamLong n) h (inl l) e_is f_is = absurd (not_long n (of_recipe j c h) l)
  stop_once order (NoRecipe j c) (StreamLong n) h (inr l) e_is f_is = absurd (not_built j c l.course l.is_course l.few h)
  stop_once order (NoRecipe j c) Memory h l e_is f_is = absurd (f_is refl)
  stop_once order (NoClosing j s) (NoRecipe k d) h l e_is f_is = absurd (not_built k d h.course h.is_course h.few l)
  stop_once order (NoClosing j s) (NoClosing k t) h l e_is f_is = closing_stop_once j k s t h l
  stop_once order (NoClosing j s) (StreamLong n) h (inl l) e_is f_is = absurd (not_long n (of_closing j s h) l)
  stop_once order (NoClosing j s) (StreamLong n) h (inr l) e_is f_is = absurd (no_closing_list j n s h l)
  stop_once order (NoClosing j s) Memory h l e_is f_is = absurd (f_is refl)
  stop_once order (StreamLong m) (NoRecipe k d) (inl h) l e_is f_is = absurd (not_long m (of_recipe k d l) h)
  stop_once order (StreamLong m) (NoRecipe k d) (inr h) l e_is f_is = absurd (not_built k d h.course h.is_course h.few l)
  stop_once order (StreamLong m) (NoClosing k t) (inl h) l e_is f_is = absurd (not_long m (of_closing k t l) h)
  stop_once order (StreamLong m) (NoClosing k t) (inr h) l e_is f_is = absurd (no_closing_list k m t l h)
  stop_once order (StreamLong m) (StreamLong n) (inl h) (inl l) e_is f_is = ap StreamLong (long_salvo_once m n h l)
  stop_once order (StreamLong m) (StreamLong n) (inl h) (inr l) e_is f_is = absurd (not_long m (of_long n l) h)
  stop_once order (StreamLong m) (StreamLong n) (inr h) (inl l) e_is f_is = absurd (not_long n (of_long m h) l)
  stop_once order (StreamLong m) (StreamLong n) (inr h) (inr l) e_is f_is = ap StreamLong (long_closing_once m n h l)
  stop_once order (StreamLong m) Memory h l e_is f_is = absurd (f_is refl)

-- ---- for a target

module _ (one : LeastAreOne) (book : CheckedEntries) (target : Plane) where
  -- where a target is built, with its islands, there
  record Lies : Type 0 where
    placing : Placing
    is_placing : IsPlacing book.settings target placing
    islands : List Island
    islands_are : AreIslands (moved_target target placing.by) islands

  -- what holds at one holds at the other
  moved_over : (P : Placing → List Island → Type 0) (a b : Lies) → P b.placing b.islands → P a.placing a.islands
  moved_over P a b p =
      let placing : b.placing ≡ a.placing = placing_once book.settings target b.placing a.placing b.is_placing a.is_placing in
      let islands : b.islands ≡ a.islands = one_list (moved_target target a.placing.by) b.islands a.islands
      (subst (λ (l : Placing). AreIslands (moved_target target l.by) b.islands) placing b.islands_are) a.islands_are in
      subst (P a.placing) islands (subst (λ (l : Placing). P l b.islands) placing p)

  abbrev lies_plan : (plan : Plan) → IsPlan book target plan → Lies
  lies_plan plan p = record { placing = p.placing; is_placing = p.is_placing; islands = p.islands; islands_are = p.islands_are }

  abbrev lies_stop : (stop : PlanError) → StopsThere book target stop → Lies
  lies_stop stop s = record { placing = s.placing; is_placing = s.is_placing; islands = s.islands; islands_are = s.islands_are }

  pub plan_once : (a b : Plan) → IsPlan book target a → IsPlan book target b → SamePlan a b
  plan_once a b h k = plans_are_one_for one book h.placing h.islands a b h.plans (moved_over (λ l i. IsPlanFor book l i b) (lies_plan a h) (lies_plan b k) k.plans)

  excludes : (plan : Plan) (stop : PlanError) → IsPlan book target plan → StopsThere book target stop → stop ≡ Memory
  excludes plan stop h k = stop_excludes one book h.placing h.islands plan stop h.plans (moved_over (λ l i. StopsFor book l i stop) (lies_plan plan h) (lies_stop stop k) k.stops)

  pub plan_or_stop : (plan : Plan) (stop : PlanError) → IsPlan book target plan → PlanStops book target stop → stop ≡ Memory
  plan_or_stop plan (NoRecipe island at) h k = excludes plan (NoRecipe island at) h k
  plan_or_stop plan (NoClosing kind shift) h k = excludes plan (NoClosing kind shift) h k
  plan_or_stop plan (StreamLong count) h k = excludes plan (StreamLong count) h k
  plan_or_stop plan Memory h k = refl

  stops_there : (stop : PlanError) → stop ≢ Memory → PlanStops book target stop → StopsThere book target stop
  stops_there (NoRecipe island at) other s = s
  stops_there (NoClosing kind shift) other s = s
  stops_there (StreamLong count) other s = s
  stops_there Memory other s = absurd (other refl)

  one_there : (e f : PlanError) → StopsThere book target e → StopsThere book target f → e ≢ Memory → f ≢ Memory → e ≡ f
  one_there e f h k = stop_once one book h.placing h.islands h.islands_are.in_order e f h.stops (moved_over (λ l i. StopsFor book l i f) (lies_stop e h) (lies_stop f k) k.stops)

  pub one_stop : (e f : PlanError) → PlanStops book target e → PlanStops book target f → e ≢ Memory → f ≢ Memory → e ≡ f
  one_stop e f h k e_is f_is = one_there e f (stops_there e e_is h) (stops_there f f_is k) e_is f_is
