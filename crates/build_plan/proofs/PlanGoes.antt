-- The events of a plan may come, and lead to what it builds.
use Rattle.std.specs.Prelude.{◌≡◌, ℕ, List, [], ◌∷◌, ◌++◌, Option}
use Rattle.std.specs.declared.option.Option.TheVariants.{Some, None}
use Rattle.std.proofs.Common.{refl, sym, ap, subst, ◌∙◌, inl, inr}
use Rattle.life_plane.specs.Plane.{Plane, union, shift}
use Rattle.life_plane.specs.PlaneLaws.{union_none}
use Rattle.life_cells.specs.Cells.{alive}
use Rattle.life_cells.specs.declared.cell.Cell.{Cell}
use Rattle.life_cells.specs.declared.bounds.Bounds.{Bounds}
use Rattle.life_islands.specs.declared.island.Island.{Island}
use Rattle.elbow_graph.specs.declared.elbow.Elbow.{Elbow}
use Rattle.elbow_graph.specs.Numbered.{IsNumbered}
use Rattle.elbow_route.specs.Lists.{ClosesBy}
use Rattle.recipe_hit.specs.Checked.{Struck}
use Rattle.recipe_turn.specs.Checked.{raws}
use Rattle.recipe_book.specs.Checked.{CheckedEntries, IsCheckedBook}
use Rattle.hand_route.specs.Clearings.{IsSalvoClear}
use Rattle.hand_route.specs.Moves.{Site, leaves_hand, OnlyMoves}
use Rattle.hand_route.specs.Lists as hand
use Rattle.plan_facts.specs.State.{State, Hand, first_hand, first_state}
use Rattle.plan_facts.specs.State.Hand.{Gone, Rests}
use Rattle.build_plan.specs.declared.event.Event.{Event}
use Rattle.build_plan.specs.Numbers.{item_of}
use Rattle.build_plan.specs.NumberLaws.{item_numbered}
use Rattle.build_plan.specs.TurnEvents.{turn_events}
use Rattle.build_plan.specs.Throws.{hits_of, salvo_throws, hit_throws, place_past, list_throws}
use Rattle.build_plan.specs.ThrowLaws.{past_there}
use Rattle.build_plan.specs.Served.{AreServed}
use Rattle.build_plan.specs.Stand.{Stand}
use Rattle.build_plan.specs.Usable.{Taken, product_of, site_of, IsWayIn, way_throws, SaysFarewell, MayLeave, IsUsable, stand_after}
use Rattle.build_plan.specs.Plan.{first_stand, TakeOn, taken_events, first_place, Course, IsCourse, all_events}
use Rattle.build_plan.proofs.ServedParts.{served_both}
use Rattle.build_plan.proofs.Goes.{Goes, goes_nowhere, goes_on, rests_at, closing_goes}
use Rattle.build_plan.proofs.SalvoGoes.{salvo_goes}
use Rattle.build_plan.proofs.FromBook.{sound_turns, sound_salvos}

module _ (book : CheckedEntries) (checked : IsCheckedBook book) where
  -- from an elbow and a hand at rest to others
  abbrev pub Leads : Elbow → Hand → Plane → List Event → Elbow → Hand → Plane → Type 0
  Leads from at built events to at' built' = Goes book (rests_at (Some from) None at built) events (rests_at (Some to) None at' built')

  -- the events of one salvo at a place
  one_goes : (built : Plane) (number : ℕ) (salvo : Struck) (place : Cell) (from to : Elbow) (events : List Event) → IsNumbered book.salvos number salvo → IsSalvoClear book.settings built salvo place →
      AreServed (raws book.turns) book.settings.span from (salvo_throws book.salvos number place) events to →
      Leads from (Rests place) built events to (first_hand (leaves_hand salvo place)) (union built (shift place.x place.y (alive salvo.raw.product)))
  one_goes built number salvo place from to events numbered clear served =
      let sound = sound_salvos book checked number salvo numbered in
      salvo_goes book (sound_turns book checked) built number salvo place numbered sound.sound from to events sound.some clear
      (subst (λ (o : Option Struck). AreServed (raws book.turns) book.settings.span from (hit_throws number place 1 (hits_of o)) events to) (item_numbered book.salvos number salvo numbered) served)

  -- a salvo that only moves the hand builds nothing
  move_goes : (site : Site) → site.settings ≡ book.settings → site.salvos ≡ book.salvos → (number : ℕ) (salvo : Struck) (place : Cell) (from to : Elbow) (events : List Event) → OnlyMoves site number place salvo →
      AreServed (raws book.turns) book.settings.span from (salvo_throws book.salvos number place) events to → Leads from (Rests place) site.built events to (first_hand (leaves_hand salvo place)) site.built
  move_goes site settings_are salvos_are number salvo place from to events m served =
      subst (λ (b : Plane). Leads from (Rests place) site.built events to (first_hand (leaves_hand salvo place)) b)
      (ap (λ (s : Plane). union site.built (shift place.x place.y s)) m.builds_nothing ∙ union_none site.built)
      (one_goes site.built number salvo place from to events (subst (λ (l : List Struck). IsNumbered l number salvo) salvos_are m.numbered) (subst (λ s. IsSalvoClear s site.built salvo place) settings_are m.clear) served)

  -- the way of a hand
  way_goes : (room : Bounds) (built : Plane) (place to : Cell) (list : List ℕ) (from at : Elbow) (events : List Event) → hand.IsHandList (site_of book room built) place list to →
      AreServed (raws book.turns) book.settings.span from (list_throws book.salvos place list) events at → Leads from (Rests place) built events at (Rests to) built
  way_goes room built place to [] from at events leads served =
      subst (λ (l : List Event). Leads from (Rests place) built l at (Rests to) built) (sym served.0)
      (subst (λ (s : State). Goes book (rests_at (Some from) None (Rests place) built) [] s) (λ i. rests_at (Some (sym served.1 i)) None (Rests (sym leads i)) built)
      (goes_nowhere book (rests_at (Some from) None (Rests place) built)))
  way_goes room built place to (k ∷ ks) from at events (between, (carries, more)) served =
      let both = served_both (raws book.turns) book.settings.span (salvo_throws book.salvos k place) (list_throws book.salvos (place_past (item_of book.salvos k) place) ks) from at events served in
      let past = past_there book.salvos k carries.salvo place between carries.moves.numbered carries.leaves in
      subst (λ (l : List Event). Leads from (Rests place) built l at (Rests to) built) (sym both.events_are)
      (goes_on book (rests_at (Some from) None (Rests place) built) (rests_at (Some both.middle) None (Rests between) built) (rests_at (Some at) None (Rests to) built) both.before both.after
      (subst (λ (p : Option Cell). Leads from (Rests place) built both.before both.middle (first_hand p) built) carries.leaves
      (move_goes (site_of book room built) refl refl k carries.salvo place from both.middle both.before carries.moves both.first_served))
      (way_goes room built between to ks both.middle at both.after more
      (subst (λ (p : Cell). AreServed (raws book.turns) book.settings.span both.middle (list_throws book.salvos p ks) both.after at) past both.second_served)))

  -- a farewell
  away_goes : (room : Bounds) (built : Plane) (place : Cell) (list : List ℕ) (from at : Elbow) (events : List Event) → hand.IsFarewell (site_of book room built) place list →
      AreServed (raws book.turns) book.settings.span from (list_throws book.salvos place list) events at → Leads from (Rests place) built events at Gone built
  away_goes room built place [] from at events says served = absurd says
  away_goes room built place (k ∷ ks) from at events (inl last) served =
      let both = served_both (raws book.turns) book.settings.span (salvo_throws book.salvos k place) (list_throws book.salvos (place_past (item_of book.salvos k) place) ks) from at events served in
      let rest : AreServed (raws book.turns) book.settings.span both.middle [] both.after at =
      subst (λ (l : List ℕ). AreServed (raws book.turns) book.settings.span both.middle (list_throws book.salvos (place_past (item_of book.salvos k) place) l) both.after at) last.1 both.second_served in
      subst (λ (l : List Event). Leads from (Rests place) built l at Gone built) (sym both.events_are)
      (goes_on book (rests_at (Some from) None (Rests place) built) (rests_at (Some both.middle) None Gone built) (rests_at (Some at) None Gone built) both.before both.after
      (subst (λ (p : Option Cell). Leads from (Rests place) built both.before both.middle (first_hand p) built) last.0.gone
      (move_goes (site_of book room built) refl refl k last.0.salvo place from both.middle both.before last.0.moves both.first_served))
      (subst (λ (l : List Event). Leads both.middle Gone built l at Gone built) (sym rest.0)
      (subst (λ (e : Elbow). Leads both.middle Gone built [] e Gone built) (sym rest.1) (goes_nowhere book (rests_at (Some both.middle) None Gone built)))))
  away_goes room built place (k ∷ ks) from at events (inr (between, (carries, more))) served =
      let both = served_both (raws book.turns) book.settings.span (salvo_throws book.salvos k place) (list_throws book.salvos (place_past (item_of book.salvos k) place) ks) from at events served in
      let past = past_there book.salvos k carries.salvo place between carries.moves.numbered carries.leaves in
      subst (λ (l : List Event). Leads from (Rests place) built l at Gone built) (sym both.events_are)
      (goes_on book (rests_at (Some from) None (Rests place) built) (rests_at (Some both.middle) None (Rests between) built) (rests_at (Some at) None Gone built) both.before both.after
      (subst (λ (p : Option Cell). Leads from (Rests place) built both.before both.middle (first_hand p) built) carries.leaves
      (move_goes (site_of book room built) refl refl k carries.salvo place from both.middle both.before carries.moves both.first_served))
      (away_goes room built between ks both.middle at both.after more
      (subst (λ (p : Cell). AreServed (raws book.turns) book.settings.span both.middle (list_throws book.salvos p ks) both.after at) past both.second_served)))

  -- ---- what is taken

  module _ (room : Bounds) where
    -- the planner's stand as a state
    abbrev pub state_of : Stand → State
    state_of stand = rests_at (Some stand.elbow) None (first_hand stand.place) stand.built

    -- what is taken leads on: where the hand rests at its place, and where the first hand stands there
    salvo_leads : (stand : Stand) (taken : Taken) (from : Elbow) (events : List Event) → IsUsable book room stand taken →
        AreServed (raws book.turns) book.settings.span from (salvo_throws book.salvos taken.number taken.place) events taken.elbow →
        Goes book (rests_at (Some from) None (Rests taken.place) stand.built) events (state_of (stand_after stand taken))
    salvo_leads stand taken from events u served = one_goes stand.built taken.number taken.salvo taken.place from taken.elbow events u.numbered u.clear served

    taken_leads : (stand : Stand) (taken : Taken) (place : Cell) → IsUsable book room stand taken → stand.place ≡ Some place →
        Goes book (rests_at (Some stand.elbow) None (Rests place) stand.built) taken.events (state_of (stand_after stand taken))
    taken_leads stand taken place u at =
        let way : hand.IsLeastHandList (site_of book room stand.built) place taken.way taken.place = subst (λ (p : Option Cell). IsWayIn (site_of book room stand.built) p taken.way taken.place) at u.way in
        let served : AreServed (raws book.turns) book.settings.span stand.elbow (list_throws book.salvos place taken.way ++ salvo_throws book.salvos taken.number taken.place) taken.events taken.elbow =
        subst (λ (p : Option Cell). AreServed (raws book.turns) book.settings.span stand.elbow (way_throws book.salvos p taken.way taken.number taken.place) taken.events taken.elbow) at u.served in
        let both = served_both (raws book.turns) book.settings.span (list_throws book.salvos place taken.way) (salvo_throws book.salvos taken.number taken.place) stand.elbow taken.elbow taken.events served in
        subst (λ (l : List Event). Goes book (rests_at (Some stand.elbow) None (Rests place) stand.built) l (state_of (stand_after stand taken))) (sym both.events_are)
        (goes_on book (rests_at (Some stand.elbow) None (Rests place) stand.built) (rests_at (Some both.middle) None (Rests taken.place) stand.built) (state_of (stand_after stand taken)) both.before both.after
        (way_goes room stand.built place taken.place taken.way stand.elbow both.middle both.before way.leads both.first_served)
        (salvo_leads stand taken both.middle both.after u both.second_served))

    first_leads : (stand : Stand) (taken : Taken) → IsUsable book room stand taken → stand.place ≡ None →
        Goes book (rests_at (Some stand.elbow) None (Rests taken.place) stand.built) taken.events (state_of (stand_after stand taken))
    first_leads stand taken u none =
        salvo_leads stand taken stand.elbow taken.events u
        (subst (λ (p : Option Cell). AreServed (raws book.turns) book.settings.span stand.elbow (way_throws book.salvos p taken.way taken.number taken.place) taken.events taken.elbow) none u.served)

    -- there is no hand only where no island is left
    abbrev HasHand : Stand → Type 0
    HasHand stand = stand.place ≡ None → stand.left ≡ []

    hand_after_it : (stand : Stand) (taken : Taken) → IsUsable book room stand taken → HasHand (stand_after stand taken)
    hand_after_it stand taken u none = subst (λ (p : Option Cell). MayLeave book room (union stand.built (product_of taken)) p taken.elbow taken.left) none u.leaves

    some_left : (island : Island) (others : List Island) → island ∷ others ≡ [] → ⊥
    some_left island others e = cc

    -- all that is taken leads on
    takes_lead : (stand last : Stand) (all : List Taken) → HasHand stand → TakeOn book room stand all last → Goes book (state_of stand) (taken_events all) (state_of last)
    takes_lead stand last [] has takes = subst (λ (s : Stand). Goes book (state_of stand) [] (state_of s)) (sym takes) (goes_nowhere book (state_of stand))
    takes_lead stand last (taken ∷ more) has takes =
        goes_on book (state_of stand) (state_of (stand_after stand taken)) (state_of last) taken.events (taken_events more) (by stand.place refl)
        (takes_lead (stand_after stand taken) last more (hand_after_it stand taken takes.0.usable) takes.1)
      where
        by : (p : Option Cell) → stand.place ≡ p → Goes book (state_of stand) taken.events (state_of (stand_after stand taken))
        by None is = absurd (some_left takes.0.usable.fits.wanted takes.0.usable.fits.others (sym takes.0.usable.fits.left_is ∙ has is))
        by (Some p) is =
            subst (λ (q : Option Cell). Goes book (rests_at (Some stand.elbow) None (first_hand q) stand.built) taken.events (state_of (stand_after stand taken))) (sym is)
            (taken_leads stand taken p takes.0.usable is)

    -- from the first stand on, with the first hand at its place
    first_lead : (islands : List Island) (last : Stand) (all : List Taken) → TakeOn book room (first_stand book islands) all last →
        Goes book (first_state book.start (first_place all)) (taken_events all) (state_of last)
    first_lead islands last [] takes =
        subst (λ (s : Stand). Goes book (first_state book.start None) [] (state_of s)) (sym takes) (goes_nowhere book (first_state book.start None))
    first_lead islands last (taken ∷ more) takes =
        goes_on book (first_state book.start (Some taken.place)) (state_of (stand_after (first_stand book islands) taken)) (state_of last) taken.events (taken_events more)
        (first_leads (first_stand book islands) taken takes.0.usable refl)
        (takes_lead (stand_after (first_stand book islands) taken) last more (hand_after_it (first_stand book islands) taken takes.0.usable) takes.1)

    farewell_goes : (built : Plane) (place : Option Cell) (from to : Elbow) (events : List Event) → SaysFarewell book room built place from events to → Leads from (first_hand place) built events to Gone built
    farewell_goes built None from to events f =
        subst (λ (l : List Event). Leads from Gone built l to Gone built) (sym f.0) (subst (λ (e : Elbow). Leads from Gone built [] e Gone built) (sym f.1) (goes_nowhere book (rests_at (Some from) None Gone built)))
    farewell_goes built (Some place) from to events (list, (least, served)) = away_goes room built place list from to events least.ends served

    -- a whole plan leads to what its course builds
    pub plan_goes : (islands : List Island) (course : Course) (closing : List ℕ) → IsCourse book room islands course → ClosesBy (raws book.turns) book.settings.span course.elbow closing →
        Goes book (first_state book.start (first_place course.taken)) (all_events book course closing) (rests_at None None Gone course.last.built)
    plan_goes islands course closing c closes =
        goes_on book (first_state book.start (first_place course.taken)) (state_of course.last) (rests_at None None Gone course.last.built) (taken_events course.taken) (course.farewell ++ turn_events (raws book.turns) course.elbow closing)
        (first_lead islands course.last course.taken c.takes)
        (goes_on book (state_of course.last) (rests_at (Some course.elbow) None Gone course.last.built) (rests_at None None Gone course.last.built) course.farewell (turn_events (raws book.turns) course.elbow closing)
        (farewell_goes course.last.built course.last.place course.last.elbow course.elbow course.farewell c.farewell)
        (closing_goes book (sound_turns book checked) Gone course.last.built course.elbow closing closes))
