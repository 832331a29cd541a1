-- Where all islands are built: the farewell, and the turns that close the elbow.
use Rattle.std.specs.Prelude.{◌≡◌, ℕ, ◌+◌, ◌<◌, ◌≤◌, List, [], ◌++◌, length, drop}
use Rattle.std.proofs.Common.{sym, ap, subst, ◌∙◌, arith, append_assoc}
use Rattle.std.proofs.Math.Seq.{drop-append_seam}
use Rattle.std.proofs.lemmas.List.{drop_all}
use Rattle.life_islands.specs.declared.island.Island.{Island}
use Rattle.elbow_graph.specs.declared.elbow.Elbow.{Elbow}
use Rattle.elbow_route.specs.Lists.{ClosesBy, IsLeastClosing}
use Rattle.recipe_turn.specs.Checked.{raws}
use Rattle.recipe_book.specs.Checked.{CheckedEntries}
use Rattle.build_plan.specs.declared.draft.Draft.{Draft}
use Rattle.build_plan.specs.declared.event.Event.{Event}
use Rattle.build_plan.specs.declared.placing.Placing.{Placing}
use Rattle.build_plan.specs.declared.event.Plan.{Plan}
use Rattle.build_plan.specs.Drafts.{stand_at, IsWholeDraft}
use Rattle.build_plan.specs.Placing.{back_of}
use Rattle.build_plan.specs.Plan.{most_gliders, taken_events, Course, IsCourse, all_events, gliders_in, IsPlanFor}
use Rattle.build_plan.specs.Stops.{HasNoClosing, IsLongAtClosing}
use Rattle.build_plan.specs.Trials.{farewell_events, farewell_elbow}
use Rattle.build_plan.specs.TurnEvents.{turn_events}
use Rattle.build_plan.proofs.Drafting.{few_so_far}
use Rattle.build_plan.proofs.Gliders.{gliders_both}

module _ (book : CheckedEntries) (placing : Placing) (islands : List Island) (draft : Draft) (d : IsWholeDraft book placing.room islands draft) where
  abbrev course : Course
  course = record { taken = d.taken; last = stand_at draft (drop (length islands) islands); farewell = farewell_events draft.farewell; elbow = farewell_elbow draft.walk.elbow draft.farewell }

  none_left : drop (length islands) islands ≡ []
  none_left = drop_all (length islands) islands (omega arith)

  is_course : IsCourse book placing.room islands course
  is_course = record { takes = d.takes; all_built = none_left; farewell = d.farewell none_left }

  few : gliders_in book (taken_events d.taken) ≤ most_gliders
  few = few_so_far book placing.room islands (length islands) draft d

  pub no_closing : (at : Elbow) → at ≡ course.elbow → ((list : List ℕ) → ClosesBy (raws book.turns) book.settings.span at list → ⊥) → HasNoClosing book placing islands at.kind at.shift
  no_closing at is none = record {
    course = course;
    is_course = is_course;
    few = few;
    elbow_is = sym is;
    none = λ list closes. none list (subst (λ (e : Elbow). ClosesBy (raws book.turns) book.settings.span e list) (sym is) closes);
  }

  -- what was walked since the last island, and then all
  module _ (at : Elbow) (is : at ≡ course.elbow) (closing : List ℕ) (closes : IsLeastClosing (raws book.turns) book.settings.span at closing) (events : List Event)
      (are : events ≡ (draft.walk.events.items ++ farewell_events draft.farewell) ++ turn_events (raws book.turns) at closing) (count : ℕ)
      (count_is : count ≡ draft.gliders + gliders_in book (drop (length draft.walk.events.items) events)) where
    abbrev last_events : List Event
    last_events = farewell_events draft.farewell ++ turn_events (raws book.turns) course.elbow closing

    least : IsLeastClosing (raws book.turns) book.settings.span course.elbow closing
    least = subst (λ (e : Elbow). IsLeastClosing (raws book.turns) book.settings.span e closing) is closes

    in_two : events ≡ draft.walk.events.items ++ last_events
    in_two =
        are
        ∙ append_assoc draft.walk.events.items (farewell_events draft.farewell) (turn_events (raws book.turns) at closing)
        ∙ ap (λ (e : Elbow). draft.walk.events.items ++ (farewell_events draft.farewell ++ turn_events (raws book.turns) e closing)) is

    events_are : events ≡ all_events book course closing
    events_are = in_two ∙ ap (λ (l : List Event). l ++ last_events) d.events_are

    counted : count ≡ gliders_in book (all_events book course closing)
    counted =
        count_is
        ∙ (λ i. d.gliders_are i + gliders_in book ((ap (drop (length draft.walk.events.items)) in_two ∙ drop-append_seam draft.walk.events.items last_events) i))
        ∙ sym (gliders_both (raws book.turns) (taken_events d.taken) last_events)

    pub long_closing : most_gliders < count → IsLongAtClosing book placing islands count
    long_closing more = record { course = course; is_course = is_course; few = few; closing = closing; least = least; count_is = counted; more = more }

    pub plan_there : (plan : Plan) → plan.events.items ≡ events → plan.first_hand ≡ draft.first_hand → plan.back ≡ back_of placing.by → count ≤ most_gliders → IsPlanFor book placing islands plan
    plan_there plan same first back enough = record {
      course = course;
      is_course = is_course;
      closing = closing;
      least = least;
      events_are = same ∙ events_are;
      few = subst (λ (n : ℕ). n ≤ most_gliders) (counted ∙ ap (gliders_in book) (sym (same ∙ events_are))) enough;
      first_is = first ∙ d.first_is;
      back_is = back;
    }
