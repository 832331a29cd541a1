-- A clock shows what has been, turn by turn and hit by hit.
use Rattle.std.proofs.Common.{◌≡◌, ℕ, ◌+◌, ◌≤◌, ℤ, pos, ◌+ℤ◌, ◌-ℤ◌, ◌*ℤ◌, List, [], ◌∷◌, ◌++◌, length, map, take, drop, reverse, Option, length-append, sym, ap, subst, ◌∙◌, arith, inl}
use Rattle.std.specs.List.{AllByRecursion}
use Rattle.std.specs.declared.option.Option.TheVariants.{Some, None}
use Rattle.std.proofs.lemmas.Int.{ints}
use Rattle.std.proofs.lemmas.List.{reverse-append, take-append-drop, take-append-le}
use Rattle.life_plane.specs.ListLaws.{all_append, all_front, all_back}
use Rattle.book_parts.specs.declared.settings.Settings.{Settings}
use Rattle.book_parts.specs.declared.turn.RawTurn.{RawTurn}
use Rattle.book_parts.specs.declared.turn.TurnEnd.{TurnEnd}
use Rattle.book_parts.specs.declared.turn.TurnEnd.TheVariants.{Close, Move, Emit}
use Rattle.recipe_hit.specs.declared.frame.HitFrame.{HitFrame}
use Rattle.event_times.specs.TimedTurns.{Timed, Thrown, throw_after, IsBehindTurn, IsBehindThrow}
use Rattle.event_times.specs.Events.{History, HasBeen, IsSpared, SparesHits, MayHappen, StartsEarliest, history_after, hits_with}
use Rattle.event_times.specs.Events.Event.{Turn, Hit}
use Rattle.event_times.specs.Least.{been, IsBehindTime, IsBehindSent, SparesThese, MayStartThen}
use Rattle.event_times.specs.declared.least.TurnTime.{TurnTime}
use Rattle.event_times.specs.declared.least.Sent.{Sent}
use Rattle.event_times.specs.declared.least.HitTime.{HitTime}
use Rattle.event_times.specs.declared.clock.Clock.{Clock}
use Rattle.event_times.specs.Clock.{emission_of, sent_after, AreOver, AreOverAfter, TurnIsAdded, AddsHit, HitIsAdded, time_of, throw_of, Shows}

-- ---- the three clauses are those of what has been

behind_turn : (o : Option Timed) (start : ℕ) → IsBehindTime (time_of o) start → IsBehindTurn o start
behind_turn None start h = h
behind_turn (Some m) start h = h

after_turn : (o : Option Timed) (start : ℕ) → IsBehindTurn o start → IsBehindTime (time_of o) start
after_turn None start h = h
after_turn (Some m) start h = h

behind_throw : (settings : Settings) (o : Option Sent) (start : ℕ) → IsBehindSent settings.reach o start → IsBehindThrow settings (throw_of o) start
behind_throw settings None start h = h
behind_throw settings (Some sent) start h = h

after_throw : (settings : Settings) (o : Option Sent) (start : ℕ) → IsBehindThrow settings (throw_of o) start → IsBehindSent settings.reach o start
after_throw settings None start h = h
after_throw settings (Some sent) start h = h

-- what holds of each of some hits, whichever comes first
module _ (P : HasBeen → Type 0) where
  to_been : (hits : List HitTime) → AllByRecursion (λ (hit : HitTime). P (been hit)) hits → AllByRecursion P (map been hits)
  to_been [] h = tt
  to_been (hit ∷ hits) h = (h.0, to_been hits h.1)

  from_been : (hits : List HitTime) → AllByRecursion P (map been hits) → AllByRecursion (λ (hit : HitTime). P (been hit)) hits
  from_been [] h = tt
  from_been (hit ∷ hits) h = (h.0, from_been hits h.1)

each_turned : {X : Type 0} (P : X → Type 0) (xs : List X) → AllByRecursion P xs → AllByRecursion P (reverse xs)
each_turned P [] h = tt
each_turned P (x ∷ xs) h = subst (AllByRecursion P) (sym (reverse-append (x ∷ []) xs)) (all_append P (reverse xs) (x ∷ []) (each_turned P xs h.1) (h.0, tt))

turned_each : {X : Type 0} (P : X → Type 0) (xs : List X) → AllByRecursion P (reverse xs) → AllByRecursion P xs
turned_each P [] h = tt
turned_each P (x ∷ xs) h =
    let both = subst (AllByRecursion P) (reverse-append (x ∷ []) xs) h in
    ((all_back P (reverse xs) (x ∷ []) both).0, turned_each P xs (all_front P (reverse xs) (x ∷ []) both))

-- hits that are over are spared
over_spared : (thrown : ℕ) (lane j : ℤ) (hits : List HitTime) → AreOver thrown hits → AllByRecursion (λ (hit : HitTime). IsSpared thrown lane j (been hit)) hits
over_spared thrown lane j [] h = tt
over_spared thrown lane j (hit ∷ hits) h = (let before = h.0 in inl (omega (arith, ints)), over_spared thrown lane j hits h.1)

over_later : (time later : ℕ) (hits : List HitTime) → time ≤ later → AreOver time hits → AreOver later hits
over_later time later [] l h = tt
over_later time later (hit ∷ hits) l h = (let before = h.0 in omega arith, over_later time later hits l h.1)

-- those that are no longer looked at, when a turn starts that may
pub still_over : (before : Option TurnTime) (hits : List HitTime) (start n : ℕ) → AreOverAfter before hits → IsBehindTime before start → AreOver (start + n) hits
still_over None hits start n over behind = subst (AreOver (start + n)) (sym over) tt
still_over (Some turn) hits start n over behind = let after = behind.0 in over_later turn.end (start + n) hits (omega arith) over

module _ (settings : Settings) (past : History) (clock : Clock) (shows : Shows past clock) (turn : RawTurn) (shift : ℤ) where
  abbrev at : ℕ → Timed
  at start = record { turn = turn; shift = shift; start = start }

  abbrev live : List HitTime
  live = drop clock.over clock.hits.items

  may_then : (start : ℕ) → MayHappen settings past (at start) → MayStartThen settings.reach clock.before clock.sent turn.n (emission_of turn.end shift) live start
  may_then start may = record {
    behind_turn = subst (λ (o : Option TurnTime). IsBehindTime o start) (sym shows.turn) (after_turn past.past.turn start may.start.turn);
    behind_glider = after_throw settings clock.sent start (subst (λ (o : Option Thrown). IsBehindThrow settings o start) shows.throw may.start.throw);
    spares = by turn.end may.spares;
  }
    where
      by : (e : TurnEnd) → SparesHits e (at start) past.hits → SparesThese (start + turn.n) (emission_of e shift) live
      by Close h = tt
      by (Move kind advance) h = tt
      by (Emit kind advance lane j) h =
          let P : HasBeen → Type 0 = IsSpared (start + turn.n) (lane +ℤ pos 2 *ℤ shift) (j -ℤ pos 4 *ℤ shift) in
          let all = turned_each (λ (hit : HitTime). P (been hit)) clock.hits.items (from_been P (reverse clock.hits.items) (subst (AllByRecursion P) shows.hits h)) in
          all_back (λ (hit : HitTime). P (been hit)) (take clock.over clock.hits.items) live
          (subst (AllByRecursion (λ (hit : HitTime). P (been hit))) (sym (take-append-drop clock.over clock.hits.items)) all)

  then_may : (start : ℕ) → MayStartThen settings.reach clock.before clock.sent turn.n (emission_of turn.end shift) live start → MayHappen settings past (at start)
  then_may start may = record {
    start = record {
      turn = behind_turn past.past.turn start (subst (λ (o : Option TurnTime). IsBehindTime o start) shows.turn may.behind_turn);
      throw = subst (λ (o : Option Thrown). IsBehindThrow settings o start) (sym shows.throw) (behind_throw settings clock.sent start may.behind_glider);
    };
    spares = by turn.end may.spares;
  }
    where
      by : (e : TurnEnd) → SparesThese (start + turn.n) (emission_of e shift) live → SparesHits e (at start) past.hits
      by Close h = tt
      by (Move kind advance) h = tt
      by (Emit kind advance lane j) h =
          let P : HasBeen → Type 0 = IsSpared (start + turn.n) (lane +ℤ pos 2 *ℤ shift) (j -ℤ pos 4 *ℤ shift) in
          let over = over_spared (start + turn.n) (lane +ℤ pos 2 *ℤ shift) (j -ℤ pos 4 *ℤ shift) (take clock.over clock.hits.items)
          (still_over clock.before (take clock.over clock.hits.items) start turn.n shows.kept.past may.behind_turn) in
          let all = subst (AllByRecursion (λ (hit : HitTime). P (been hit))) (take-append-drop clock.over clock.hits.items)
          (all_append (λ (hit : HitTime). P (been hit)) (take clock.over clock.hits.items) live over h) in
          subst (AllByRecursion P) (sym shows.hits) (to_been P (reverse clock.hits.items) (each_turned (λ (hit : HitTime). P (been hit)) clock.hits.items all))

  -- a turn that was added starts as early as it may
  pub added_earliest : (new : Clock) (added : TurnIsAdded settings.reach turn shift clock new) → StartsEarliest settings past (at added.start)
  added_earliest new added = record {
    may = then_may added.start added.least.may;
    least = λ other may. added.least.least other (may_then other may);
  }

  -- and the clock shows it
  pub added_shown : (new : Clock) (added : TurnIsAdded settings.reach turn shift clock new) → Shows (history_after past (Turn (at added.start))) new
  added_shown new added = record {
    turn = added.before;
    throw = by turn.end added.sent;
    hits = shows.hits ∙ ap (λ (hits : List HitTime). map been (reverse hits)) (sym added.hits);
    kept = added.kept;
  }
    where
      by : (e : TurnEnd) → new.sent ≡ sent_after (emission_of e shift) (added.start + turn.n) clock.sent → throw_after e (at added.start) past.past.throw ≡ throw_of new.sent
      by Close is = shows.throw ∙ ap throw_of (sym is)
      by (Move kind advance) is = shows.throw ∙ ap throw_of (sym is)
      by (Emit kind advance lane j) is = ap throw_of (sym is)

-- a hit that was added is shown
pub hit_shown : (past : History) (old new : Clock) (frame : HitFrame) (generations : ℕ) → Shows past old → HitIsAdded frame generations old new →
    Shows (history_after past (Hit (record { frame = frame; generations = generations }))) new
hit_shown past old new frame generations shows added = record {
  turn = added.before ∙ shows.turn;
  throw = shows.throw ∙ ap throw_of (sym added.sent);
  hits = ap (λ (o : Option Thrown). hits_with o (record { frame = frame; generations = generations }) past.hits) shows.throw ∙ by old.sent added.hits;
  kept = record {
    within = longer old.sent added.hits;
    past = subst (λ (o : Option TurnTime). AreOverAfter o (take new.over new.hits.items)) (sym added.before)
        (subst (AreOverAfter old.before) (sym (same_first old.sent added.hits)) shows.kept.past);
  };
}
  where
    by : (o : Option Sent) → AddsHit o frame generations old.hits.items new.hits.items → hits_with (throw_of o) (record { frame = frame; generations = generations }) past.hits ≡ map been (reverse new.hits.items)
    by None is = shows.hits ∙ ap (λ (hits : List HitTime). map been (reverse hits)) (sym is)
    by (Some sent) (ended, (at, is)) =
        (λ i. record { ended = sym at i; bounds = frame.bounds } ∷ shows.hits i)
        ∙ ap (map been) (sym (reverse-append old.hits.items (record { end = ended; bounds = frame.bounds } ∷ [])))
        ∙ ap (λ (hits : List HitTime). map been (reverse hits)) (sym is)

    longer : (o : Option Sent) → AddsHit o frame generations old.hits.items new.hits.items → new.over ≤ length new.hits.items
    longer None is = let kept = shows.kept.within in let over = added.over in let same = ap length is in omega arith
    longer (Some sent) (ended, (at, is)) =
        let kept = shows.kept.within in
        let over = added.over in
        let more = ap length is ∙ length-append old.hits.items (record { end = ended; bounds = frame.bounds } ∷ []) in
        omega arith

    same_first : (o : Option Sent) → AddsHit o frame generations old.hits.items new.hits.items → take new.over new.hits.items ≡ take old.over old.hits.items
    same_first None is = (λ i. take (added.over i) (is i))
    same_first (Some sent) (ended, (at, is)) =
        (λ i. take (added.over i) (is i)) ∙ take-append-le old.over old.hits.items (record { end = ended; bounds = frame.bounds } ∷ []) shows.kept.within
