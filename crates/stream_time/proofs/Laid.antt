-- The gliders of a plan's turns, laid out one turn after the other.
use Rattle.std.proofs.Common.{◌≡◌, ℕ, zero, suc, ◌+◌, ◌<◌, ◌≤◌, ℤ, List, [], ◌∷◌, length, get_or, drop, refl, sym, ap, subst, ◌∙◌, arith}
use Rattle.std.proofs.Math.Seq.{drop-cons}
use Rattle.std.proofs.lemmas.List.{at_drop_all}
use Rattle.life_plane.specs.PlaneLaws.{union_assoc, union_none}
use Rattle.life_plane.specs.Plane.{Plane, union, same_plane}
use Rattle.life_cells.specs.Listed.{listed}
use Rattle.life_cells.specs.declared.cell.Cell.{Cell}
use Rattle.book_parts.specs.declared.turn.RawTurn.{RawTurn}
use Rattle.elbow_graph.specs.Numbered.{IsNumbered}
use Rattle.elbow_graph.specs.NumberedLaws.{numbered_once}
use Rattle.recipe_turn.specs.Checked.{raws}
use Rattle.recipe_book.specs.Checked.{CheckedEntries}
use Rattle.event_times.specs.TimedTurns.{Timed}
use Rattle.event_times.specs.Events.{turn_gliders, stream_of}
use Rattle.plan_facts.specs.Happenings.{SalvoHit, Happening, events_of}
use Rattle.plan_facts.specs.Happenings.Happening.{Turns, Hits}
use Rattle.build_plan.specs.declared.event.Event.{Event}
use Rattle.build_plan.specs.declared.event.Event.TheVariants.{Turn, Hit}
use Rattle.build_plan.specs.Happenings.{AllStandFor}
use Rattle.stream_time.specs.InTime.{starts_of}
use Rattle.stream_time.specs.Laying.{AreStarted}

-- the item at a place, and those behind it
record IsNext {X : Type 0} (xs : List X) (place : ℕ) (x : X) (rest : List X) : Type 0 where
  within : place < length xs
  there : (d : X) → get_or xs place d ≡ x
  behind : drop (place + 1) xs ≡ rest

next_of : {X : Type 0} (xs : List X) (place : ℕ) (x : X) (rest : List X) → drop place xs ≡ x ∷ rest → IsNext xs place x rest
next_of [] zero x rest h = absurd (cc)
next_of [] (suc k) x rest h = absurd (cc)
next_of (y ∷ xs) zero x rest h = record { within = omega arith; there = λ d. cc; behind = cc }
next_of (y ∷ xs) (suc k) x rest h =
    let n = next_of xs k x rest h in
    let within = n.within in
    let e : suc k + 1 ≡ suc (k + 1) = omega arith in
    record { within = omega arith; there = n.there; behind = ap (λ i. drop i (y ∷ xs)) e ∙ n.behind }

module _ (book : CheckedEntries) where
  -- the turns of so many events are laid out
  pub record IsLaid (events : List Event) (starts : List ℕ) (whole : List Happening) (place turn : ℕ) (cells : List Cell) : Type 0 where
    pub later : List Happening
    pub stand : AllStandFor book (drop place events) later
    pub starts_left : drop turn starts ≡ starts_of later
    pub laid : union (listed cells) (stream_of book.settings (events_of later)) ≡ stream_of book.settings (events_of whole)

  pub laid_begins : (events : List Event) (starts : List ℕ) (whole : List Happening) (cells : List Cell) → cells ≡ [] → AreStarted book events starts whole → IsLaid events starts whole 0 0 cells
  laid_begins events starts whole cells none started = record {
    later = whole;
    stand = started.stand;
    starts_left = started.starts_are;
    laid = rw none (same_plane _ _ (λ x y. refl));
  }

  -- a turn is next
  pub record NextTurn (number : ℕ) (shift : ℤ) (behind : List Event) (later : List Happening) : Type 0 where
    pub m : Timed
    pub rest : List Happening
    pub is : later ≡ Turns m ∷ rest
    pub numbered : IsNumbered (raws book.turns) number m.turn
    pub shift_is : m.shift ≡ shift
    pub stand : AllStandFor book behind rest

  next_turn : (number : ℕ) (shift : ℤ) (behind : List Event) (later : List Happening) → AllStandFor book (Turn number shift ∷ behind) later → NextTurn number shift behind later
  next_turn number shift behind [] stand = absurd stand
  next_turn number shift behind (Turns m ∷ rest) stand = record { m = m; rest = rest; is = refl; numbered = stand.0.0; shift_is = stand.0.1; stand = stand.1 }
  next_turn number shift behind (Hits h ∷ rest) stand = absurd stand.0

  record NextHit (behind : List Event) (later : List Happening) : Type 0 where
    h : SalvoHit
    rest : List Happening
    is : later ≡ Hits h ∷ rest
    stand : AllStandFor book behind rest

  next_hit : (number place : ℕ) (at : Cell) (behind : List Event) (later : List Happening) → AllStandFor book (Hit number place at ∷ behind) later → NextHit behind later
  next_hit number place at behind [] stand = absurd stand
  next_hit number place at behind (Turns m ∷ rest) stand = absurd stand.0
  next_hit number place at behind (Hits h ∷ rest) stand = record { h = h; rest = rest; is = refl; stand = stand.1 }

  module _ (events : List Event) (starts : List ℕ) (whole : List Happening) (place turn : ℕ) (cells : List Cell) (s : IsLaid events starts whole place turn cells) (lt : place < length events) (d : Event) where
    behind_is : drop place events ≡ get_or events place d ∷ drop (place + 1) events
    behind_is = drop-cons events place d lt ∙ ap (λ n. get_or events place d ∷ drop n events) (let e : suc place ≡ place + 1 = omega arith in e)

    stand_here : (e : Event) → get_or events place d ≡ e → AllStandFor book (e ∷ drop (place + 1) events) s.later
    stand_here e is = subst (λ (es : List Event). AllStandFor book es s.later) (behind_is ∙ ap (λ (x : Event). x ∷ drop (place + 1) events) is) s.stand

    module _ (number : ℕ) (shift : ℤ) (is : get_or events place d ≡ Turn number shift) where
      pub here : NextTurn number shift (drop (place + 1) events) s.later
      here = next_turn number shift (drop (place + 1) events) s.later (stand_here (Turn number shift) is)

      start_here : IsNext starts turn here.m.start (starts_of here.rest)
      start_here = next_of starts turn here.m.start (starts_of here.rest) (s.starts_left ∙ ap starts_of here.is)

      pub some_start : turn < length starts
      some_start = start_here.within

      pub some_turn : (turn : RawTurn) × IsNumbered (raws book.turns) number turn
      some_turn = (here.m.turn, here.numbered)

      pub turn_laid : (new : List Cell) (read : RawTurn) (k : ℕ) → IsNumbered (raws book.turns) number read → listed new ≡ union (listed cells) (turn_gliders book.settings (record { turn = read; shift = shift; start = get_or starts turn k })) →
          IsLaid events starts whole (place + 1) (turn + 1) new
      turn_laid new read k numbered more =
          let same : here.m.turn ≡ read = numbered_once (raws book.turns) number here.m.turn read here.numbered numbered in
          record {
            later = here.rest;
            stand = here.stand;
            starts_left = start_here.behind;
            laid =
                ap (λ (p : Plane). union p (stream_of book.settings (events_of here.rest))) more
                ∙ union_assoc (listed cells) _ (stream_of book.settings (events_of here.rest))
                ∙ (λ i. union (listed cells) (union (turn_gliders book.settings (record { turn = sym same i; shift = sym here.shift_is i; start = start_here.there k i })) (stream_of book.settings (events_of here.rest))))
                ∙ ap (λ (hs : List Happening). union (listed cells) (stream_of book.settings (events_of hs))) (sym here.is)
                ∙ s.laid;
          }

    pub hit_laid : (number at_place : ℕ) (at : Cell) → get_or events place d ≡ Hit number at_place at → IsLaid events starts whole (place + 1) turn cells
    hit_laid number at_place at is =
        let n = next_hit number at_place at (drop (place + 1) events) s.later (stand_here (Hit number at_place at) is) in
        record {
          later = n.rest;
          stand = n.stand;
          starts_left = s.starts_left ∙ ap starts_of n.is;
          laid = ap (λ (hs : List Happening). union (listed cells) (stream_of book.settings (events_of hs))) (sym n.is) ∙ s.laid;
        }

  none_later : (later : List Happening) → AllStandFor book [] later → later ≡ []
  none_later [] stand = refl
  none_later (h ∷ later) stand = absurd stand

  pub laid_ends : (events : List Event) (starts : List ℕ) (whole : List Happening) (place turn : ℕ) (cells : List Cell) → length events ≤ place → IsLaid events starts whole place turn cells →
      listed cells ≡ stream_of book.settings (events_of whole)
  laid_ends events starts whole place turn cells long s =
      let none : s.later ≡ [] = none_later s.later (subst (λ (es : List Event). AllStandFor book es s.later) (at_drop_all (λ (es : List Event). es) events place long) s.stand) in
      sym (union_none (listed cells)) ∙ ap (λ (hs : List Happening). union (listed cells) (stream_of book.settings (events_of hs))) (sym none) ∙ s.laid
