-- Salvos tried one after the other, and what is found.
use Rattle.std.specs.Prelude.{◌≡◌, ◌⊎◌, ℕ, zero, suc, false, true, ◌+◌, ◌<◌, ◌≤◌, List, [], ◌∷◌, ◌++◌, length, take, get_or, Option, IfSome, IfNone}
use Rattle.std.specs.List.{slice_get}
use Rattle.std.specs.declared.option.Option.TheVariants.{Some, None}
use Rattle.std.specs.Option.{is_some}
use Rattle.std.proofs.Common.{sym, ap, subst, ◌∙◌, arith, inl, inr}
use Rattle.std.proofs.Math.Seq.{take-append_seam}
use Rattle.std.proofs.lemmas.Bool.{cases_lt}
use Rattle.std.proofs.lemmas.Grind.{get_or_default_zero}
use Rattle.life_plane.specs.ListLaws.{each_at}
use Rattle.life_plane.specs.NumberLaws.{lt_or_same}
use Rattle.life_cells.specs.Cells.{alive}
use Rattle.life_islands.specs.declared.island.Island.{Island}
use Rattle.elbow_graph.specs.declared.elbow.Elbow.{Elbow}
use Rattle.elbow_graph.specs.Numbered.{IsNumbered}
use Rattle.recipe_book.specs.Checked.{IsCheckedBook}
use Rattle.recipe_book.specs.ByShape.{AreAscending, AreNumbersOf, IsNumberOf}
use Rattle.build_plan.specs.declared.search.Search.{Search}
use Rattle.build_plan.specs.declared.trial.Trial.{Trial}
use Rattle.build_plan.specs.declared.walk.Walk.{Walk}
use Rattle.build_plan.specs.declared.event.Event.{Event}
use Rattle.build_plan.specs.Fits.{Fits}
use Rattle.build_plan.specs.NumberLaws.{item_numbered}
use Rattle.build_plan.specs.Usable.{Taken, IsUsable}
use Rattle.build_plan.specs.Trials.{IsSearch, SameSearch, with_ways, stand_of, IsTrial, NoneUsable, AddsSome, IsFirstUsable}
use Rattle.build_plan.proofs.FromBook.{sound_salvos}
use Rattle.build_plan.proofs.OnIsland.{fits_shape}

-- the salvos with the numbers before a place were tried: none is usable, and the walk and the search are as before
pub record AreTried (first : Search) (start : Walk) (numbers : List ℕ) (place : ℕ) (now : Search) (walk : Walk) : Type 0 where
  pub search : IsSearch now
  pub same : SameSearch first now
  pub elbow_is : walk.elbow ≡ start.elbow
  pub events_are : walk.events.items ≡ start.events.items
  pub none : (k : ℕ) → k < place → NoneUsable first.planner.now.book.now first.planner.now.placing.room (stand_of first start.elbow) (get_or numbers k 0)

-- ---- numbers in a list

ascends : (xs : List ℕ) (i j : ℕ) → AreAscending xs → i ≤ j → j < length xs → get_or xs i 0 ≤ get_or xs j 0
ascends [] i j h le lt = absurd (omega arith)
ascends (x ∷ xs) zero zero h le lt = omega arith
ascends (x ∷ xs) zero (suc j) h le lt = let l = each_at (λ later. x < later) xs h.0 j 0 (omega arith) in omega arith
ascends (x ∷ xs) (suc i) zero h le lt = absurd (omega arith)
ascends (x ∷ xs) (suc i) (suc j) h le lt = ascends xs i j h.1 (omega arith) (omega arith)

-- a number in a book is one past a place
pub record HasPlace {X : Type 0} (xs : List X) (k : ℕ) (x : X) : Type 0 where
  pub place : ℕ
  pub number_is : k ≡ place + 1
  pub there : slice_get xs place ≡ Some x

number_place : {X : Type 0} (xs : List X) (k : ℕ) (x : X) → IsNumbered xs k x → HasPlace xs k x
number_place xs zero x h = absurd (let none = item_numbered xs zero x h in cc)
number_place xs (suc place) x h = record { place = place; number_is = omega arith; there = item_numbered xs (suc place) x h }

-- ---- what is usable builds the shape of the first island

number_of_shape : (search : Search) (s : IsSearch search) → IsCheckedBook search.planner.now.book.now → (elbow : Elbow) (taken : Taken) →
    IsUsable search.planner.now.book.now search.planner.now.placing.room (stand_of search elbow) taken → IsNumberOf search.planner.now.book.now.salvos (alive search.shape) taken.number
number_of_shape search s checked elbow taken u =
    let book = search.planner.now.book.now in
    let at = number_place book.salvos taken.number taken.salvo u.numbered in
    let whole = (sound_salvos book checked taken.number taken.salvo u.numbered).sound.whole in
    let fits = subst (λ (l : List Island). Fits l (alive taken.salvo.raw.product) taken.place) s.left_is u.fits in
    let some = fits_shape (alive taken.salvo.raw.product) (alive search.shape) s.wanted s.others taken.place search.corner fits whole s.shape_is in
    record { place = at.place; number_is = at.number_is; salvo = taken.salvo; there = at.there; builds = record { place = some.place; is = some.is } }

-- ---- the salvos of a shape in turn

module _ (first : Search) (s : IsSearch first) (checked : IsCheckedBook first.planner.now.book.now) (start : Walk) (numbers : List ℕ) (are : AreNumbersOf first.planner.now.book.now.salvos (alive first.shape) numbers) where
  -- the number at a place is that of a salvo that builds the shape
  pub number_at : (place : ℕ) (now : Search) → SameSearch first now → place < length numbers → IsNumberOf now.planner.now.book.now.salvos (alive now.shape) (get_or numbers place 0)
  number_at place now same lt =
      subst (λ (x : Search). IsNumberOf x.planner.now.book.now.salvos (alive x.shape) (get_or numbers place 0)) (sym same)
      (each_at (IsNumberOf first.planner.now.book.now.salvos (alive first.shape)) numbers are.each place 0 lt)

  -- what is usable has a number at some place
  pub record StandsAt (number : ℕ) : Type 0 where
    pub place : ℕ
    pub few : place < length numbers
    pub is : get_or numbers place 0 ≡ number

  stands_at : (taken : Taken) → IsUsable first.planner.now.book.now first.planner.now.placing.room (stand_of first start.elbow) taken → StandsAt taken.number
  stands_at taken u =
      let c = are.all taken.number (number_of_shape first s checked start.elbow taken u) in
      record { place = c.0; few = c.1; is = sym (get_or_default_zero numbers c.0 taken.number c.1) ∙ c.2 }

  -- where all were tried, none is usable
  pub none_usable : (place : ℕ) (now : Search) (walk : Walk) → length numbers ≤ place → AreTried first start numbers place now walk → (taken : Taken) →
      IsUsable first.planner.now.book.now first.planner.now.placing.room (stand_of first start.elbow) taken → ⊥
  none_usable place now walk all t taken u =
      let at = stands_at taken u in
      let few = at.few in
      t.none at.place (omega arith) taken u (sym at.is)

  -- the first that is usable is the least
  pub found_first : (place : ℕ) (now : Search) (walk new : Walk) (found : Option Trial) → place < length numbers → AreTried first start numbers place now walk →
      IfSome found (IsTrial now.planner.now.book.now now.planner.now.placing.room (stand_of now walk.elbow) (get_or numbers place 0) walk new) →
      IfSome found (IsFirstUsable first.planner.now.book.now first.planner.now.placing.room (stand_of first start.elbow) start new)
  found_first place now walk new None lt tried h = tt
  found_first place now walk new (Some trial) lt tried h =
      let t : IsTrial first.planner.now.book.now first.planner.now.placing.room (stand_of first walk.elbow) (get_or numbers place 0) walk new trial =
      subst (λ (x : Search). IsTrial x.planner.now.book.now x.planner.now.placing.room (stand_of x walk.elbow) (get_or numbers place 0) walk new trial) tried.same h in
      record {
        number = get_or numbers place 0;
        is_trial = record {
          taken = t.taken;
          usable = subst (λ (e : Elbow). IsUsable first.planner.now.book.now first.planner.now.placing.room (stand_of first e) t.taken) tried.elbow_is t.usable;
          number_is = t.number_is;
          events = t.events ∙ ap (λ (l : List Event). l ++ t.taken.events) tried.events_are;
          elbow = t.elbow;
          at = t.at;
          hand = t.hand;
          farewell = t.farewell;
        };
        least = least;
      }
    where
      least : (taken : Taken) → IsUsable first.planner.now.book.now first.planner.now.placing.room (stand_of first start.elbow) taken → get_or numbers place 0 ≤ taken.number
      least taken u = by (cases_lt (stands_at taken u).place place)
        where
          at : StandsAt taken.number
          at = stands_at taken u

          by : (at.place < place) ⊎ (place ≤ at.place) → get_or numbers place 0 ≤ taken.number
          by (inl before) = absurd (tried.none at.place before taken u (sym at.is))
          by (inr after) = let up = ascends numbers place at.place are.ascending after at.few in let is = at.is in omega arith

  -- one more was tried
  pub tried_more : (place : ℕ) (now next : Search) (walk new back : Walk) (found : Option Trial) → place < length numbers → AreTried first start numbers place now walk → is_some found ≡ false → IsSearch next → SameSearch now next →
      IfNone found (NoneUsable now.planner.now.book.now now.planner.now.placing.room (stand_of now walk.elbow) (get_or numbers place 0) × AddsSome walk new) → back.elbow ≡ start.elbow →
      back.events.items ≡ take (length start.events.items) new.events.items → AreTried first start numbers (place + 1) next back
  tried_more place now next walk new back (Some trial) lt tried none is same h elbow events = absurd (cc)
  tried_more place now next walk new back None lt tried none is same h elbow events = record {
    search = is;
    same = same ∙ ap (λ (x : Search). with_ways x next.ways) tried.same;
    elbow_is = elbow;
    events_are = events ∙ ap (take (length start.events.items)) (h.1.1 ∙ ap (λ (l : List Event). l ++ h.1.0) tried.events_are) ∙ take-append_seam start.events.items h.1.0;
    none = each;
  }
    where
      here : NoneUsable first.planner.now.book.now first.planner.now.placing.room (stand_of first start.elbow) (get_or numbers place 0)
      here = subst (λ (e : Elbow). NoneUsable first.planner.now.book.now first.planner.now.placing.room (stand_of first e) (get_or numbers place 0)) tried.elbow_is
          (subst (λ (x : Search). NoneUsable x.planner.now.book.now x.planner.now.placing.room (stand_of x walk.elbow) (get_or numbers place 0)) tried.same h.0)

      by : (k : ℕ) → (k < place) ⊎ (k ≡ place) → NoneUsable first.planner.now.book.now first.planner.now.placing.room (stand_of first start.elbow) (get_or numbers k 0)
      by k (inl before) = tried.none k before
      by k (inr is) = subst (λ (i : ℕ). NoneUsable first.planner.now.book.now first.planner.now.placing.room (stand_of first start.elbow) (get_or numbers i 0)) (sym is) here

      each : (k : ℕ) → k < place + 1 → NoneUsable first.planner.now.book.now first.planner.now.placing.room (stand_of first start.elbow) (get_or numbers k 0)
      each k lt = by k (lt_or_same k place lt)

-- what is found isn't none
pub not_both : (P : Type 0) (found : Option Trial) → is_some found ≡ true → IfNone found P
not_both P None is = absurd (cc)
not_both P (Some trial) is = tt
