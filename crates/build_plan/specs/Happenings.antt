-- The turns and hits for which a plan's events stand.
use Rattle.std.specs.Prelude.{◌≡◌, ℕ, suc, List, [], ◌∷◌}
use Rattle.life_cells.specs.declared.cell.Cell.{Cell}
use Rattle.elbow_graph.specs.Numbered.{IsNumbered}
use Rattle.plan_facts.specs.Happenings.{Salvo, SalvoHit, Happening}
use Rattle.plan_facts.specs.Happenings.Happening.{Turns, Hits}
use Rattle.recipe_turn.specs.Checked.{raws}
use Rattle.recipe_hit.specs.Checked.{Struck}
use Rattle.recipe_hit.specs.declared.frame.Hit as hits
use Rattle.book_parts.specs.declared.turn.RawTurn.{RawTurn}
use Rattle.recipe_book.specs.Checked.{CheckedEntries}
use Rattle.build_plan.specs.declared.event.Event.{Event}
use Rattle.build_plan.specs.declared.event.Event.TheVariants.{Turn, Hit}

-- the salvo with its hits alone
abbrev pub salvo_of : Struck → Salvo
salvo_of salvo = record { raw = salvo.raw; hits = salvo.hits }

-- a hit is the one at this place among the hits of the book's salvo with a number, where the hand stood there as the salvo began
pub record IsHitOf (book : CheckedEntries) (number place : ℕ) (at : Cell) (h : SalvoHit) : Type 0 where
  pub salvo : Struck
  pub numbered : IsNumbered book.salvos number salvo
  pub salvo_is : h.salvo ≡ salvo_of salvo
  pub hit_is : IsNumbered salvo.hits place h.hit
  pub number_is : suc h.number ≡ place
  pub place_is : h.place ≡ at

-- an event stands for what happens: the book's turn with its number, at whatever time, with the shift before it; or a hit of the book's salvo
abbrev pub StandsFor : CheckedEntries → Event → Happening → Type 0
StandsFor book (Turn number shift) (Turns m) = IsNumbered (raws book.turns) number m.turn × (m.shift ≡ shift)
StandsFor book (Turn number shift) (Hits h) = ⊥
StandsFor book (Hit number place at) (Turns m) = ⊥
StandsFor book (Hit number place at) (Hits h) = IsHitOf book number place at h

-- the events stand for what happens, one by one
abbrev pub AllStandFor : CheckedEntries → List Event → List Happening → Type 0
AllStandFor book [] [] = Unit {0}
AllStandFor book (event ∷ events) (happening ∷ happenings) = StandsFor book event happening × AllStandFor book events happenings
AllStandFor book events happenings = ⊥

-- an event is one of the book's: there is an accepted turn with its number, or an accepted salvo with a hit at its place
abbrev pub IsOfBook : CheckedEntries → Event → Type 0
IsOfBook book (Turn number shift) = (turn : RawTurn) × IsNumbered (raws book.turns) number turn
IsOfBook book (Hit number place at) = (salvo : Struck) × (IsNumbered book.salvos number salvo × ((hit : hits.Hit) × IsNumbered salvo.hits place hit))
