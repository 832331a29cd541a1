-- The gliders that salvos ask for, one for each of their hits, in order.
use Rattle.std.specs.Prelude.{ℕ, suc, List, [], ◌∷◌, ◌++◌, Option}
use Rattle.std.specs.declared.option.Option.TheVariants.{Some, None}
use Rattle.life_cells.specs.declared.cell.Cell.{Cell}
use Rattle.life_cells.specs.Moved.{moved}
use Rattle.recipe_hit.specs.Checked.{Struck}
use Rattle.recipe_hit.specs.declared.frame.Hit.{Hit}
use Rattle.lane_clear.specs.Frames.{moved_frame}
use Rattle.build_plan.specs.Numbers.{item_of}
use Rattle.build_plan.specs.declared.throw.Throw.{Throw}

-- for these hits of the salvo with a number, the first of them at this place among its hits, with the hand at a place as the salvo begins: each
-- on its lane, moved to the hand's place
abbrev pub hit_throws : ℕ → Cell → ℕ → List Hit → List Throw
hit_throws number at place [] = []
hit_throws number at place (hit ∷ hits) = record { salvo = number; place = place; at = at; lane = (moved_frame at hit.frame).lane } ∷ hit_throws number at (suc place) hits

-- the hits of the salvo with a number
abbrev pub hits_of : Option Struck → List Hit
hits_of None = []
hits_of (Some salvo) = salvo.hits

-- for all hits of the salvo with a number
abbrev pub salvo_throws : List Struck → ℕ → Cell → List Throw
salvo_throws salvos number at = hit_throws number at 1 (hits_of (item_of salvos number))

-- where a hand is after the salvo with a number; one that leaves none leaves no other place
abbrev pub carried : Cell → Option Cell → Cell
carried from None = from
carried from (Some by) = moved by.x by.y from

abbrev pub place_past : Option Struck → Cell → Cell
place_past None from = from
place_past (Some salvo) from = carried from salvo.raw.hand

-- for salvos one after the other, each where the one before leaves the hand
abbrev pub list_throws : List Struck → Cell → List ℕ → List Throw
list_throws salvos from [] = []
list_throws salvos from (k ∷ ks) = salvo_throws salvos k from ++ list_throws salvos (place_past (item_of salvos k) from) ks
