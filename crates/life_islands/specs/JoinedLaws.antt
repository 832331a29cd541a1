-- The laws of joined cells.
use Rattle.std.specs.Prelude.{List, [], ◌∷◌, ◌++◌}
use Rattle.std.proofs.Common.{refl, sym, subst}
use Rattle.life_cells.specs.declared.cell.Cell.{Cell}
use Rattle.life_islands.specs.Joined.{Lives, Links, LeadsBy, AreJoined}
use Rattle.life_plane.specs.Plane.{Plane}

-- a link from a live cell goes back too
pub link_back : (s : Plane) (a b : Cell) → Lives s a → Links s a b → Links s b a
link_back s a b lives link = record {
  lives = lives;
  near = record { right = link.near.left; left = link.near.right; below = link.near.above; above = link.near.below };
}

-- one list of links after the other
leads_after : (s : Plane) (a b c : Cell) (first second : List Cell) → LeadsBy s a first b → LeadsBy s b second c → LeadsBy s a (first ++ second) c
leads_after s a b c [] second is then = let P : Cell → Type 0 = λ d. LeadsBy s d second c in subst P (sym is) then
leads_after s a b c (d ∷ first) second leads then = (leads.0, leads_after s d b c first second leads.1 then)

-- a live cell is joined with itself
pub joined_itself : (s : Plane) (a : Cell) → Lives s a → AreJoined s a a
joined_itself s a lives = record { lives = lives; cells = []; leads = refl }

-- a link joins
pub joined_link : (s : Plane) (a b : Cell) → Lives s a → Links s a b → AreJoined s a b
joined_link s a b lives link = record { lives = lives; cells = b ∷ []; leads = (link, refl) }

-- what is joined with a cell, and with what that is joined
pub joined_on : (s : Plane) (a b c : Cell) → AreJoined s a b → AreJoined s b c → AreJoined s a c
joined_on s a b c first second = record { lives = first.lives; cells = first.cells ++ second.cells; leads = leads_after s a b c first.cells second.cells first.leads second.leads }

back_along : (s : Plane) (a b : Cell) (cells : List Cell) → Lives s a → LeadsBy s a cells b → AreJoined s b a
back_along s a b [] lives is = let P : Cell → Type 0 = λ d. AreJoined s d a in subst P is (joined_itself s a lives)
back_along s a b (d ∷ cells) lives leads =
    let link : Links s a d = leads.0 in
    joined_on s b d a (back_along s d b cells link.lives leads.1) (joined_link s d a link.lives (link_back s a d lives link))

-- the other way round
pub joined_back : (s : Plane) (a b : Cell) → AreJoined s a b → AreJoined s b a
joined_back s a b joined = back_along s a b joined.cells joined.lives joined.leads

-- both live
pub joined_lives : (s : Plane) (a b : Cell) → AreJoined s a b → Lives s b
joined_lives s a b joined = (joined_back s a b joined).lives
