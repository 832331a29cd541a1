-- Where a planner stands, at most one salvo is taken, in one way.
use Rattle.std.specs.Prelude.{◌≡◌, ℕ, true, List, ◌∷◌, Option}
use Rattle.std.specs.declared.option.Option.TheVariants.{Some, None}
use Rattle.std.proofs.Common.{sym, ap, subst, ◌∙◌, arith}
use Rattle.std.proofs.Math.Nat.{le_antisymm}
use Rattle.std.proofs.lemmas.Int.{ints}
use Rattle.life_plane.specs.Plane.{Plane, shift}
use Rattle.life_cells.specs.Cells.{alive, cell}
use Rattle.life_cells.specs.declared.bounds.Bounds.{Bounds}
use Rattle.life_cells.specs.declared.cell.Cell.{Cell}
use Rattle.life_cells.specs.Firsts.{IsFirstLive}
use Rattle.life_cells.specs.FirstLaws.{one_first}
use Rattle.life_cells.specs.Moved.{moved}
use Rattle.life_islands.specs.IslandLaws.{one_list}
use Rattle.life_islands.specs.MovedIslandLaws.{first_moves}
use Rattle.life_islands.specs.declared.island.Island.{Island}
use Rattle.elbow_graph.specs.Numbered.{IsNumbered}
use Rattle.elbow_graph.specs.NumberedLaws.{numbered_once}
use Rattle.recipe_hit.specs.Checked.{Struck}
use Rattle.hand_route.specs.Moves.{Site}
use Rattle.recipe_turn.specs.Checked.{raws}
use Rattle.recipe_book.specs.Checked.{CheckedEntries}
use Rattle.recipe_book.specs.Entries.{AreThose}
use Rattle.recipe_book.specs.EntryLaws.{those_once}
use Rattle.build_plan.specs.Fits.{Fits, IsOutside, island_at}
use Rattle.build_plan.specs.Stand.{Stand}
use Rattle.build_plan.specs.Served.{AreServed}
use Rattle.build_plan.specs.declared.throw.Throw.{Throw}
use Rattle.build_plan.specs.Usable.{Taken, product_of, site_of, IsWayIn, way_throws, IsUsable, IsTaken}
use Rattle.build_plan.proofs.Leasts.{LeastAreOne}
use Rattle.build_plan.proofs.OneServed.{served_once}

pub heads_same : {A : Type 0} (x y : A) (xs ys : List A) → x ∷ xs ≡ y ∷ ys → x ≡ y
heads_same x y xs ys e = cc

-- ---- the place of a product

-- a plane comes to one place by one move
pub one_move : (s : Plane) (c : Cell) → IsFirstLive s c → (p q : Cell) → shift p.x p.y s ≡ shift q.x q.y s → p ≡ q
one_move s c h p q same =
    let cells : moved p.x p.y c ≡ moved q.x q.y c =
    one_first (λ x y. shift q.x q.y s x y ≡ true) (moved p.x p.y c) (moved q.x q.y c)
    (subst (λ (t : Plane). IsFirstLive t (moved p.x p.y c)) same (first_moves p.x p.y s c h)) (first_moves q.x q.y s c h) in
    let xs = ap (λ (d : Cell). d.x) cells in
    let ys = ap (λ (d : Cell). d.y) cells in
    let x : p.x ≡ q.x = omega (arith, ints) in
    let y : p.y ≡ q.y = omega (arith, ints) in
    λ i. cell (x i) (y i)

-- a product fits at one place
pub fits_once : (left : List Island) (product : Plane) (p q : Cell) → Fits left product p → Fits left product q → p ≡ q
fits_once left product p q a b =
    let wanted = heads_same a.wanted b.wanted a.others b.others (sym a.left_is ∙ b.left_is) in
    let first = heads_same a.first b.first a.more b.more (one_list product (a.first ∷ a.more) (b.first ∷ b.more) a.islands_are b.islands_are) in
    one_move (alive a.first.cells) a.first.first a.islands_are.each.0.first p q
    (a.first_is ∙ ap (λ (w : Island). alive w.cells) wanted ∙ sym b.first_is ∙ ap (island_at q) (sym first))

module _ (one : LeastAreOne) (book : CheckedEntries) (room : Bounds) where
  -- the hand comes to a place in one way
  way_once : (site : Site) (from : Option Cell) (to : Cell) (a b : List ℕ) → IsWayIn site from a to → IsWayIn site from b to → a ≡ b
  way_once site None to a b h k = h ∙ sym k
  way_once site (Some from) to a b h k = one.hand site from to a b h k

  -- a salvo is usable in one way
  pub usable_once : (stand : Stand) (a b : Taken) → IsUsable book room stand a → IsUsable book room stand b → a.number ≡ b.number → a ≡ b
  usable_once stand a b h k number =
      let salvo : a.salvo ≡ b.salvo = numbered_once book.salvos a.number a.salvo b.salvo h.numbered (subst (λ (n : ℕ). IsNumbered book.salvos n b.salvo) (sym number) k.numbered) in
      let place : a.place ≡ b.place = fits_once stand.left (alive a.salvo.raw.product) a.place b.place h.fits (subst (λ (s : Struck). Fits stand.left (alive s.raw.product) b.place) (sym salvo) k.fits) in
      let way : a.way ≡ b.way = way_once (site_of book room stand.built) stand.place a.place a.way b.way h.way (subst (IsWayIn (site_of book room stand.built) stand.place b.way) (sym place) k.way) in
      let throws : way_throws book.salvos stand.place b.way b.number b.place ≡ way_throws book.salvos stand.place a.way a.number a.place = λ i. way_throws book.salvos stand.place (sym way i) (sym number i) (sym place i) in
      let served = served_once one.serving (raws book.turns) book.settings.span (way_throws book.salvos stand.place a.way a.number a.place) stand.elbow a.events b.events a.elbow b.elbow h.served
      (subst (λ (t : List Throw). AreServed (raws book.turns) book.settings.span stand.elbow t b.events b.elbow) throws k.served) in
      let product : product_of b ≡ product_of a = λ i. shift (sym place i).x (sym place i).y (alive (sym salvo i).raw.product) in
      let left : a.left ≡ b.left = those_once (IsOutside (product_of a)) stand.left a.left b.left h.left_after
      (subst (λ (p : Plane). AreThose (IsOutside p) stand.left b.left) product k.left_after) in
      λ i. record { number = number i; salvo = salvo i; place = place i; way = way i; events = served.0 i; elbow = served.1 i; left = left i }

  -- one is taken
  pub taken_once : (stand : Stand) (a b : Taken) → IsTaken book room stand a → IsTaken book room stand b → a ≡ b
  taken_once stand a b h k = usable_once stand a b h.usable k.usable (le_antisymm (h.least b k.usable) (k.least a h.usable))
