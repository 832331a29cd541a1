-- Places of a room, row by row.
use Rattle.std.proofs.Common.{◌≡◌, ◌↔◌, IsTrue, Bool, ◌&&◌, ℕ, suc, ◌+◌, ◌*◌, ◌<◌, ◌≤◌, ℤ, pos, ◌-ℤ◌, sym, ap, subst, inl, inr, arith}
use Rattle.std.specs.Prelude.{unsigned_abs}
use Rattle.std.proofs.lemmas.Int.{ints}
use Rattle.std.proofs.lemmas.Bool.{cases_lt, and_parts, and_from}
use Rattle.std.proofs.Math.Nat.{mul-le-mul_right, suc-mul}
use Rattle.life_cells.specs.declared.cell.Cell.{Cell}
use Rattle.life_cells.specs.declared.bounds.Bounds.{Bounds}
use Rattle.life_cells.specs.Boxes.{InBox}
use Rattle.lane_clear.specs.BaseLaws.{whole}
use Rattle.hand_route.specs.Rooms.{IsSide, IsRoom, width_of, size_of, index_in}

-- ---- places row by row

-- rows of a width: a place in an earlier row stands before one in a later row
earlier_row : (width row column other behind : ℕ) → column < width → row < other → row * width + column < other * width + behind
earlier_row width row column other behind lt less =
    let rows : suc row * width ≤ other * width = mul-le-mul_right width (omega arith) in
    let one : suc row * width ≡ row * width + width = suc-mul row width in
    omega arith

pub same_row : (width row column other behind : ℕ) → column < width → behind < width → row * width + column ≡ other * width + behind → (row ≡ other) × (column ≡ behind)
same_row width row column other behind lt lu e = elim (cases_lt row other) [
  | inl less ↦ let l = earlier_row width row column other behind lt less in absurd (omega arith)
  | inr le ↦ elim (cases_lt other row) [
    | inl more ↦ let l = earlier_row width other behind row column lu more in absurd (omega arith)
    | inr ge ↦ let is : row ≡ other = omega arith in (is, columns is)
  ]
]
  where
    columns : row ≡ other → column ≡ behind
    columns is = let f : row * width ≡ other * width = ap (λ r. r * width) is in omega arith

-- a place of the room stands among as many as there are
record IsPlaced (room : Bounds) (at : Cell) : Type 0 where
  row : pos (unsigned_abs (at.y -ℤ room.top)) ≡ at.y -ℤ room.top
  column : pos (unsigned_abs (at.x -ℤ room.left)) ≡ at.x -ℤ room.left
  rows : unsigned_abs (at.y -ℤ room.top) < unsigned_abs (room.bottom -ℤ room.top) + 1
  columns : unsigned_abs (at.x -ℤ room.left) < width_of room

placed : (room : Bounds) (at : Cell) → IsRoom room → InBox room at.x at.y → IsPlaced room at
placed room at is i =
    let l = i.right_of_left in let t = i.below_top in let r = i.left_of_right in let b = i.above_bottom in
    let row = whole (at.y -ℤ room.top) (omega (arith, ints)) in
    let column = whole (at.x -ℤ room.left) (omega (arith, ints)) in
    let height = whole (room.bottom -ℤ room.top) (omega (arith, ints)) in
    let width = whole (room.right -ℤ room.left) (omega (arith, ints)) in
    record { row = row; column = column; rows = omega (arith, ints); columns = omega (arith, ints) }

pub index_within : (room : Bounds) (at : Cell) → IsRoom room → InBox room at.x at.y → index_in room at < size_of room
index_within room at is i =
    let p = placed room at is i in
    let first : 0 < width_of room = omega arith in
    let less = earlier_row (width_of room) (unsigned_abs (at.y -ℤ room.top)) (unsigned_abs (at.x -ℤ room.left)) (unsigned_abs (room.bottom -ℤ room.top) + 1) 0 p.columns p.rows in
    omega arith

-- two places of the room that stand at one place are one
pub one_place : (room : Bounds) (a b : Cell) → IsRoom room → InBox room a.x a.y → InBox room b.x b.y → index_in room a ≡ index_in room b → a ≡ b
one_place room a b is ia ib e =
    let p = placed room a is ia in
    let q = placed room b is ib in
    let same = same_row (width_of room) (unsigned_abs (a.y -ℤ room.top)) (unsigned_abs (a.x -ℤ room.left)) (unsigned_abs (b.y -ℤ room.top)) (unsigned_abs (b.x -ℤ room.left)) p.columns q.columns e in
    let ys : a.y ≡ b.y = let r = p.row in let s = q.row in let f = same.0 in omega (arith, ints) in
    let xs : a.x ≡ b.x = let r = p.column in let s = q.column in let f = same.1 in omega (arith, ints) in
    λ k. record { y = ys k; x = xs k }

-- ---- how many there are

pub few_columns : (room : Bounds) → IsRoom room → width_of room ≤ 3072
few_columns room is = let order = is.columns.order in let few = is.columns.few in let width = whole (room.right -ℤ room.left) (omega (arith, ints)) in omega (arith, ints)

pub few_rows : (room : Bounds) → IsRoom room → unsigned_abs (room.bottom -ℤ room.top) + 1 ≤ 3072
few_rows room is = let order = is.rows.order in let few = is.rows.few in let height = whole (room.bottom -ℤ room.top) (omega (arith, ints)) in omega (arith, ints)

pub few_places : (room : Bounds) → IsRoom room → size_of room ≤ 9437184
few_places room is =
    let rows : size_of room ≤ 3072 * width_of room = mul-le-mul_right (width_of room) (few_rows room is) in
    let columns = few_columns room is in
    omega arith

-- ---- whether bounds are a room

side_is : (low high a b : ℤ) → low ≡ a → high ≡ b → IsSide low high → IsSide a b
side_is low high a b el eh side = subst (λ (z : ℤ). IsSide z b) el (subst (IsSide low) eh side)

pub room_test : (room : Bounds) (left top right bottom : ℤ) (columns rows : Bool) → left ≡ room.left → top ≡ room.top → right ≡ room.right → bottom ≡ room.bottom →
    IsTrue columns ↔ IsSide left right → IsTrue rows ↔ IsSide top bottom → IsTrue (columns && rows) ↔ IsRoom room
room_test room left top right bottom columns rows el et er eb across down = (
  λ h.
      let both = and_parts columns rows h in
      record { columns = side_is left right room.left room.right el er (across.0 both.0); rows = side_is top bottom room.top room.bottom et eb (down.0 both.1) },
  λ is. and_from _ _ (across.1 (side_is room.left room.right left right (sym el) (sym er) is.columns)) (down.1 (side_is room.top room.bottom top bottom (sym et) (sym eb) is.rows)),
)
