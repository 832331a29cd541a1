-- Bodies that are drawn, and those that are not.
use Rattle.std.proofs.Common.{◌≡◌, ◌≢◌, ℕ, ◌≤◌, ◌^◌, Bool, true, false, ℤ, pos, ◌+ℤ◌, ◌-ℤ◌, FitsSigned, negsuc, List, [], ◌∷◌, if◌then◌else◌, refl, sym, ap, ◌∙◌, arith, codes}
use mir.Syntax.{w64}
use Rattle.std.proofs.lemmas.Int.{ints}
use Rattle.std.proofs.lemmas.Bool.{or_left}
use Rattle.std.proofs.lemmas.List.{append-nil}
use Rattle.std.proofs.lemmas.List.Sums.{sum_by_push}
use Rattle.life_plane.specs.Plane.{Plane, nothing, shift}
use Rattle.life_cells.specs.declared.cell.Cell.{Cell}
use Rattle.life_cells.specs.Cells.{Cells, alive, empty, in_order, from_list}
use Rattle.life_cells.specs.Laws.{alive-empty, alive-in_order_at, from_list-in_order, from_list-none}
use Rattle.life_cells.specs.Listed.{listed}
use Rattle.life_cells.specs.OrderLaws.{same_cell-itself}
use Rattle.rle_items.specs.declared.item.Item.{Item}
use Rattle.rle_items.specs.declared.error.BodyError.{BodyError}
use Rattle.rle_items.specs.declared.error.BodyError.TheVariants as refusal
use Rattle.rle_items.specs.Items.{is_alive, live}
use Rattle.rle_items.specs.Spelling.{IsCount}
use Rattle.rle_items.specs.Words.{WordMeans}
use Rattle.rle_items.specs.Faults.{IsFineWord, StopsWith}
use Rattle.book_lines.specs.declared.statement.Body.{Body}
use Rattle.book_lines.specs.declared.statement.Body.TheVariants.{Drawn, TooMany}
use Rattle.book_lines.specs.Values.{IsSmall, IsBodyAt}
use Rattle.book_lines.specs.Values.Level.{Numbers, Bodies, Whole}
use Rattle.book_lines.specs.Faults.{StopsBetween}
use Rattle.rle_items.specs.NumberLaws.{value_short}
use Rattle.book_parts.specs.KindLaws.{empty_dead}

abbrev pub OneMeaning : Type 0
OneMeaning = (word : List ℕ) (s t : Plane) → WordMeans word s → WordMeans word t → s ≡ t

abbrev pub OneRefusal : Type 0
OneRefusal = (word : List ℕ) (e f : BodyError) → StopsWith word e → StopsWith word f → e ≢ refusal.Memory → f ≢ refusal.Memory → e ≡ f

abbrev pub NoRefusal : Type 0
NoRefusal = (word : List ℕ) (e : BodyError) → IsFineWord word → StopsWith word e → e ≢ refusal.Memory → ⊥

many_other : (n : ℕ) → refusal.TooMany n ≢ refusal.Memory
many_other n e = absurd (cc e)

-- a set that is not empty has a live cell
pub some_lives : (s : Cells) → (s ≡ empty → ⊥) → (x : ℤ) × ((y : ℤ) × (alive s x y ≡ true))
some_lives s other = by_order (in_order s) refl
  where
    by_order : (cs : List Cell) → in_order s ≡ cs → (x : ℤ) × ((y : ℤ) × (alive s x y ≡ true))
    by_order [] e = absurd (other (sym (from_list-in_order s) ∙ ap from_list e ∙ from_list-none))
    by_order (c ∷ cs) e = (c.x, (c.y, alive-in_order_at s c.x c.y ∙ ap (λ (l : List Cell). listed l c.x c.y) e ∙ or_left _ _ (same_cell-itself c)))

-- it still has, when it is moved
pub moved_lives : (s t : Cells) (dx dy : ℤ) → (s ≡ empty → ⊥) → alive t ≡ shift dx dy (alive s) → (x : ℤ) × ((y : ℤ) × (alive t x y ≡ true))
moved_lives s t dx dy other e =
    let live = some_lives s other in
    let x = live.0 in
    let y = live.1.0 in
    let back_x : (x +ℤ dx) -ℤ dx ≡ x = omega (arith, ints) in
    let back_y : (y +ℤ dy) -ℤ dy ≡ y = omega (arith, ints) in
    (x +ℤ dx, (y +ℤ dy, ap (λ (p : Plane). p (x +ℤ dx) (y +ℤ dy)) e ∙ ap (λ (z : ℤ). alive s z ((y +ℤ dy) -ℤ dy)) back_x ∙ ap (λ (z : ℤ). alive s x z) back_y ∙ live.1.1))

-- a moved empty set is empty
still_empty : (s : Cells) (dx dy : ℤ) → s ≡ empty → alive s ≡ shift dx dy (alive s)
still_empty s dx dy e = let none : alive s ≡ nothing = ap alive e ∙ alive-empty in none ∙ ap (λ (p : Plane). shift dx dy p) (sym none)

-- a word that is read as no cell has none
pub empty_body : (word : List ℕ) (at : Cell) (cells : Cells) → cells ≡ empty → IsFineWord word → WordMeans word (alive cells) → OneMeaning → NoRefusal
    → StopsBetween (λ level body. IsBodyAt level word at body) Bodies Whole
empty_body word at cells e fine means one none = record {
  value = Drawn cells;
  so_far = (fine, (alive cells, (means, still_empty cells at.x at.y e)));
  no_farther = no_live;
}
  where
    no_live : (body : Body) → IsBodyAt Whole word at body → ⊥
    no_live (TooMany count) h = none word (refusal.TooMany count) fine h.0 (many_other count)
    no_live (Drawn others) h =
        let drawn = h.0.1.0 in
        let same : drawn ≡ alive cells = one word drawn (alive cells) h.0.1.1.0 means in
        let x = h.1.0 in
        let y = h.1.1.0 in
        let lives : shift at.x at.y drawn x y ≡ true = sym (ap (λ (p : Plane). p x y) h.0.1.1.1) ∙ h.1.1.1 in
        empty_dead cells (x -ℤ at.x) (y -ℤ at.y) e (sym (ap (λ (p : Plane). p (x -ℤ at.x) (y -ℤ at.y)) same) ∙ lives)

-- a word that is refused otherwise than for its count is not read
pub refused_body : (word : List ℕ) (at : Cell) (e : BodyError) → StopsWith word e → e ≢ refusal.Memory → ((count : ℕ) → e ≢ refusal.TooMany count) → word ≢ codes ":" → OneRefusal → NoRefusal
    → StopsBetween (λ level body. IsBodyAt level word at body) Numbers Bodies
refused_body word at e stops other few free one none = record { value = TooMany 0; so_far = free; no_farther = not_read }
  where
    not_read : (body : Body) → IsBodyAt Bodies word at body → ⊥
    not_read (Drawn cells) h = none word e h.0 stops other
    not_read (TooMany count) h = few count (one word e (refusal.TooMany count) stops h other (many_other count))

-- ---- how many cells are too many

count_small : (digits : List ℕ) (n : ℕ) → IsCount digits n → n ≤ 10 ^ 18
count_small [] n h = omega arith
count_small (d ∷ ds) n h =
    let small = value_short (d ∷ ds) h.0.digits.digits h.0.short in
    let is = h.0.is in
    omega arith

pub many_few : (word : List ℕ) (count : ℕ) → StopsWith word (refusal.TooMany count) → count ≤ 2 ^ 61
many_few word count h =
    let item = h.fault.item in
    let few : live h.items ≤ 2 ^ 18 = h.read.fine.few h.items [] (sym (append-nil h.items)) in
    let small = count_small h.fault.next.digits item.count h.fault.next.count in
    let more = sum_by_push (λ (i : Item). if is_alive i.tag then i.count else 0) h.items item in
    let is = h.fault.count_is in
    let at_most = choice (is_alive item.tag) item.count in
    omega arith
  where
    choice : (b : Bool) (n : ℕ) → (if b then n else 0) ≤ n
    choice true n = omega arith
    choice false n = omega arith

-- ---- how far a body is moved

pub small_fits : (z : ℤ) → IsSmall z → FitsSigned w64 z
small_fits (pos n) h = let high = h.high in record { sfits = omega (arith, ints) }
small_fits (negsuc n) h = let low = h.low in record { sfits = omega (arith, ints) }
