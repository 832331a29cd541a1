-- Cells that are added to others.
use Rattle.std.proofs.Common.{◌≡◌, ◌⊎◌, ℕ, ◌+◌, ◌<◌, ◌≤◌, Bool, true, false, List, [], ◌∷◌, ◌++◌, length, Some, refl, sym, ap, subst, ◌∙◌, arith, inl, inr}
use Rattle.std.specs.Prelude.{◌||◌}
use Rattle.std.specs.Bool.{if◌then◌else◌}
use Rattle.std.specs.List.{AllByRecursion, list_any, slice_get}
use Rattle.std.proofs.lemmas.List.{append_assoc, append-nil}
use Rattle.std.proofs.lemmas.Option.{slice_get_within}
use Rattle.std.proofs.lemmas.Bool.{or_cases, or_left, or_right}
use Rattle.life_plane.specs.NumberLaws.{lt_or_same}
use Rattle.life_plane.specs.ListLaws.{same_item, all_append, all_weaker, all_at}
use Rattle.indexmap.specs.IndexSet.{insert_key}
use Rattle.life_cells.specs.declared.cell.Cell.{Cell}
use Rattle.life_cells.specs.Laws.{listed-append_at, listed_at_place, place_of_listed}
use Rattle.life_cells.specs.Listed.{same_cell, listed}
use Rattle.life_cells.specs.OrderLaws.{same_cell_is}
use Rattle.life_cells.specs.Same.{same_fields}
use Rattle.life_cells.specs.SameLaws.{same_fields_tie}
use Rattle.life_islands.specs.Joined.{Lives}
use Rattle.life_islands.specs.Search.{Adds}

-- ---- one cell

-- a cell that is listed stays so where more are added
pub listed_left : (xs ys : List Cell) (c : Cell) → Lives (listed xs) c → Lives (listed (xs ++ ys)) c
listed_left xs ys c h = listed-append_at xs ys c.x c.y ∙ or_left (listed xs c.x c.y) (listed ys c.x c.y) h

pub listed_right : (xs ys : List Cell) (c : Cell) → Lives (listed ys) c → Lives (listed (xs ++ ys)) c
listed_right xs ys c h = listed-append_at xs ys c.x c.y ∙ or_right (listed xs c.x c.y) (listed ys c.x c.y) h

pub listed_cases : (xs ys : List Cell) (c : Cell) → Lives (listed (xs ++ ys)) c → Lives (listed xs) c ⊎ Lives (listed ys) c
listed_cases xs ys c h = or_cases (listed xs c.x c.y) (listed ys c.x c.y) (sym (listed-append_at xs ys c.x c.y) ∙ h)

pub listed_one : (c : Cell) → Lives (listed (c ∷ [])) c
listed_one c = listed_at_place (c ∷ []) 0 c refl

or_false : (b : Bool) → (b || false) ≡ true → b ≡ true
or_false true h = refl
or_false false h = h

pub only_one : (c d : Cell) → Lives (listed (c ∷ [])) d → c ≡ d
only_one c d h = sym (same_cell_is d c (or_false (same_cell d c) h))

-- the test of an insertion is whether the cell is listed
pub known_is_listed : (now : List Cell) (c : Cell) → list_any (same_fields c) now ≡ listed now c.x c.y
known_is_listed [] c = refl
known_is_listed (d ∷ now) c = (λ i. same_fields_tie c d i || known_is_listed now c i)

-- a cell that is inserted goes behind the others, or is among them
pub inserted : (now after : List Cell) (c : Cell) → after ≡ insert_key same_fields now c → (after ≡ now ++ c ∷ []) ⊎ ((after ≡ now) × Lives (listed now) c)
inserted now after c is = by (list_any (same_fields c) now) refl is
  where
    by : (b : Bool) → list_any (same_fields c) now ≡ b → after ≡ (if b then now else now ++ c ∷ []) → (after ≡ now ++ c ∷ []) ⊎ ((after ≡ now) × Lives (listed now) c)
    by true known is = inr (is, sym (known_is_listed now c) ∙ known)
    by false none is = inl is

-- ---- lists of properties

pub all_listed : (P : Cell → Type 0) (xs : List Cell) (c : Cell) → AllByRecursion P xs → Lives (listed xs) c → P c
all_listed P xs c all h = let there = place_of_listed xs c.x c.y h in all_at P xs there.0 c all there.1

-- ---- additions

-- no cell added so far, with none to add
pub adds_nothing : (P : Cell → Type 0) (cells : List Cell) → ((c : Cell) → P c → ⊥) → Adds P cells cells
adds_nothing P cells none = record { more = []; grown = sym (append-nil cells); own = tt; all = λ c p. absurd (none c p) }

-- one addition after the other
pub adds_both : (P Q R : Cell → Type 0) (a b c : List Cell) → Adds P a b → Adds Q b c → ((d : Cell) → P d → R d) → ((d : Cell) → Q d → R d) → ((d : Cell) → R d → P d ⊎ Q d) → Adds R a c
adds_both P Q R a b c first second from_p from_q cases = record {
  more = first.more ++ second.more;
  grown = second.grown ∙ ap (λ xs. xs ++ second.more) first.grown ∙ append_assoc a first.more second.more;
  own = all_append R first.more second.more (all_weaker P R from_p first.more first.own) (all_weaker Q R from_q second.more second.own);
  all = λ d r. by d (cases d r);
}
  where
    by : (d : Cell) → P d ⊎ Q d → Lives (listed c) d
    by d (inl p) = subst (λ xs. Lives (listed xs) d) (sym second.grown) (listed_left b second.more d (first.all d p))
    by d (inr q) = second.all d q

-- an insertion adds one cell
pub adds_one : (now after : List Cell) (c : Cell) → after ≡ insert_key same_fields now c → Adds (λ d. c ≡ d) now after
adds_one now after c is = by (inserted now after c is)
  where
    by : (after ≡ now ++ c ∷ []) ⊎ ((after ≡ now) × Lives (listed now) c) → Adds (λ d. c ≡ d) now after
    by (inl grown) = record {
      more = c ∷ [];
      grown = grown;
      own = (refl, tt);
      all = λ d e. subst (λ xs. Lives (listed xs) d) (sym grown) (listed_right now (c ∷ []) d (subst (λ z. Lives (listed (c ∷ [])) z) e (listed_one c)));
    }
    by (inr there) = record {
      more = [];
      grown = there.0 ∙ sym (append-nil now);
      own = tt;
      all = λ d e. subst (λ xs. Lives (listed xs) d) (sym there.0) (subst (λ z. Lives (listed now) z) e there.1);
    }

-- the listed cells before a place
abbrev pub IsBefore : List Cell → ℕ → Cell → Type 0
IsBefore cells place c = (k : ℕ) × ((k < place) × (slice_get cells k ≡ Some c))

-- none at first
pub adds_begin : (cells found : List Cell) → Adds (IsBefore cells 0) found found
adds_begin cells found = adds_nothing (IsBefore cells 0) found (λ c p. let lt = p.1.0 in omega arith)

-- one more
pub adds_more : (cells before now after : List Cell) (place : ℕ) (c : Cell) → Adds (IsBefore cells place) before now → slice_get cells place ≡ Some c → after ≡ insert_key same_fields now c →
    Adds (IsBefore cells (place + 1)) before after
adds_more cells before now after place c was at is =
    adds_both (IsBefore cells place) (λ d. c ≡ d) (IsBefore cells (place + 1)) before now after was (adds_one now after c is)
    (λ d p. let lt = p.1.0 in (p.0, (omega arith, p.1.1)))
    (λ d e. (place, (omega arith, at ∙ ap Some e)))
    cases
  where
    cases : (d : Cell) → IsBefore cells (place + 1) d → IsBefore cells place d ⊎ (c ≡ d)
    cases d p = by (lt_or_same p.0 place p.1.0)
      where
        by : (p.0 < place) ⊎ (p.0 ≡ place) → IsBefore cells place d ⊎ (c ≡ d)
        by (inl lt) = inl (p.0, (lt, p.1.1))
        by (inr e) = inr (same_item at (ap (slice_get cells) (sym e) ∙ p.1.1))

-- the same additions by another name
pub adds_as : (P Q : Cell → Type 0) (a b : List Cell) → Adds P a b → ((d : Cell) → P d → Q d) → ((d : Cell) → Q d → P d) → Adds Q a b
adds_as P Q a b h to back = record { more = h.more; grown = h.grown; own = all_weaker P Q to h.more h.own; all = λ d q. h.all d (back d q) }

-- all of them at last
pub adds_end : (cells before after : List Cell) (place : ℕ) → Adds (IsBefore cells place) before after → length cells ≤ place → Adds (Lives (listed cells)) before after
adds_end cells before after place h long = adds_as (IsBefore cells place) (Lives (listed cells)) before after h
    (λ d p. listed_at_place cells p.0 d p.1.1)
    (λ d l. let there = place_of_listed cells d.x d.y l in (there.0, (omega (arith, slice_get_within cells there.0 d there.1), there.1)))
