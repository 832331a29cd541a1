-- What a text means that is read.
use Rattle.std.proofs.Common.{ℕ, ◌≤◌, ◌^◌, List, ◌∷◌, ◌++◌, length, sym, ap, ◌∙◌, subst, inr, arith}
use Rattle.std.proofs.lemmas.List.{append_assoc}
use Rattle.life_cells.specs.Cells.{alive, Cells}
use Rattle.life_cells.specs.Boxes.{IsInRange}
use Rattle.life_cells.specs.declared.cell.Cell.{Cell}
use Rattle.rle_items.specs.declared.error.BodyError.{BodyError}
use Rattle.rle_items.specs.declared.error.BodyError.TheVariants as item
use Rattle.rle_items.specs.Spelling.{IsWhite}
use Rattle.rle_items.specs.ItemFaults.{ItemsStopWith}
use Rattle.rle_items.specs.Read.{IsRead}
use Rattle.rle_items.specs.FineLaws.{fine_range}
use Rattle.life_rle.specs.Rests.{EndsWith}
use Rattle.life_rle.specs.Comments.{blanked}
use Rattle.life_rle.specs.Text.{HasBody, Says, Means}
use Rattle.life_rle.specs.TextFaults.{of_items, IsFineText, BodyStopsWith, TextStopsWith}
use Rattle.life_rle.proofs.Lined.{lines_end, ends_on, ends_short, behind_ends}
use Rattle.life_rle.proofs.Blanking.{blanked_length}

pub body_ends : (text : List ℕ) (place : Cell) (body : List ℕ) → HasBody text place body → EndsWith text body
body_ends text place body h =
    ends_on text h.rest body (lines_end text h.head h.rest h.at_header.lines_are) (subst (λ (bs : List ℕ). EndsWith h.rest bs) h.body_is (behind_ends h.rest))

-- and it is no longer than the text, comments made blank
pub body_short : (text : List ℕ) (place : Cell) (body : List ℕ) → HasBody text place body → length (blanked body) ≤ length text
body_short text place body h = omega (arith, blanked_length body, ends_short text body (body_ends text place body h))

-- a fault among the items is one of the text
items_refused : (text : List ℕ) (e : BodyError) → BodyStopsWith text e → TextStopsWith text (of_items e)
items_refused text (item.BadItem at) h = h
items_refused text (item.BadCount at) h = h
items_refused text item.NoEnd h = h
items_refused text (item.TooFar at) h = inr h
items_refused text (item.TooMany count) h = h
items_refused text item.Memory h = tt

pub body_refused : (text : List ℕ) (place : Cell) (body : List ℕ) (e : BodyError) → HasBody text place body → ItemsStopWith IsWhite text place (blanked body) e → TextStopsWith text (of_items e)
body_refused text place body e h stops = items_refused text e (record { place = place; body = body; has_body = h; stops = stops })

module _ (text : List ℕ) (place : Cell) (body : List ℕ) (cells : Cells) (rest : List ℕ) (h : HasBody text place body) (r : IsRead IsWhite place (blanked body) cells rest) where
  read_says : Says text place r.items
  read_says = record {
    body = body;
    has_body = h;
    written = r.read.front;
    gap = r.end.past.gap;
    ignored = r.end.ignored;
    body_is = r.read.split ∙ ap (λ (bs : List ℕ). r.read.front ++ bs) r.end.past.split ∙ sym (append_assoc r.read.front r.end.past.gap (33 ∷ r.end.ignored));
    gap_is = r.end.past.gap_is;
    items_are = r.read.spelled;
  }

  pub read_means : Means text (alive cells)
  read_means = record { place = place; items = r.items; says = read_says; cells = r.are_cells }

  pub read_fine : IsFineText text
  read_fine = record { place = place; items = r.items; says = read_says; fine = r.read.fine }

  pub read_range : IsInRange (2 ^ 40) (alive cells)
  read_range = fine_range place r.items (alive cells) r.read.fine r.are_cells
