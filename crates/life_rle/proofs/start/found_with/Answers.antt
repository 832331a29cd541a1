use Rattle.std.proofs.Common.{◌≡◌, true, false, not, inl, inr, sym, ap, ◌∙◌, subst, List, ℕ}
use Rattle.text_lines.specs.Blanks.{IsPassedOver}
use Rattle.life_rle.specs.Text.{gives_place}
use Rattle.life_rle.proofs.Lined.{ends_short}
use Rattle.life_rle.proofs.BeforeItems.{opened_first, opened_again}
use Rattle.life_rle.proofs.start.found_with.Goals.{else-is_none-via-then-is_none+else-gives_place, else-is_none-via-else-is_none}
use Rattle.life_rle.proofs.start.found_with.Goals as goal

pub offset-at-requires : goal.offset-at-requires
offset-at-requires c = ends_short c.args.text.now c.args.rest.now c.requires.ends

pub returns-then-gives_place : goal.returns-then-gives_place
returns-then-gives_place c = λ number opened.
    opened_first c.args.text.now c.args.rest.now c.requires.some (subst IsPassedOver c.requires.line c.requires.passed) number c.args.before c.if-is_none.ensures opened
    (subst (λ (l : List ℕ). gives_place l ≡ true) c.requires.line (sym c.if-gives_place.ensures)) _ c.requires.line c.offset-at.ensures

pub returns-else-is_none : goal.returns-else-is_none
returns-else-is_none c = λ number opened.
    let passed = subst IsPassedOver c.requires.line c.requires.passed in
    elim c.else-is_none.branch [
      | else-is_none-via-then-is_none+else-gives_place w ↦
          opened_again c.args.text.now c.args.rest.now c.requires.some passed number c.args.before (inr (subst (λ (l : List ℕ). gives_place l ≡ false) c.requires.line (sym w.gives_place.ensures ∙ w.if-gives_place.false))) opened
      | else-is_none-via-else-is_none w ↦
          opened_again c.args.text.now c.args.rest.now c.requires.some passed number c.args.before (inl (c.is_none.ensures ∙ ap not w.if-is_none.false)) opened
    ]
