use Rattle.std.proofs.Common.{◌≢◌, List, subst, sym, ◌∙◌, map}
use Rattle.book_read.proofs.joining.is_new_entry.Goals as goal
use Rattle.std.proofs.lemmas.Bool.{false≢true}
use Rattle.book_parts.specs.Proper.{IsNoneOf}
use Rattle.book_parts.specs.declared.turn.RawTurn.{RawTurn}
use Rattle.book_parts.specs.declared.salvo.RawSalvo.{RawSalvo}
use Rattle.life_plane.specs.ListLaws.{all_append}
use Rattle.book_read.proofs.Searches.{none_of_front, none_of_back}

pub returns-then-is_new_name : goal.returns-then-is_new_name
returns-then-is_new_name c =
    let ts = map (λ (turn : RawTurn). turn.name) c.args.draft.now.turns.items in
    let ss = map (λ (salvo : RawSalvo). salvo.name) c.args.draft.now.salvos.items in
    let name = c.args.name.now in (
      (λ h. all_append (λ other. other ≢ name) ts ss (subst (λ (xs : List RawTurn). IsNoneOf (map (λ (turn : RawTurn). turn.name) xs) name) c.deref.ensures.value (c.is_new_name.ensures.0 c.if-is_new_name.true))
          (subst (λ (xs : List RawSalvo). IsNoneOf (map (λ (salvo : RawSalvo). salvo.name) xs) name) c.deref-then-is_new_name.ensures.value (c.is_new_name-then-is_new_name.ensures.0 h))),
      (λ h. c.is_new_name-then-is_new_name.ensures.1 (subst (λ (xs : List RawSalvo). IsNoneOf (map (λ (salvo : RawSalvo). salvo.name) xs) name) (sym c.deref-then-is_new_name.ensures.value) (none_of_back ts ss name h))),
    )

pub returns-else-is_new_name : goal.returns-else-is_new_name
returns-else-is_new_name c =
    let ts = map (λ (turn : RawTurn). turn.name) c.args.draft.now.turns.items in
    let ss = map (λ (salvo : RawSalvo). salvo.name) c.args.draft.now.salvos.items in
    let name = c.args.name.now in (
      (λ h. absurd (false≢true (sym c.if-is_new_name.false ∙ h))),
      (λ h. c.is_new_name.ensures.1 (subst (λ (xs : List RawTurn). IsNoneOf (map (λ (turn : RawTurn). turn.name) xs) name) (sym c.deref.ensures.value) (none_of_front ts ss name h))),
    )
