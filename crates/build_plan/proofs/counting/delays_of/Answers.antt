use Rattle.std.proofs.Common.{◌≡◌, ℕ, suc, ◌-◌, ◌≤◌, List, length, Option, None, Some, refl, sym, ap, ◌∙◌, arith}
use Rattle.std.specs.List.{slice_get}
use Rattle.std.specs.Option.{option_map}
use Rattle.std.proofs.lemmas.Option.{slice_get_read, slice_get_past, slice_get-map}
use Rattle.book_parts.specs.declared.turn.RawTurn.{RawTurn}
use Rattle.recipe_turn.specs.Checked.{Checked, raws}
use Rattle.build_plan.specs.Numbers.{item_of}
use Rattle.build_plan.specs.TurnEvents.{delays_of}
use Rattle.build_plan.proofs.counting.delays_of.Goals as goal

-- the item with a number is what stands at the place before it
there : (turns : List Checked) (number place : ℕ) → 1 ≤ number → place ≡ number - 1 → item_of (raws turns) number ≡ slice_get (raws turns) place
there turns number place low is = let next : number ≡ suc place = omega arith in ap (item_of (raws turns)) next

pub returns-in-Some-get : goal.returns-in-Some-get
returns-in-Some-get c =
    let turns = c.args.turns.now in
    let place = c.in-Some.place in
    let turn = c.in-Some-get.turn.now in
    let found = c.in-Some-get.ensures.lookup in
    let at : slice_get turns place ≡ Some turn = slice_get_read turns (length turns) place turn refl found.3.0 found.1 in
    let is : item_of (raws turns) c.args.number ≡ Some turn.raw =
    there turns c.args.number place c.in-Some.ensures.0 c.in-Some.ensures.1 ∙ slice_get-map (λ (t : Checked). t.raw) turns place ∙ ap (λ (o : Option Checked). option_map (λ (t : Checked). t.raw) o) at in
    ap length (c.items.ensures ∙ ap (λ (t : RawTurn). t.delays) c.raw.ensures.raw) ∙ sym (ap delays_of is)

pub returns-in-None : goal.returns-in-None
returns-in-None c =
    let turns = c.args.turns.now in
    let place = c.in-Some.place in
    let past : slice_get turns place ≡ None = slice_get_past turns place c.in-None.ensures.lookup.3 in
    let is : item_of (raws turns) c.args.number ≡ None =
    there turns c.args.number place c.in-Some.ensures.0 c.in-Some.ensures.1 ∙ slice_get-map (λ (t : Checked). t.raw) turns place ∙ ap (λ (o : Option Checked). option_map (λ (t : Checked). t.raw) o) past in
    sym (ap delays_of is)
