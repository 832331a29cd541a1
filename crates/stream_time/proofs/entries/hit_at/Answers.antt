use Rattle.std.proofs.Common.{◌≡◌, ◌≤◌, ℕ, List, length, arith, ap, sym, subst, ◌∙◌}
use Rattle.elbow_graph.specs.Numbered.{IsNumbered}
use Rattle.elbow_graph.specs.NumberedLaws.{numbered_once}
use Rattle.life_cells.specs.Cells.{alive}
use Rattle.recipe_hit.specs.Checked.{Struck}
use Rattle.recipe_hit.specs.declared.frame.Hit.{Hit}
use Rattle.book_parts.specs.declared.limits.TheConstants.{MOST_LANES}
use Rattle.stream_time.proofs.Places.{stands_there, numbered_there, short_hits}
use Rattle.stream_time.proofs.entries.hit_at.Goals as goal

-- the hit of the salvo that was read
hit_there : (salvos : List Struck) (number place : ℕ) (read : Struck) (hits : List Hit) (salvo : Struck) (hit : Hit) → IsNumbered salvos number read → hits ≡ read.hits → IsNumbered salvos number salvo → IsNumbered salvo.hits place hit →
    IsNumbered hits place hit
hit_there salvos number place read hits salvo hit is same numbered there =
    subst (λ (hs : List Hit). IsNumbered hs place hit) (sym (same ∙ ap (λ (s : Struck). s.hits) (numbered_once salvos number read salvo is numbered))) there

pub overflow_sub-result : goal.overflow_sub-result
overflow_sub-result c =
    (stands_there c.hits-hits.result.now c.args.place c.requires.numbered.1.1.0
    (hit_there c.args.salvos.now c.args.number c.args.place c.salvo_at-salvo.result.now c.hits-hits.result.now c.requires.numbered.0 c.requires.numbered.1.1.0 c.salvo_at-salvo.ensures c.hits-hits.ensures.hits c.requires.numbered.1.0
    c.requires.numbered.1.1.1)).some

pub bounds-hits-place : goal.bounds-hits-place
bounds-hits-place c =
    let there = stands_there c.hits-hits.result.now c.args.place c.requires.numbered.1.1.0
    (hit_there c.args.salvos.now c.args.number c.args.place c.salvo_at-salvo.result.now c.hits-hits.result.now c.requires.numbered.0 c.requires.numbered.1.1.0 c.salvo_at-salvo.ensures c.hits-hits.ensures.hits c.requires.numbered.1.0
    c.requires.numbered.1.1.1) in
    let some = there.some in
    let most = there.most in
    omega arith

pub offset_bounds-hits-place : goal.offset_bounds-hits-place
offset_bounds-hits-place c =
    let there = stands_there c.hits-hits.result.now c.args.place c.requires.numbered.1.1.0
    (hit_there c.args.salvos.now c.args.number c.args.place c.salvo_at-salvo.result.now c.hits-hits.result.now c.requires.numbered.0 c.requires.numbered.1.1.0 c.salvo_at-salvo.ensures c.hits-hits.ensures.hits c.requires.numbered.1.0
    c.requires.numbered.1.1.1) in
    let most = there.most in
    let checked = c.hits-hits.ensures.checked in
    let count : length c.hits-hits.result.now ≡ length c.salvo_at-salvo.result.now.raw.lanes =
    ap length c.hits-hits.ensures.hits ∙ (short_hits (alive c.salvo_at-salvo.result.now.hand) c.salvo_at-salvo.result.now.raw.lanes c.salvo_at-salvo.result.now.hits checked.sound.hits_are).count in
    let few : length c.salvo_at-salvo.result.now.raw.lanes ≤ MOST_LANES = checked.proper.few in
    record { fits = omega arith }

pub returns : goal.returns
returns c salvo numbered =
    let same = c.hits-hits.ensures.hits ∙ ap (λ (s : Struck). s.hits) (numbered_once c.args.salvos.now c.args.number c.salvo_at-salvo.result.now salvo c.salvo_at-salvo.ensures numbered) in
    let there = hit_there c.args.salvos.now c.args.number c.args.place c.salvo_at-salvo.result.now c.hits-hits.result.now c.requires.numbered.0 c.requires.numbered.1.1.0 c.salvo_at-salvo.ensures c.hits-hits.ensures.hits c.requires.numbered.1.0
    c.requires.numbered.1.1.1 in
    subst (λ (hs : List Hit). IsNumbered hs c.args.place c.index-hits-place.result) same
    (subst (IsNumbered c.hits-hits.result.now c.args.place) (sym c.index-hits-place.is) (numbered_there c.hits-hits.result.now c.args.place c.requires.numbered.1.1.0 c.index-hits-place.result there))
