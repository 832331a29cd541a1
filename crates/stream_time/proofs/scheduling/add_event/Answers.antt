use Rattle.std.proofs.Common.{◌≡◌, ℕ, pos, ◌*ℤ◌, ◌≤ℤ◌, List, sym, subst, Result, Ok, Err, OnOk}
use Rattle.elbow_graph.specs.Numbered.{IsNumbered}
use Rattle.life_cells.specs.declared.cell.Cell.{Cell}
use Rattle.recipe_hit.specs.Checked.{Struck}
use Rattle.recipe_hit.specs.declared.frame.Hit.{Hit}
use Rattle.recipe_hit.specs.declared.frame.HitFrame.{HitFrame}
use Rattle.recipe_book.specs.Checked.{CheckedEntries}
use Rattle.event_times.specs.Early.{IsEarlyFrame}
use Rattle.event_times.specs.Clock.{HitIsAdded}
use Rattle.build_plan.specs.declared.event.Event.{Event}
use Rattle.build_plan.specs.declared.event.Event.TheVariants as events
use Rattle.build_plan.specs.Happenings.{IsOfBook}
use Rattle.stream_time.specs.Adding.{IsHitThere, GliderComes, EventIsAdded}
use Rattle.stream_time.specs.NearEvents.{IsNearEvent}
use Rattle.stream_time.proofs.EventsAdded.{hit_early, hit_frame}
use Rattle.stream_time.proofs.scheduling.add_event.Goals as goal

-- a hit that there is, in a list of salvos that was read
numbered_in : (book : CheckedEntries) (event : Event) (number place : ℕ) (at : Cell) (salvos : List Struck) → event ≡ events.Hit number place at → salvos ≡ book.salvos → IsOfBook book event →
    (x : Struck) × (IsNumbered salvos number x × ((x' : Hit) × IsNumbered x.hits place x'))
numbered_in book event number place at salvos is same own = subst (λ (l : List Struck). (x : Struck) × (IsNumbered l number x × ((x' : Hit) × IsNumbered x.hits place x'))) (sym same) (subst (IsOfBook book) is own)

-- the hit that was read is there
there : (book : CheckedEntries) (event : Event) (number place : ℕ) (at : Cell) (salvos : List Struck) (hit : Hit) → event ≡ events.Hit number place at → salvos ≡ book.salvos → IsOfBook book event →
    ((salvo : Struck) → IsNumbered salvos number salvo → IsNumbered salvo.hits place hit) → IsHitThere book number place hit
there book event number place at salvos hit is same own read =
    let o = subst (IsOfBook book) is own in
    (o.0, (o.1.0, read o.0 (subst (λ (l : List Struck). IsNumbered l number o.0) (sym same) o.1.0)))

on_ok : {A E P Q : Type 0} (r : Result A E) → (P → Q) → OnOk r P → OnOk r Q
on_ok (Ok a) f h = f h
on_ok (Err e) f h = h

pub hit_at-hit-requires-clause-numbered : goal.hit_at-hit-requires-clause-numbered
hit_at-hit-requires-clause-numbered c = numbered_in c.args.book.now c.args.event c.in-Hit.salvo c.in-Hit.place c.in-Hit.at c.salvos.result.now c.in-Hit.is c.salvos.ensures c.requires.own

pub moved_frame-requires-clause-frame : goal.moved_frame-requires-clause-frame
moved_frame-requires-clause-frame c =
    hit_frame c.args.book.now c.settings.ensures.checked c.in-Hit.salvo c.in-Hit.place c.hit_at-hit.result.now
    (there c.args.book.now c.args.event c.in-Hit.salvo c.in-Hit.place c.in-Hit.at c.salvos.result.now c.hit_at-hit.result.now c.in-Hit.is c.salvos.ensures c.requires.own c.hit_at-hit.ensures)

pub add_hit-requires-clause-frame : goal.add_hit-requires-clause-frame
add_hit-requires-clause-frame c =
    subst (λ (f : HitFrame). IsEarlyFrame f) (sym c.moved_frame.ensures.moved)
    (hit_early c.args.book.now c.settings.ensures.checked c.in-Hit.salvo c.in-Hit.place c.in-Hit.at c.hit_at-hit.result.now
    (there c.args.book.now c.args.event c.in-Hit.salvo c.in-Hit.place c.in-Hit.at c.salvos.result.now c.hit_at-hit.result.now c.in-Hit.is c.salvos.ensures c.requires.own c.hit_at-hit.ensures)
    (subst IsNearEvent c.in-Hit.is c.requires.near)).frame

pub add_hit-requires-clause-comes : goal.add_hit-requires-clause-comes
add_hit-requires-clause-comes c sent is =
    subst (λ (f : HitFrame). sent.glider.j ≤ℤ (pos 4 *ℤ f.start)) (sym c.moved_frame.ensures.moved)
    (subst (λ (e : Event). GliderComes c.args.book.now e c.args.clock.now.sent) c.in-Hit.is c.requires.comes c.hit_at-hit.result.now
    (there c.args.book.now c.args.event c.in-Hit.salvo c.in-Hit.place c.in-Hit.at c.salvos.result.now c.hit_at-hit.result.now c.in-Hit.is c.salvos.ensures c.requires.own c.hit_at-hit.ensures)
    sent is)

pub returns-in-Hit : goal.returns-in-Hit
returns-in-Hit c =
    on_ok c.add_hit.result (λ added. subst (λ (e : Event). EventIsAdded c.args.book.now e c.args.clock.now c.add_hit.new.clock) (sym c.in-Hit.is) (
      c.hit_at-hit.result.now,
      (
        there c.args.book.now c.args.event c.in-Hit.salvo c.in-Hit.place c.in-Hit.at c.salvos.result.now c.hit_at-hit.result.now c.in-Hit.is c.salvos.ensures c.requires.own c.hit_at-hit.ensures,
        subst (λ (f : HitFrame). HitIsAdded f c.hit_at-hit.result.now.generations c.args.clock.now c.add_hit.new.clock) c.moved_frame.ensures.moved added,
      ),
    )) c.add_hit.ensures.added
