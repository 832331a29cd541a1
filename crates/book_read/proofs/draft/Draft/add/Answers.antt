use Rattle.std.proofs.Common.{◌≡◌, List, length, [], ◌∷◌, arith, ap, ◌∙◌, None}
use Rattle.book_read.proofs.draft.Draft.add.Goals as goal
use Rattle.std.proofs.Common.{sum_by}
use Rattle.std.proofs.lemmas.List.{length-append}
use Rattle.std.proofs.lemmas.List.Sums.{sum_by_push}
use Rattle.life_cells.specs.Cells.{Cells, in_order}
use Rattle.book_parts.specs.declared.kind.RawKind.{RawKind}
use Rattle.book_parts.specs.declared.salvo.RawSalvo.{RawSalvo}
use Rattle.book_lines.specs.declared.statement.Statement.TheVariants.{Setting, Hand, Elbow, Turn, Salvo}
use Rattle.book_read.specs.Limited.{setting_limited, counts, hand_count}
use Rattle.book_read.specs.Stated.{kind_of, turn_of, salvo_of}
use Rattle.book_read.specs.Drafted.{stated_of}
use Rattle.book_read.proofs.Counted.{few, front_none, cells_counted, product_counted}
use Rattle.book_read.proofs.Settings.{more_stated, more_kept, setting_within}

pub returns-in_ok-push-in-Setting-clause-stated : goal.returns-in_ok-push-in-Setting-clause-stated
returns-in_ok-push-in-Setting-clause-stated c =
    let none = rw c.in-Setting.is at c.requires.new in
    let settings = more_stated c.args.self.now.settings.items c.push.new.self.items c.in-Setting.setting none c.in_ok-push-in-Setting.ensures.items in
    rw c.in-Setting.is (λ i. record {
      settings = settings i;
      hand = c.args.self.now.hand;
      kinds = c.args.self.now.kinds.items;
      start = c.args.self.now.start;
      turns = c.args.self.now.turns.items;
      salvos = c.args.self.now.salvos.items;
    })

pub returns-in_ok-push-in-Setting-clause-kept : goal.returns-in_ok-push-in-Setting-clause-kept
returns-in_ok-push-in-Setting-clause-kept c =
    let setting = c.in-Setting.setting in
    let kept = c.requires.kept in
    let none = rw c.in-Setting.is at c.requires.new in
    let within = rw c.in-Setting.is at c.requires.within in
    let its = rw c.in-Setting.is at c.requires.counted in
    record {
      settings = more_kept c.args.self.now.settings.items c.push.new.self.items setting none c.in_ok-push-in-Setting.ensures.items
          (setting_within setting its (front_none (setting_limited setting) (counts (stated_of c.args.self.now) (Setting setting)) within)) kept.settings;
      few_kinds = kept.few_kinds;
      few_turns = kept.few_turns;
      few_salvos = kept.few_salvos;
      cells_are = kept.cells_are;
      few_cells = kept.few_cells;
    }

pub overflow_add-self : goal.overflow_add-self
overflow_add-self c =
    let f = (few (stated_of c.args.self.now) (Hand c.in-Hand.body) (rw c.in-Hand.is at c.requires.within)).cells in
    let k = c.requires.kept.few_cells in
    let was = c.requires.kept.cells_are in
    let n = c.len.ensures ∙ ap (λ (s : Cells). length (in_order s)) c.cells_of-hand.ensures in
    let m = cells_counted c.in-Hand.body in
    omega arith

pub overflow_add-self-in-Elbow : goal.overflow_add-self-in-Elbow
overflow_add-self-in-Elbow c =
    let f = (few (stated_of c.args.self.now) (Elbow c.in-Elbow.field-0) (rw c.in-Elbow.is at c.requires.within)).cells in
    let k = c.requires.kept.few_cells in
    let was = c.requires.kept.cells_are in
    let n = c.len-in-Elbow.ensures ∙ ap (λ (s : Cells). length (in_order s)) c.cells_of-cells.ensures in
    let m = cells_counted c.in-Elbow.field-0.placed.body in
    omega arith

pub overflow_add-self-in-Salvo : goal.overflow_add-self-in-Salvo
overflow_add-self-in-Salvo c =
    let f = (few (stated_of c.args.self.now) (Salvo c.in-Salvo.salvo) (rw c.in-Salvo.is at c.requires.within)).cells in
    let k = c.requires.kept.few_cells in
    let was = c.requires.kept.cells_are in
    let n = c.len-in-Salvo.ensures ∙ ap (λ (s : Cells). length (in_order s)) c.product_of-product.ensures in
    let m = product_counted c.in-Salvo.salvo.product in
    omega arith

pub returns-in-Hand-clause-kept : goal.returns-in-Hand-clause-kept
returns-in-Hand-clause-kept c =
    let kept = c.requires.kept in
    let f = (few (stated_of c.args.self.now) (Hand c.in-Hand.body) (rw c.in-Hand.is at c.requires.within)).cells in
    let was = c.requires.kept.cells_are in
    let len = c.len.ensures in
    let n = c.len.ensures ∙ ap (λ (s : Cells). length (in_order s)) c.cells_of-hand.ensures in
    let m = cells_counted c.in-Hand.body in
    let new : c.args.self.now.hand ≡ None = rw c.in-Hand.is at c.requires.new in
    let none : hand_count c.args.self.now.hand ≡ 0 = ap hand_count new in
    record { settings = kept.settings; few_kinds = kept.few_kinds; few_turns = kept.few_turns; few_salvos = kept.few_salvos; cells_are = omega arith; few_cells = omega arith }

pub returns-in_ok-push-in-Elbow-clause-kept : goal.returns-in_ok-push-in-Elbow-clause-kept
returns-in_ok-push-in-Elbow-clause-kept c =
    let kept = c.requires.kept in
    let f = few (stated_of c.args.self.now) (Elbow c.in-Elbow.field-0) (rw c.in-Elbow.is at c.requires.within) in
    let g = f.cells in
    let h = f.kinds in
    let was = c.requires.kept.cells_are in
    let len = c.len-in-Elbow.ensures in
    let n = c.len-in-Elbow.ensures ∙ ap (λ (s : Cells). length (in_order s)) c.cells_of-cells.ensures in
    let m = cells_counted c.in-Elbow.field-0.placed.body in
    let items = c.in_ok-push-in-Elbow.ensures.items in
    let size = ap length items ∙ length-append c.args.self.now.kinds.items _ in
    let sized = length-append c.args.self.now.kinds.items (kind_of c.in-Elbow.field-0 ∷ []) in
    let more = ap (λ (ks : List RawKind). sum_by (λ (k : RawKind). length (in_order k.cells)) ks) items ∙ sum_by_push (λ (k : RawKind). length (in_order k.cells)) c.args.self.now.kinds.items _ in
    record { settings = kept.settings; few_kinds = omega arith; few_turns = kept.few_turns; few_salvos = kept.few_salvos; cells_are = omega arith; few_cells = omega arith }

pub returns-in_ok-push-in-Turn-clause-kept : goal.returns-in_ok-push-in-Turn-clause-kept
returns-in_ok-push-in-Turn-clause-kept c =
    let kept = c.requires.kept in
    let h = (few (stated_of c.args.self.now) (Turn c.in-Turn.turn) (rw c.in-Turn.is at c.requires.within)).turns in
    let items = c.in_ok-push-in-Turn.ensures.items in
    let size = ap length items ∙ length-append c.args.self.now.turns.items _ in
    let sized = length-append c.args.self.now.turns.items (turn_of c.args.self.now.kinds.items c.in-Turn.turn ∷ []) in
    record { settings = kept.settings; few_kinds = kept.few_kinds; few_turns = omega arith; few_salvos = kept.few_salvos; cells_are = kept.cells_are; few_cells = kept.few_cells }

pub returns-in_ok-push-in-Salvo-clause-kept : goal.returns-in_ok-push-in-Salvo-clause-kept
returns-in_ok-push-in-Salvo-clause-kept c =
    let kept = c.requires.kept in
    let f = few (stated_of c.args.self.now) (Salvo c.in-Salvo.salvo) (rw c.in-Salvo.is at c.requires.within) in
    let g = f.cells in
    let h = f.salvos in
    let was = c.requires.kept.cells_are in
    let len = c.len-in-Salvo.ensures in
    let n = c.len-in-Salvo.ensures ∙ ap (λ (s : Cells). length (in_order s)) c.product_of-product.ensures in
    let m = product_counted c.in-Salvo.salvo.product in
    let items = c.in_ok-push-in-Salvo.ensures.items in
    let size = ap length items ∙ length-append c.args.self.now.salvos.items _ in
    let sized = length-append c.args.self.now.salvos.items (salvo_of c.in-Salvo.salvo ∷ []) in
    let more = ap (λ (ks : List RawSalvo). sum_by (λ (k : RawSalvo). length (in_order k.product)) ks) items ∙ sum_by_push (λ (k : RawSalvo). length (in_order k.product)) c.args.self.now.salvos.items _ in
    record { settings = kept.settings; few_kinds = kept.few_kinds; few_turns = kept.few_turns; few_salvos = omega arith; cells_are = omega arith; few_cells = omega arith }
