use Rattle.std.proofs.Common.{◌≡◌, false, ℕ, ◌*◌, ◌<◌, ◌≤◌, List, [], length, slice_index, refl, sym, ap, subst, ◌∙◌, arith, inl}
use Rattle.std.specs.Vec.{with_items}
use Rattle.std.proofs.lemmas.List.{with_items_is}
use Rattle.life_tiles.specs.declared.span.Span.{Span}
use Rattle.life_tiles.specs.declared.tile_map.TileMap.{TileMap}
use Rattle.life_tiles.specs.Spans.{IsAwake}
use Rattle.life_tiles.specs.Tiling.{AreLinked}
use Rattle.life_tiles.proofs.Pruned.{KeepsTo, keeps_begin, is_keeping, keeps_more, cleared_from, kept_near, words_stay, left_tiled, left_fresh, each_lives}
use Rattle.life_tiles.proofs.pruning.prune.Goals as goal
use Rattle.life_tiles.proofs.pruning.prune.Goals.{After-wake_all}

pub tiles-init : goal.tiles-init
tiles-init c = keeps_begin c.args.tiles.now c.requires

pub keep_if_live-requires-clause-keeping : goal.keep_if_live-requires-clause-keeping
keep_if_live-requires-clause-keeping c = let count = c.len-count.ensures.len in is_keeping c.args.tiles.now c.tiles.tiles c.tiles.index c.requires (omega arith) c.tiles.invariant

pub tiles-preserved : goal.tiles-preserved
tiles-preserved c = let count = c.len-count.ensures.len in keeps_more c.args.tiles.now c.tiles.tiles c.tiles.index c.requires (omega arith) c.tiles.invariant c.keep_if_live.new.tiles c.keep_if_live.ensures

module _ (c : After-wake_all) where
  all : KeepsTo c.args.tiles.now c.tiles.tiles (length c.args.tiles.now.places.keys)
  all = let end = c.tiles.auto.index-end in let past = c.tiles-test.false in let done : c.tiles.index ≡ length c.args.tiles.now.places.keys = omega (arith, c.len-count.ensures.len) in subst (KeepsTo c.args.tiles.now c.tiles.tiles) done c.tiles.invariant

  rows_now : (with_items c.tiles.tiles.rows c.clear_words.new.words).items ≡ c.clear_words.new.words
  rows_now = with_items_is c.tiles.tiles.rows c.clear_words.new.words (c.clear_words.auto.words ∙ c.deref_mut.ensures.len)

  next_now : (with_items c.tiles.tiles.next c.clear_words-2.new.words).items ≡ c.clear_words-2.new.words
  next_now = with_items_is c.tiles.tiles.next c.clear_words-2.new.words (c.clear_words-2.auto.words ∙ c.deref_mut-2.ensures.len)

  -- the words behind those that are kept are 0
  rows_cleared : (j : ℕ) → 64 * length c.tiles.tiles.kept.keys ≤ j → slice_index (with_items c.tiles.tiles.rows c.clear_words.new.words).items j ≡ 0
  rows_cleared j h =
      let kept = c.len-kept.ensures.len in
      let count = c.len-count.ensures.len in
      ap (λ (xs : List ℕ). slice_index xs j) rows_now
      ∙ cleared_from (64 * c.len-kept.result) (64 * c.len-count.result) c.deref_mut.result.now c.clear_words.new.words c.clear_words.ensures.cleared c.clear_words.ensures.others
      (λ i past. ap (λ (xs : List ℕ). slice_index xs i) c.deref_mut.ensures.value ∙ all.ahead i (omega arith) ∙ c.requires.rows.ends i (omega arith)) j (omega arith)

  next_cleared : (j : ℕ) → 64 * length c.tiles.tiles.kept.keys ≤ j → slice_index (with_items c.tiles.tiles.next c.clear_words-2.new.words).items j ≡ 0
  next_cleared j h =
      let kept = c.len-kept.ensures.len in
      let count = c.len-count.ensures.len in
      let same : c.tiles.tiles.next.items ≡ c.args.tiles.now.next.items = rw all.next refl in
      ap (λ (xs : List ℕ). slice_index xs j) next_now
      ∙ cleared_from (64 * c.len-kept.result) (64 * c.len-count.result) c.deref_mut-2.result.now c.clear_words-2.new.words c.clear_words-2.ensures.cleared c.clear_words-2.ensures.others
      (λ i past. ap (λ (xs : List ℕ). slice_index xs i) (c.deref_mut-2.ensures.value ∙ same) ∙ c.requires.next.ends i (omega arith)) j (omega arith)

  others : (j : ℕ) → j < 64 * length c.tiles.tiles.kept.keys → slice_index (with_items c.tiles.tiles.rows c.clear_words.new.words).items j ≡ slice_index c.tiles.tiles.rows.items j
  others j h =
      let kept = c.len-kept.ensures.len in
      ap (λ (xs : List ℕ). slice_index xs j) rows_now ∙ c.clear_words.ensures.others j (inl (omega arith)) ∙ ap (λ (xs : List ℕ). slice_index xs j) c.deref_mut.ensures.value

  beside_now : (with_items c.tiles.tiles.beside c.link_all.new.beside).items ≡ c.link_all.new.beside
  beside_now = with_items_is c.tiles.tiles.beside c.link_all.new.beside (c.link_all.auto.beside ∙ c.deref_mut-3.ensures.len)

  awake_now : (with_items c.tiles.tiles.awake c.wake_all.new.spans).items ≡ c.wake_all.new.spans
  awake_now = with_items_is c.tiles.tiles.awake c.wake_all.new.spans (c.wake_all.auto.spans ∙ c.deref_mut-4.ensures.len)

  abbrev left : TileMap
  left = record {
    places = c.swap.new.x;
    kept = c.clear.new.self;
    beside = with_items c.tiles.tiles.beside c.link_all.new.beside;
    rows = with_items c.tiles.tiles.rows c.clear_words.new.words;
    next = with_items c.tiles.tiles.next c.clear_words-2.new.words;
    awake = with_items c.tiles.tiles.awake c.wake_all.new.spans;
    waking = c.tiles.tiles.waking;
    recent = false;
    stirring = c.tiles.tiles.stirring;
    room = c.tiles.tiles.room;
  }

  places : c.swap.new.x.keys ≡ c.tiles.tiles.kept.keys
  places = rw c.swap.ensures.x_after refl

pub link_all-requires-clause-near : goal.link_all-requires-clause-near
link_all-requires-clause-near c = kept_near c.args.tiles.now c.tiles.tiles c.tiles.index c.swap.new.x.keys c.requires c.tiles.invariant (rw c.swap.ensures.x_after refl)

pub returns-clause-words : goal.returns-clause-words
returns-clause-words c = let k = (goal.at.returns-clause-words c).After-wake_all in words_stay c.args.tiles.now c.tiles.tiles (left k) c.requires (all k) (places k) (rows_cleared k) (others k)

pub returns-clause-lives : goal.returns-clause-lives
returns-clause-lives c = let k = (goal.at.returns-clause-lives c).After-wake_all in each_lives c.args.tiles.now c.tiles.tiles (left k) c.requires (all k) (places k) (rows_cleared k) (others k)

pub returns-clause-tiled : goal.returns-clause-tiled
returns-clause-tiled c =
    let k = (goal.at.returns-clause-tiled c).After-wake_all in
    let emptied : c.clear.new.self.keys ≡ [] = search c.clear.ensures.empty in
    let capacity = c.clear.ensures.capacity in
    let first : c.swap.new.y ≡ c.args.tiles.now.places = c.swap.ensures.y_after ∙ (all k).places in
    left_tiled c.args.tiles.now c.tiles.tiles (left k) c.requires (all k) (places k) (rows_cleared k) (others k)
    (ap (λ (xs : List ℕ). length xs) (rows_now k) ∙ c.clear_words.auto.words ∙ ap (λ (xs : List ℕ). length xs) c.deref_mut.ensures.value)
    (ap (λ (xs : List ℕ). length xs) (next_now k) ∙ c.clear_words-2.auto.words ∙ ap (λ (xs : List ℕ). length xs) c.deref_mut-2.ensures.value ∙ rw (all k).next refl)
    (next_cleared k) refl (rw c.swap.ensures.x_after refl) emptied (rw first at capacity)
    (subst (AreLinked c.swap.new.x.keys) (sym (beside_now k)) c.link_all.ensures)
    (ap (λ (xs : List ℕ). length xs) (beside_now k) ∙ c.link_all.auto.beside ∙ ap (λ (xs : List ℕ). length xs) c.deref_mut-3.ensures.value ∙ rw (all k).beside refl)
    (ap (λ (xs : List Span). length xs) (awake_now k) ∙ c.wake_all.auto.spans ∙ ap (λ (xs : List Span). length xs) c.deref_mut-4.ensures.value ∙ rw (all k).awake refl)
    (all k).waking

pub returns-clause-fresh : goal.returns-clause-fresh
returns-clause-fresh c quiet =
    let k = (goal.at.returns-clause-fresh c).After-wake_all in
    let kept = c.len-kept.ensures.len in
    left_fresh c.args.tiles.now c.tiles.tiles (left k) c.requires (all k) (places k) (rows_cleared k) (others k)
    (λ i row lt below. subst (λ (spans : List Span). IsAwake spans i row) (sym (awake_now k)) (c.wake_all.ensures i row (omega arith) below)) (all k).waking quiet
