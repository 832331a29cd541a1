use Rattle.std.proofs.Common.{◌≡◌, ◌+◌, ◌*◌, ℕ, Bool, List, [], ◌∷◌, ◌++◌, length, get_or, slice_get, slice_index, Some, refl, sym, ap, ◌∙◌, arith, inr, length-append}
use Rattle.std.specs.Bool.{if◌then◌else◌}
use Rattle.std.specs.Vec.{with_items}
use Rattle.std.proofs.lemmas.List.{with_items_is}
use Rattle.life_plane.specs.ListLaws.{same_item}
use Rattle.life_tiles.specs.declared.place.Place.{Place}
use Rattle.life_tiles.proofs.Pruned.{none, fresh_none, from_ok}
use Rattle.life_tiles.proofs.Tiling.{item_of}
use Rattle.life_tiles.proofs.pruning.keep.Goals as goal

pub returns : goal.returns
returns c =
    let keeping = c.requires.keeping in
    let p : Place = get_or c.as_slice.result.now c.args.index none in
    let at : slice_get c.args.tiles.now.places.keys c.args.index ≡ Some p = item_of c.as_slice.result.now _ c.args.index none c.as_slice.ensures.keys c.requires.within in
    let few = keeping.few in
    let room = keeping.room in
    let free = keeping.spare in
    let ok = c.insert_full.ensures.succeeds (omega arith) in
    let keys : c.insert_full.new.self.keys ≡ c.args.tiles.now.kept.keys ++ p ∷ [] =
    from_ok c.insert_full.result _ ok c.insert_full.ensures.keys ∙ ap (λ (b : Bool). if b then c.args.tiles.now.kept.keys else c.args.tiles.now.kept.keys ++ p ∷ []) (fresh_none c.args.tiles.now c.args.index p keeping at) in
    let count : length c.insert_full.new.self.keys ≡ length c.args.tiles.now.kept.keys + 1 = ap (λ (ks : List Place). length ks) keys ∙ length-append c.args.tiles.now.kept.keys (p ∷ []) in
    let uses = c.insert_full.ensures.spare in
    let to = c.len-to.ensures.len in
    let now : (with_items c.args.tiles.now.rows c.move_words.new.words).items ≡ c.move_words.new.words = with_items_is c.args.tiles.now.rows c.move_words.new.words (c.move_words.auto.words ∙ c.deref_mut.ensures.len) in
    let was = c.deref_mut.ensures.value in
    record {
      places = refl;
      next = refl;
      beside = refl;
      awake = refl;
      waking = refl;
      room = refl;
      spare = omega arith;
      distinct = λ d. c.insert_full.ensures.unique;
      long = ap (λ (xs : List ℕ). length xs) now ∙ c.move_words.auto.words ∙ ap (λ (xs : List ℕ). length xs) was;
      either = inr (record {
        lives = c.requires.lives;
        kept = λ q here. keys ∙ ap (λ (r : Place). c.args.tiles.now.kept.keys ++ r ∷ []) (same_item at here);
        moved = λ down h. ap (λ (xs : List ℕ). slice_index xs (64 * length c.args.tiles.now.kept.keys + down)) now ∙ ap (λ n. slice_index c.move_words.new.words (64 * n + down)) (sym to)
            ∙ c.move_words.ensures.moved down h ∙ ap (λ (xs : List ℕ). slice_index xs (64 * c.args.index + down)) was;
        others = λ j h. ap (λ (xs : List ℕ). slice_index xs j) now ∙ c.move_words.ensures.others j (rw to h) ∙ ap (λ (xs : List ℕ). slice_index xs j) was;
      });
    }
