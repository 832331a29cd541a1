use Rattle.std.proofs.Common.{refl, inl, w64, Fits, rules}
use Rattle.life_tiles.proofs.Pruned.{empty_tile, live_tile}
use Rattle.life_tiles.proofs.pruning.keep_if_live.Goals as goal

pub keep-requires-clause-lives : goal.keep-requires-clause-lives
keep-requires-clause-lives c =
    let fits : Fits w64 c.any_of.result = search rules in
    live_tile _ _ c.args.index c.any_of.result c.deref.ensures.value c.if-any_of-ne0.true fits.fits c.any_of.ensures.some

pub returns-else-any_of-ne0 : goal.returns-else-any_of-ne0
returns-else-any_of-ne0 c = record {
  places = refl;
  next = refl;
  beside = refl;
  awake = refl;
  waking = refl;
  room = refl;
  spare = c.requires.keeping.spare;
  distinct = λ d. d;
  long = refl;
  either = inl (record {
    empty = empty_tile _ _ c.args.index c.any_of.result c.deref.ensures.value c.if-any_of-ne0.false c.any_of.ensures.all;
    kept = refl;
    rows = λ j. refl;
  });
}
