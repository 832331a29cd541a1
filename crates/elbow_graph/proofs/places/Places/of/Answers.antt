use Rattle.std.proofs.Common.{ap, refl, arith}
use Rattle.std.specs.Map.{lookup}
use Rattle.std.proofs.lemmas.Option.{slice_get_read}
use Rattle.elbow_graph.specs.SameKeys.{key_eq}
use Rattle.elbow_graph.proofs.Tabling.{made_begins, made_skips, made_adds}
use Rattle.elbow_graph.proofs.places.Places.of.Goals as goal

pub places-init : goal.places-init
places-init c =
    let exits = c.args.exits.now.ok.0 in
    let nexts = c.in_ok-nexts.nexts.ok.0 in
    let many = c.in_ok-nexts.ensures.len in
    let first = c.len.ensures in
    let again = c.len-place.ensures in
    (omega arith, made_begins _ _ _ _ _ (λ key. ap (lookup (key_eq key)) c.new-firsts.ensures.empty) (omega arith) (omega arith))

pub index-requires : goal.index-requires
index-requires c = let exits = c.args.exits.now.ok.0 in let within = c.places.invariant.0 in let some = c.places-test.true in omega arith

pub index_mut-requires : goal.index_mut-requires
index_mut-requires c =
    let nexts = c.places.nexts.ok.0 in
    let many = c.places.invariant.1.as_many in
    let within = c.places.invariant.0 in
    let some = c.places-test.true in
    omega arith

pub places-preserved-in-Some : goal.places-preserved-in-Some
places-preserved-in-Some c =
    let some = c.places-test.true in
    let within = c.places.invariant.0 in (
      omega arith,
      made_adds _ _ _ _ _ _ _ c.places.invariant.1 (omega arith) (slice_get_read c.args.exits.now.items _ _ _ refl (omega arith) c.index.ensures) _ _ _ _ _ c.in-Some.is c.key_of.ensures c.in_ok-nexts-2.ensures.old
          c.in_ok-nexts-2.ensures.updates.0 refl,
    )

pub places-preserved : goal.places-preserved
places-preserved c =
    let some = c.places-test.true in
    let within = c.places.invariant.0 in
    (omega arith, made_skips _ _ _ _ _ _ _ c.places.invariant.1 (omega arith) (slice_get_read c.args.exits.now.items _ _ _ refl (omega arith) c.index.ensures) _ c.in_default.is c.key_of.ensures)
