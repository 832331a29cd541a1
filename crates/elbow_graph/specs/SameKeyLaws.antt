-- Keys that compare as equal are the same.
use Rattle.std.proofs.Common.{◌≡◌, ℤ, true, nat_eq, Option, Some, None, refl, ap}
use Rattle.std.specs.Option.{option_eq}
use Rattle.std.specs.Ordering.{int_eq}
use Rattle.std.proofs.lemmas.Bool.{and_parts, and_from, eqb-true}
use Rattle.std.proofs.lemmas.Cmp.{int_eq_equiv, nat_eq_equiv}
use Rattle.breadth_search.specs.KeyLaws.{same_int}
use Rattle.elbow_graph.specs.declared.table.TurnKey.{TurnKey}
use Rattle.elbow_graph.specs.SameKeys.{key_eq}
use Rattle.elbow_graph.specs.Tables.{turn_key}

same_lane : (a b : Option ℤ) → option_eq int_eq a b ≡ true → a ≡ b
same_lane None None h = refl
same_lane None (Some b) h = cc
same_lane (Some a) None h = cc
same_lane (Some a) (Some b) h = ap Some (same_int a b h)

lane_itself : (a : Option ℤ) → option_eq int_eq a a ≡ true
lane_itself None = refl
lane_itself (Some a) = int_eq_equiv.refl a

pub same_key : (a b : TurnKey) → key_eq a b ≡ true → a ≡ b
same_key a b h =
    let parts = and_parts (nat_eq a.kind b.kind) (option_eq int_eq a.lane b.lane) h in
    let kinds = eqb-true a.kind b.kind parts.0 in
    let lanes = same_lane a.lane b.lane parts.1 in
    λ i. turn_key (kinds i) (lanes i)

pub key_itself : (a : TurnKey) → key_eq a a ≡ true
key_itself a = and_from (nat_eq a.kind a.kind) (option_eq int_eq a.lane a.lane) (nat_eq_equiv.refl a.kind) (lane_itself a.lane)
