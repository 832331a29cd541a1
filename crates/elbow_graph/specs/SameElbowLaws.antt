-- Elbows that compare as equal are the same.
use Rattle.std.proofs.Common.{◌≡◌, ◌&&◌, true, nat_eq}
use Rattle.std.specs.Cmp.{IsEquivalence}
use Rattle.std.specs.Ordering.{int_eq}
use Rattle.std.proofs.lemmas.Bool.{and_parts, and_from, eqb-true}
use Rattle.std.proofs.lemmas.Cmp.{int_eq_equiv, nat_eq_equiv}
use Rattle.breadth_search.specs.KeyLaws.{same_int}
use Rattle.elbow_graph.specs.declared.elbow.Elbow.{Elbow}
use Rattle.elbow_graph.specs.Elbows.{elbow}
use Rattle.elbow_graph.specs.SameElbows.{elbow_eq}

pub same_elbow : (a b : Elbow) → elbow_eq a b ≡ true → a ≡ b
same_elbow a b h =
    let parts = and_parts (nat_eq a.kind b.kind) (int_eq a.shift b.shift) h in
    let kinds = eqb-true a.kind b.kind parts.0 in
    let shifts = same_int a.shift b.shift parts.1 in
    λ i. elbow (kinds i) (shifts i)

pub elbows_equivalent : IsEquivalence elbow_eq
elbows_equivalent = record {
  refl = λ a. and_from (nat_eq a.kind a.kind) (int_eq a.shift a.shift) (nat_eq_equiv.refl a.kind) (int_eq_equiv.refl a.shift);
  symm = λ a b i. nat_eq_equiv.symm a.kind b.kind i && int_eq_equiv.symm a.shift b.shift i;
  congr = λ a b c same. let it_is = same_elbow a b same in λ i. elbow_eq (it_is i) c;
}
