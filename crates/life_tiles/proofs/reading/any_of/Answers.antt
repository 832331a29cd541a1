use Rattle.std.proofs.Common.{◌≡◌, ap, ◌∙◌, sym, arith, inl, inr, slice_index}
use Rattle.std.proofs.lemmas.Bool.{cases_lt}
use Rattle.life_kernel.specs.Rows.{test}
use Rattle.life_tiles.proofs.Bits.{no_bit_set, more_bits, fewer_bits}
use Rattle.life_tiles.proofs.reading.any_of.Goals as goal

pub loop-at-init : goal.loop-at-init
loop-at-init c = record { all = λ j k low h. absurd (omega arith); some = λ k h. absurd (no_bit_set k h) }

pub loop-at-preserved : goal.loop-at-preserved
loop-at-preserved c = record {
  all = λ j k low h live. elim (cases_lt j c.loop-at.at) [
    | inl lt ↦ more_bits _ _ k (inl (c.loop-at.invariant.all j k low lt live))
    | inr ge ↦
        let same : j ≡ c.loop-at.at = omega arith in
        more_bits _ _ k (inr (ap (λ i. test (slice_index c.args.words.now i) k) (sym same) ∙ live))
  ];
  some = λ k h. elim (fewer_bits _ _ k h) [
    | inl before ↦ c.loop-at.invariant.some k before
    | inr here ↦ (c.loop-at.at, c.loop-at.auto.at, c.loop-at-test.true, here)
  ];
}
