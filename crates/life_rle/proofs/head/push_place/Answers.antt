-- The parts that are written, in other brackets.
use Rattle.std.proofs.Common.{◌≡◌, ◌++◌, List, ◌∷◌, [], codes, FitsSigned, w64, to_z, of_z, ℕ, ℤ, rules, arith}
use Rattle.std.proofs.lemmas.Int.{ints}
use Rattle.std.proofs.lemmas.List.{append_assoc}
use Rattle.std.specs.Fmt.{signed_decimal}
use Rattle.life_cells.specs.declared.cell.Cell.{Cell}
use Rattle.life_rle.specs.Written.{place_line}
use Rattle.life_rle.proofs.head.push_place.Goals as goal

bracketed : (u v : ℤ) (place : Cell) (old new : List ℕ) → u ≡ place.x → v ≡ place.y
    → new ≡ old ++ (codes "#CXRLE Pos=" ++ (signed_decimal u ++ (44 ∷ (signed_decimal v ++ (10 ∷ []))))) → new ≡ old ++ place_line place
bracketed u v place old new e f h = simp append_assoc (rw (e, f) at h)

pub returns : goal.returns
returns c =
    let x_fits : FitsSigned w64 c.args.place.x = search rules in
    let y_fits : FitsSigned w64 c.args.place.y = search rules in
    bracketed (to_z w64 (of_z w64 c.args.place.x)) (to_z w64 (of_z w64 c.args.place.y)) c.args.place _ _ (omega (arith, ints)) (omega (arith, ints)) c.in_ok-write.ensures.bytes
