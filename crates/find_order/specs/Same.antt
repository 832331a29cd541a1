-- Equal candidates, as a test.
use Rattle.std.specs.Prelude.{Bool, false, ◌&&◌, ◌++◌, ℤ, List, nat_eq}
use Rattle.std.specs.Ordering.{int_eq}
use Rattle.std.specs.Cmp.Lexicographic.{pointwise}
use Rattle.std.specs.Hash as fed
use Rattle.find_order.specs.declared.candidate.Candidate.{Candidate}
use Rattle.find_order.specs.declared.candidate.Candidate.TheVariants.{Lanes, Delays}

-- the numbers of two lists are equal one by one
abbrev pub same_numbers : List ℤ → List ℤ → Bool
same_numbers xs ys = pointwise int_eq xs ys

-- both are lists of lanes, or lists of delays of one kind, with the same numbers
abbrev pub same_candidate : Candidate → Candidate → Bool
same_candidate (Lanes xs) (Lanes ys) = same_numbers xs ys
same_candidate (Lanes xs) (Delays kind ys) = false
same_candidate (Delays kind xs) (Lanes ys) = false
same_candidate (Delays kind xs) (Delays other ys) = nat_eq kind other && same_numbers xs ys

-- what a hasher is fed of a candidate
abbrev pub candidate_hash : Candidate → fed.HashWrites
candidate_hash (Lanes xs) = fed.slice fed.i64 xs
candidate_hash (Delays kind xs) = fed.usize kind ++ fed.slice fed.i64 xs
