-- Kinds by their numbers.
use Rattle.std.proofs.Common.{◌≡◌, ℕ, zero, suc, ◌+◌, ◌<◌, List, [], ◌∷◌, length, get_or, refl, arith}
use Rattle.book_parts.specs.declared.kind.RawKind.{RawKind}
use Rattle.book_write.specs.Parts.{kind_name}

pub name_at : (kinds : List RawKind) (k i : ℕ) (d : RawKind) → k ≡ i + 1 → i < length kinds → kind_name kinds k ≡ (get_or kinds i d).name
name_at [] k i d e l = absurd (omega arith)
name_at (kind ∷ kinds) zero i d e l = absurd (omega arith)
name_at (kind ∷ kinds) (suc zero) zero d e l = refl
name_at (kind ∷ kinds) (suc zero) (suc i) d e l = absurd (omega arith)
name_at (kind ∷ kinds) (suc (suc k)) zero d e l = absurd (omega arith)
name_at (kind ∷ kinds) (suc (suc k)) (suc i) d e l = name_at kinds (suc k) i d (omega arith) (omega arith)
