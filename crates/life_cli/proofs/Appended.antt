-- What was appended to nothing is all that there is.
use Rattle.std.proofs.Common.{◌≡◌, ℕ, List, [], ◌++◌, sym, ap, subst, ◌∙◌}
use Rattle.life_rle.specs.Written.{Appends}

pub all_appended : (old new : List ℕ) (P : List ℕ → Type 0) → old ≡ [] → Appends old new P → P new
all_appended old new P none h = subst P (sym (h.1.0 ∙ ap (λ l. l ++ h.0) none)) h.1.1
