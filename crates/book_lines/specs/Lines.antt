-- The words of a line, behind references.
use Rattle.std.specs.Prelude.{◌≢◌, ℕ, List, map, codes}
use Rattle.std.specs.List.{AllByRecursion}
use denote.Ref.{Bor}

-- the bytes of texts behind references
abbrev pub texts : List (Bor (List ℕ)) → List (List ℕ)
texts ts = map (λ t. t.now) ts

-- none of these items is `:`
abbrev pub HaveNoColon : List (List ℕ) → Type 0
HaveNoColon items = AllByRecursion (λ text. text ≢ codes ":") items
