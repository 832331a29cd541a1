-- Titles of entries, one more at a time.
use Rattle.std.specs.Prelude.{◌≡◌, ℕ, ◌+◌, ◌<◌, List, [], ◌∷◌, ◌++◌, length, map, take, get_or, String}
use Rattle.std.specs.declared.alloc.Global.{Global}
use Rattle.std.specs.String.{string_bytes}
use Rattle.std.proofs.Common.{refl, sym, ap, ◌∙◌, append_assoc}
use Rattle.std.proofs.lemmas.List.{map_more}

bytes_pushed : (now : List (String Global)) (title : String Global) → map string_bytes (now ++ (title ∷ [])) ≡ map string_bytes now ++ (string_bytes title ∷ [])
bytes_pushed [] title = refl
bytes_pushed (t ∷ now) title = ap (λ ts. string_bytes t ∷ ts) (bytes_pushed now title)

-- one title more, behind those that were there
pub pushed : {A : Type 0} (f : A → List ℕ) (before now after : List (String Global)) (title : String Global) (list : List A) (i : ℕ) (d : A) → i < length list → after ≡ now ++ (title ∷ []) →
    map string_bytes now ≡ map string_bytes before ++ map f (take i list) → string_bytes title ≡ f (get_or list i d) → map string_bytes after ≡ map string_bytes before ++ map f (take (i + 1) list)
pushed f before now after title list i d lt grown so_far is =
    ap (map string_bytes) grown ∙ bytes_pushed now title ∙ ap (λ ts. ts ++ (string_bytes title ∷ [])) so_far ∙ append_assoc (map string_bytes before) (map f (take i list)) (string_bytes title ∷ [])
    ∙ ap (λ ts. map string_bytes before ++ (map f (take i list) ++ ts)) (ap (λ t. t ∷ []) is) ∙ ap (λ ts. map string_bytes before ++ ts) (sym (map_more f list i d lt))
