-- One glider more among those of a turn.
use Rattle.std.proofs.Common.{◌≡◌, ◌||◌, ℤ, List, [], ◌∷◌, ◌++◌, sym, ap, ◌∙◌}
use Rattle.std.proofs.Math.Bool.{or_assoc, or-false}
use Rattle.book_parts.specs.declared.settings.Settings.{Settings}
use Rattle.recipe_turn.specs.Turn.{gliders}
use Rattle.recipe_turn.specs.Gliders.{own}

-- one more delay is one more glider
pub gliders_push : (settings : Settings) (ds : List ℤ) (d t x y : ℤ) → gliders settings (ds ++ d ∷ []) t x y ≡ (gliders settings ds t x y || own settings t d x y)
gliders_push settings [] d t x y = or-false (own settings t d x y)
gliders_push settings (e ∷ ds) d t x y =
    ap (λ b. own settings t e x y || b) (gliders_push settings ds d t x y) ∙ sym (or_assoc (own settings t e x y) (gliders settings ds t x y) (own settings t d x y))
