-- A header line, read from its front.
use Rattle.std.specs.Prelude.{◌≡◌, ℕ, false, List, [], ◌∷◌, ◌++◌, map}
use Rattle.std.specs.Char.{to_ascii_lowercase}
use Rattle.life_rle.specs.declared.header.Form.{Form}
use Rattle.life_rle.specs.declared.header.Form.TheVariants.{Life, OtherRule, OtherForm}
use Rattle.life_rle.specs.declared.error.RleError.{RleError}
use Rattle.life_rle.specs.declared.error.RleError.TheVariants.{NoHeader, BadHeader, BadRule, BadItem, BadCount, NoEnd, TooFar, TooMany, Memory}
use Rattle.text_lines.specs.Blanks.{IsBlank, is_blank_byte}
use Rattle.life_rle.specs.Header.{HasHeaderForm, IsHeader}

-- more stands behind the blanks at the line's front, and begins with none
pub record IsPastBlanks (line more : List ℕ) : Type 0 where
  pub gap : List ℕ
  pub split : line ≡ gap ++ more
  pub blank : IsBlank gap
  pub ended : (b : ℕ) (bs : List ℕ) → more ≡ b ∷ bs → is_blank_byte b ≡ false

-- bytes begin with no blank
abbrev pub BeginsInked : List ℕ → Type 0
BeginsInked [] = ⊥
BeginsInked (b ∷ bs) = is_blank_byte b ≡ false

-- the bytes are this word in any case of letters, and then blanks
abbrev pub IsWordOf : List ℕ → List ℕ → Type 0
IsWordOf word bytes = (name : List ℕ) × ((gap : List ℕ) × ((bytes ≡ name ++ gap) × ((map to_ascii_lowercase name ≡ word) × IsBlank gap)))

-- a line has this form
abbrev pub HasForm : List ℕ → Form → Type 0
HasForm line Life = IsHeader line
HasForm line OtherRule = HasHeaderForm line × ¬ IsHeader line
HasForm line OtherForm = ¬ HasHeaderForm line

-- the header in this line is refused so
abbrev pub HeaderIsRefused : List ℕ → ℕ → RleError → Type 0
HeaderIsRefused line number (BadRule n) = (HasHeaderForm line × ¬ IsHeader line) × (n ≡ number)
HeaderIsRefused line number (BadHeader n) = (¬ HasHeaderForm line) × (n ≡ number)
HeaderIsRefused line number NoHeader = ⊥
HeaderIsRefused line number (BadItem at) = ⊥
HeaderIsRefused line number (BadCount at) = ⊥
HeaderIsRefused line number NoEnd = ⊥
HeaderIsRefused line number (TooFar at) = ⊥
HeaderIsRefused line number (TooMany count) = ⊥
HeaderIsRefused line number Memory = ⊥
