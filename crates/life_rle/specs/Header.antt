-- The header of a text: `x = m, y = n`, and optionally `, rule = R`, with blanks between its parts or without.
use Rattle.std.specs.Prelude.{◌≡◌, ℕ, false, ◌⊎◌, List, [], ◌∷◌, ◌++◌, codes, map}
use Rattle.std.specs.Char.{is_ascii_digit, to_ascii_lowercase}
use Rattle.rle_items.specs.Numbers.{IsNatural}
use Rattle.text_lines.specs.Blanks.{IsBlank}

-- behind blanks, or none, stands this part, and then the rest
pub record IsPast (part line rest : List ℕ) : Type 0 where
  pub gap : List ℕ
  pub whole : line ≡ gap ++ (part ++ rest)
  pub blank : IsBlank gap

-- behind blanks, or none, stands a number of 1 to 18 digits, and then the rest, which begins with no digit
pub record IsPastNumber (line rest : List ℕ) : Type 0 where
  pub gap : List ℕ
  pub digits : List ℕ
  pub number : ℕ
  pub whole : line ≡ gap ++ (digits ++ rest)
  pub blank : IsBlank gap
  pub is : IsNatural digits number
  pub ended : (b : ℕ) (bs : List ℕ) → rest ≡ b ∷ bs → is_ascii_digit b ≡ false

-- `= m` with blanks before its parts, or without, and then the rest
pub record IsPastValue (line rest : List ℕ) : Type 0 where
  pub at_number : List ℕ
  pub sign : IsPast (codes "=") line at_number
  pub number : IsPastNumber at_number rest

-- the line begins with `x = m, y = n`, and then comes the rest
pub record BeginsWithSize (line rest : List ℕ) : Type 0 where
  pub behind_x : List ℕ
  pub behind_width : List ℕ
  pub behind_comma : List ℕ
  pub behind_y : List ℕ
  pub x : line ≡ codes "x" ++ behind_x
  pub width : IsPastValue behind_x behind_width
  pub comma : IsPast (codes ",") behind_width behind_comma
  pub y : IsPast (codes "y") behind_comma behind_y
  pub height : IsPastValue behind_y rest

-- what follows the height is `, rule =`, and then the rule's name
pub record GivesRule (text name : List ℕ) : Type 0 where
  pub behind_comma : List ℕ
  pub behind_rule : List ℕ
  pub comma : IsPast (codes ",") text behind_comma
  pub rule : IsPast (codes "rule") behind_comma behind_rule
  pub sign : IsPast (codes "=") behind_rule name

-- the names of Conway's rule, in any case of letters
abbrev pub IsRuleName : List ℕ → Type 0
IsRuleName name =
    (map to_ascii_lowercase name ≡ codes "b3/s23") ⊎ ((map to_ascii_lowercase name ≡ codes "23/3") ⊎ (map to_ascii_lowercase name ≡ codes "life"))

-- such a name, with blanks at its ends or without
pub record NamesLife (text : List ℕ) : Type 0 where
  pub gap_1 : List ℕ
  pub name : List ℕ
  pub gap_2 : List ℕ
  pub whole : text ≡ gap_1 ++ (name ++ gap_2)
  pub blank_1 : IsBlank gap_1
  pub blank_2 : IsBlank gap_2
  pub life : IsRuleName name

-- the form of a header, whatever rule it names
pub record HasHeaderForm (line : List ℕ) : Type 0 where
  pub rest : List ℕ
  pub size : BeginsWithSize line rest
  pub rule : (rest ≡ []) ⊎ ((name : List ℕ) × GivesRule rest name)

-- a header: it names Conway's rule, or none, which means the same
pub record IsHeader (line : List ℕ) : Type 0 where
  pub rest : List ℕ
  pub size : BeginsWithSize line rest
  pub rule : (rest ≡ []) ⊎ ((name : List ℕ) × (GivesRule rest name × NamesLife name))
