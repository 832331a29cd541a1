-- The canonical text of a book.
use Rattle.std.specs.Prelude.{◌≡◌, ℕ, List, ◌∷◌, ◌++◌, map}
use Rattle.std.specs.List.{AllZip}
use Rattle.book_parts.specs.Said.{Said}
use Rattle.book_write.specs.Laid.{text_of}
use Rattle.book_write.specs.Parts.{version_words, settings_words, IsHandLine, IsKindLine, start_words, turn_words, IsSalvoLine}

-- `scbook 1`, the settings, the hand, the kinds, the start, the turns, the salvos: each in a line of its own, ended by a line feed
pub record IsBookText (book : Said) (text : List ℕ) : Type 0 where
  pub hand : List (List ℕ)
  pub kinds : List (List (List ℕ))
  pub salvos : List (List (List ℕ))
  pub hand_is : IsHandLine book.hand hand
  pub kinds_are : AllZip IsKindLine book.kinds kinds
  pub salvos_are : AllZip IsSalvoLine book.salvos salvos
  pub whole :
      text
      ≡ text_of
      (version_words
      ∷ (settings_words book.settings
      ++ (hand ∷ (kinds ++ (start_words book.kinds book.start ∷ (map (turn_words book.kinds) book.turns ++ salvos))))))
