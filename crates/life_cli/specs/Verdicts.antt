-- `check BOOK`: a line for each entry of a book with its verdict, and how many are accepted.
use Rattle.std.specs.Prelude.{◌≡◌, ℕ, Bool, true, false, List, [], ◌∷◌, ◌++◌, length, map, filter, codes}
use Rattle.std.specs.Fmt.{decimal, signed_decimal}
use Rattle.life_cells.specs.Cells.{alive}
use Rattle.book_parts.specs.declared.turn.RawTurn.{RawTurn}
use Rattle.book_parts.specs.declared.salvo.RawSalvo.{RawSalvo}
use Rattle.book_text.specs.Book.{Said}
use Rattle.recipe_turn.specs.declared.refusal.TurnRefusal as turn
use Rattle.recipe_hit.specs.declared.refusal.SalvoRefusal as salvo
use Rattle.recipe_book.specs.Verdicts.{AreVerdicts}
use Rattle.recipe_book.specs.declared.verdict.Verdict.{Verdict}
use Rattle.recipe_book.specs.declared.verdict.Verdict.TheVariants.{Accepted, Turn, Salvo}
use Rattle.life_cli.specs.Book.{book_tests}
use Rattle.life_cli.specs.Inputs.{Told, book_input}
use Rattle.life_cli.specs.Stages.{Stages}
use Rattle.life_cli.specs.Stages.Stages.{Answer}
use Rattle.life_cli.specs.ErrorLines.{cell_text}

-- why a turn isn't accepted; the last is no verdict
abbrev pub turn_reason : turn.TurnRefusal → List ℕ
turn_reason (turn.TheVariants.Gap place) = codes "gap " ++ decimal place
turn_reason (turn.TheVariants.Short n) = codes "short " ++ decimal n
turn_reason (turn.TheVariants.EndDiffers cell) = codes "end " ++ cell_text cell
turn_reason (turn.TheVariants.Reach generation cell) = codes "reach " ++ (decimal generation ++ (codes " " ++ cell_text cell))
turn_reason (turn.TheVariants.Tail generation cell) = codes "tail " ++ (decimal generation ++ (codes " " ++ cell_text cell))
turn_reason (turn.TheVariants.Wall u) = codes "wall " ++ signed_decimal u
turn_reason turn.TheVariants.Memory = codes "memory"

-- why a salvo isn't accepted; the last is no verdict
abbrev pub salvo_reason : salvo.SalvoRefusal → List ℕ
salvo_reason (salvo.TheVariants.Empty place) = codes "empty " ++ decimal place
salvo_reason (salvo.TheVariants.NotSettled place) = codes "unsettled " ++ decimal place
salvo_reason (salvo.TheVariants.EndDiffers cell) = codes "end " ++ cell_text cell
salvo_reason salvo.TheVariants.ProductSplit = codes "split"
salvo_reason (salvo.TheVariants.HandNear cell) = codes "near " ++ cell_text cell
salvo_reason salvo.TheVariants.Memory = codes "memory"

abbrev pub verdict_text : Verdict → List ℕ
verdict_text Accepted = codes "ok"
verdict_text (Turn e) = codes "no " ++ turn_reason e
verdict_text (Salvo e) = codes "no " ++ salvo_reason e

-- what an entry is, and its name
abbrev pub turn_title : RawTurn → List ℕ
turn_title turn = codes "turn " ++ turn.name

abbrev pub salvo_title : RawSalvo → List ℕ
salvo_title salvo = codes "salvo " ++ salvo.name

-- the titles of a book's turns and salvos
abbrev pub titles : List RawTurn → List RawSalvo → List (List ℕ)
titles turns salvos = map turn_title turns ++ map salvo_title salvos

-- the line of an entry
abbrev pub verdict_line : List ℕ → Verdict → List ℕ
verdict_line title verdict = title ++ (codes " " ++ (verdict_text verdict ++ (10 ∷ [])))

-- a line for each entry
abbrev pub verdict_lines : List (List ℕ) → List Verdict → List ℕ
verdict_lines (title ∷ rest) (verdict ∷ verdicts) = verdict_line title verdict ++ verdict_lines rest verdicts
verdict_lines rest verdicts = []

abbrev pub is_accepted : Verdict → Bool
is_accepted Accepted = true
is_accepted other = false

-- how many are accepted
abbrev pub accepted : List Verdict → ℕ
accepted verdicts = length (filter is_accepted verdicts)

-- the last line
abbrev pub sum_line : List Verdict → List ℕ
sum_line verdicts = codes "accepted " ++ (decimal (accepted verdicts) ++ (codes " of " ++ (decimal (length verdicts) ++ (10 ∷ []))))

-- the whole text
abbrev pub verdicts_text : Said → List Verdict → List ℕ
verdicts_text said verdicts = verdict_lines (titles said.turns said.salvos) verdicts ++ sum_line verdicts

-- the bytes are the text of the verdicts on the entries of a book
pub record Judges (said : Said) (bytes : List ℕ) : Type 0 where
  pub verdicts : List Verdict
  pub verdicts_are : AreVerdicts said.settings said.kinds (alive said.hand) said.turns said.salvos verdicts
  pub written : bytes ≡ verdicts_text said verdicts

-- ---- the stages

-- from the book on
abbrev pub judging : Said → Stages
judging said = book_tests said (λ sound. Answer 0 (Judges said))

abbrev pub check : Told → List ℕ → Stages
check told name = book_input told name judging
