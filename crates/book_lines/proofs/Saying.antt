-- From the items of a line to the line.
use Rattle.std.proofs.Common.{◌≡◌, ◌≢◌, ℕ, List, ◌∷◌, Result, Ok, Err, IfOk, IfErr, sym, ap, ◌∙◌, subst}
use Rattle.book_lines.specs.declared.fault.LineFault.{LineFault}
use Rattle.book_lines.specs.declared.fault.LineFault.TheVariants as fault
use Rattle.book_lines.specs.declared.fault.LineError.{LineError}
use Rattle.book_lines.specs.declared.fault.LineError.TheVariants.{Fault, Memory}
use Rattle.book_lines.specs.declared.keyword.Keyword.{Keyword}
use Rattle.book_lines.specs.declared.statement.Statement.{Statement}
use Rattle.text_lines.specs.Blanks.{words}
use Rattle.book_lines.specs.Values.{Level}
use Rattle.book_lines.specs.Words.{spelling}
use Rattle.book_lines.specs.WordLaws.{one_keyword}
use Rattle.book_lines.specs.Statements.{keyword, ItemsState, StatesAt, States}
use Rattle.book_lines.specs.Faults.{IsFaultOf, HasKeyword, IsLineFault}
use Rattle.book_lines.specs.Cuts.{StatesAs, IsLineError}
use Rattle.book_lines.specs.Reads.{ReadsOrErrs}
use Rattle.book_lines.proofs.Lifting.{lift_fault}

line_up : (line word : List ℕ) (items : List (List ℕ)) (k : Keyword) → words line ≡ word ∷ items → word ≡ spelling k → (l : Level) (s : Statement) → StatesAs k items l s → StatesAt l line s
line_up line word items k e w l s h = record { items = items; words_are = e ∙ ap (λ (t : List ℕ). t ∷ items) (w ∙ sym (ap spelling h.0)); items_are = h.1 }

line_down : (line word : List ℕ) (items : List (List ℕ)) (k : Keyword) → words line ≡ word ∷ items → word ≡ spelling k → (l : Level) (s : Statement) → StatesAt l line s → (t : Statement) × StatesAs k items l t
line_down line word items k e w l s h =
    let f = h.words_are in
    let first : spelling (keyword s) ≡ spelling k = cc in
    let same : h.items ≡ items = cc in
    (s, (one_keyword (keyword s) k first, subst (λ (ts : List (List ℕ)). ItemsState l s ts) same h.items_are))

fault_said : (line : List ℕ) (why : LineFault) → HasKeyword line → IsFaultOf (λ level (s : Statement). StatesAt level line s) why → IsLineFault line why
fault_said line fault.Version has h = absurd h
fault_said line fault.Word has h = absurd h
fault_said line fault.Form has h = (has, h)
fault_said line fault.Number has h = (has, h)
fault_said line fault.Body has h = (has, h)
fault_said line fault.Empty has h = (has, h)

pub line_ok : (line word : List ℕ) (items : List (List ℕ)) (k : Keyword) → words line ≡ word ∷ items → word ≡ spelling k → (r : Result Statement LineError) → ReadsOrErrs (λ l s. StatesAs k items l s) r
    → IfOk r (λ s. States line s)
line_ok line word items k e w (Ok s) h = line_up line word items k e w Level.Whole s h
line_ok line word items k e w (Err x) h = tt

pub line_err : (line word : List ℕ) (items : List (List ℕ)) (k : Keyword) → words line ≡ word ∷ items → word ≡ spelling k → (r : Result Statement LineError) → ReadsOrErrs (λ l s. StatesAs k items l s) r
    → IfErr r (λ x. IsLineError line x)
line_err line word items k e w (Ok s) h = tt
line_err line word items k e w (Err (Fault why)) h =
    fault_said line why (k, (items, e ∙ ap (λ (t : List ℕ). t ∷ items) w))
    (lift_fault (λ l s. StatesAs k items l s) (λ l s. StatesAt l line s) (λ l s g. (s, line_up line word items k e w l s g)) (line_down line word items k e w) why h)
line_err line word items k e w (Err Memory) h = tt

pub no_first : (line : List ℕ) (ts : List (List ℕ)) → ts ≡ words line → ((t : List ℕ) (more : List (List ℕ)) → ts ≢ t ∷ more) → IsLineError line (Fault fault.Word)
no_first line ts e none = λ has. none _ _ (e ∙ has.1.1)

pub no_keyword : (line word : List ℕ) (items : List (List ℕ)) → words line ≡ word ∷ items → ((k : Keyword) → word ≡ spelling k → ⊥) → IsLineError line (Fault fault.Word)
no_keyword line word items e none = λ has. let f = has.1.1 in none has.0 (cc)
