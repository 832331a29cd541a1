-- What lines are refused for.
use Rattle.std.proofs.Common.{◌≡◌, ℕ, ◌+◌, List, [], ◌∷◌, ◌++◌, length, inl, inr, refl, sym, ap, ◌∙◌, subst, arith, append_assoc, codes, true, Result, Ok, Err, IfErr, IsErrAnd, ◌==◌}
use Rattle.std.specs.List.{AllByRecursion}
use Rattle.std.proofs.lemmas.List.{length-append}
use Rattle.book_lines.specs.declared.statement.Statement.{Statement}
use Rattle.text_lines.specs.Blanks.{IsPassedOver}
use Rattle.book_read.specs.declared.error.BookError.{BookError}
use Rattle.book_read.specs.declared.error.BookError.TheVariants.{BadLine, Doubled, UnknownKind, LimitOver, Missing, WallReach, Memory}
use Rattle.book_read.specs.Stated.{Stated, nothing_stated, joined}
use Rattle.book_read.specs.Joining.{IsFine}
use Rattle.book_read.specs.Reading.{AreFine, IsRefused}
use Rattle.std.specs.Str.Lines.{lines}
use Rattle.std.proofs.lemmas.Bool.Decides.{nat_tests}
use Rattle.book_read.specs.Drafted.{IsTaken, IsLineRefusal, IsBodyRefusal, IsOtherLine, IsVersionRefusal}

-- lines that are fine, and one more that is passed over
pub fine_over : (stated : Stated) (front : List (List ℕ)) (line : List ℕ) (after : Stated) → AreFine stated front after → IsPassedOver line → AreFine stated (front ++ line ∷ []) after
fine_over stated [] line after h over = inl (over, h)
fine_over stated (l ∷ front) line after (inl h) over = inl (h.0, fine_over stated front line after h.1 over)
fine_over stated (l ∷ front) line after (inr h) over = inr (h.0, (h.1.0, (h.1.1.0, fine_over (joined stated h.1.0) front line after h.1.1.1 over)))

-- and one more that is fine
pub fine_next : (stated : Stated) (front : List (List ℕ)) (line : List ℕ) (after next : Stated) (s : Statement) → AreFine stated front after → (IsPassedOver line → ⊥) → IsFine after line s → next ≡ joined after s
    → AreFine stated (front ++ line ∷ []) next
fine_next stated [] line after next s e other fine n =
    inr (other, (s, (subst (λ (t : Stated). IsFine t line s) e fine, n ∙ ap (λ (t : Stated). joined t s) e)))
fine_next stated (l ∷ front) line after next s (inl h) other fine n = inl (h.0, fine_next stated front line after next s h.1 other fine n)
fine_next stated (l ∷ front) line after next s (inr h) other fine n = inr (h.0, (h.1.0, (h.1.1.0, fine_next (joined stated h.1.0) front line after next s h.1.1.1 other fine n)))

-- the first line that is not fine
pub refused_among : (before number : ℕ) (ls front : List (List ℕ)) (line : List ℕ) (more : List (List ℕ)) (stated : Stated) (e : BookError) → ls ≡ front ++ (line ∷ more) → AreFine nothing_stated front stated
    → (IsPassedOver line → ⊥) → number ≡ (before + length front) + 1 → IsLineRefusal stated line number e → IsBodyRefusal before ls e
refused_among before number ls front line more stated Memory is fine other n h = tt
refused_among before number ls front line more stated (BadLine at why) is fine other n h =
    record { front = front; line = line; more = more; lines_are = is; stated = stated; fine = fine; line_is = other; refused = subst (λ (k : ℕ). IsRefused stated line k (BadLine at why)) n h }
refused_among before number ls front line more stated (Doubled at) is fine other n h =
    record { front = front; line = line; more = more; lines_are = is; stated = stated; fine = fine; line_is = other; refused = subst (λ (k : ℕ). IsRefused stated line k (Doubled at)) n h }
refused_among before number ls front line more stated (UnknownKind at) is fine other n h =
    record { front = front; line = line; more = more; lines_are = is; stated = stated; fine = fine; line_is = other; refused = subst (λ (k : ℕ). IsRefused stated line k (UnknownKind at)) n h }
refused_among before number ls front line more stated (LimitOver at over) is fine other n h =
    record { front = front; line = line; more = more; lines_are = is; stated = stated; fine = fine; line_is = other; refused = subst (λ (k : ℕ). IsRefused stated line k (LimitOver at over)) n h }
refused_among before number ls front line more stated (Missing word) is fine other n h = absurd h
refused_among before number ls front line more stated (WallReach wall reach) is fine other n h = absurd h

pub one_more : (ls front rest more : List (List ℕ)) (line : List ℕ) → ls ≡ front ++ rest → rest ≡ line ∷ more → ls ≡ (front ++ line ∷ []) ++ more
one_more ls front rest more line e f = e ∙ ap (λ (ts : List (List ℕ)). front ++ ts) f ∙ sym (append_assoc front (line ∷ []) more)

pub all_over : (head : List (List ℕ)) (line : List ℕ) → AllByRecursion IsPassedOver head → IsPassedOver line → AllByRecursion IsPassedOver (head ++ line ∷ [])
all_over [] line h over = (over, tt)
all_over (l ∷ head) line h over = (h.0, all_over head line h.1 over)

pub longer : (front : List (List ℕ)) (line : List ℕ) → length (front ++ line ∷ []) ≡ length front + 1
longer front line = length-append front (line ∷ [])

pub version_of : (words : List (List ℕ)) (word number : List ℕ) → words ≡ word ∷ (number ∷ []) → word ≡ codes "scbook" → number ≡ codes "1" → words ≡ codes "scbook" ∷ (codes "1" ∷ [])
version_of words word number e f g = e ∙ (λ i. f i ∷ (g i ∷ []))

pub version_is : (words : List (List ℕ)) (word number : List ℕ) → words ≡ word ∷ (number ∷ []) → words ≡ codes "scbook" ∷ (codes "1" ∷ []) → (word ≡ codes "scbook") × (number ≡ codes "1")
version_is words word number e v = (cc, cc)

-- another first line is told with its number
pub version_refused : (ls head : List (List ℕ)) (line : List ℕ) (more : List (List ℕ)) (number : ℕ) (e : BookError) → ls ≡ head ++ (line ∷ more) → AllByRecursion IsPassedOver head → (IsPassedOver line → ⊥)
    → number ≡ length head + 1 → IsOtherLine line number e → IsVersionRefusal ls e
version_refused ls head line more number Memory is over other n h = tt
version_refused ls head line more number (BadLine at why) is over other n h =
    (h.1.0, inl (record { head = head; line = line; more = more; lines_are = is; head_is = over; line_is = other; other = h.1.1; number_is = h.0 ∙ n }))
version_refused ls head line more number (Doubled at) is over other n h = absurd h
version_refused ls head line more number (UnknownKind at) is over other n h = absurd h
version_refused ls head line more number (LimitOver at z) is over other n h = absurd h
version_refused ls head line more number (Missing word) is over other n h = absurd h
version_refused ls head line more number (WallReach wall reach) is over other n h = absurd h

-- an error that is passed on
pub err_is : {V : Type 0} (r : Result V BookError) (e : BookError) (P : BookError → Type 0) → IsErrAnd r (λ y. y ≡ e) → P e → IfErr r P
err_is (Ok v) e P m h = tt
err_is (Err y) e P m h = subst P (sym m) h

-- a text without lines
pub no_lines : (xs : List ℕ) → true ≡ (length xs == 0) → lines xs ≡ []
no_lines [] e = refl
no_lines (x ∷ xs) e = let n : length (x ∷ xs) ≡ 0 = grind (arith, nat_tests) in absurd (omega arith)

-- lines that are fine, and one more that is taken
pub fine_taken : (stated : Stated) (front : List (List ℕ)) (line : List ℕ) (after next : Stated) → AreFine stated front after → IsTaken after line next → AreFine stated (front ++ line ∷ []) next
fine_taken stated front line after next h (inl t) = subst (λ (x : Stated). AreFine stated (front ++ line ∷ []) x) (sym t.1) (fine_over stated front line after h t.0)
fine_taken stated front line after next h (inr t) = fine_next stated front line after next t.1.0 h t.0 t.1.1.0 t.1.1.1
