-- A text has one refusal.
use Rattle.std.proofs.Common.{◌≡◌, ◌≢◌, ℕ, ◌+◌, ◌⊎◌, ℤ, List, [], ◌∷◌, ◌++◌, length, Some, inl, inr, refl, sym, ap, ◌∙◌, subst}
use Rattle.std.specs.List.{AllByRecursion}
use Rattle.std.specs.Str.Lines.{lines}
use Rattle.text_lines.specs.Blanks.{IsPassedOver}
use Rattle.book_lines.specs.declared.fault.LineFault.TheVariants as fault
use Rattle.book_lines.specs.declared.statement.Statement.{Statement}
use Rattle.book_lines.specs.Statements.{States}
use Rattle.book_read.specs.declared.error.BookError.{BookError}
use Rattle.book_read.specs.declared.error.BookError.TheVariants.{BadLine, Doubled, UnknownKind, LimitOver, Missing, WallReach, Memory}
use Rattle.book_lines.specs.declared.book_word.TheConstants.{BOOK_WORDS}
use Rattle.book_lines.specs.declared.book_word.BookWord.{BookWord}
use Rattle.book_read.specs.Stated.{Stated, nothing_stated}
use Rattle.book_read.specs.Limited.{Limited, numbers, counts, IsFirstOutside}
use Rattle.book_read.specs.Joining.{IsNew, KnowsKinds}
use Rattle.book_read.specs.Reading.{AreFine, IsRefused, HasNoVersion, IsRefusedAmong, IsFirstMissing}
use Rattle.book_read.specs.Book.{Said, whole, AreRead, StopsInLine, StopsWith}
use Rattle.book_read.specs.Drafted.{IsUnfinished}
use Rattle.book_read.proofs.LineLaws.{LineLaws}
use Rattle.book_read.proofs.OneBook.{heads_once, begun_once, fine_once, read_once, whole_once}
use Rattle.book_read.proofs.NoRefusal.{among_none, version_there, none_first, passed_all}

-- ---- one line

over_once : (ns : List Limited) (z w : ℤ) → IsFirstOutside ns (Some z) → IsFirstOutside ns (Some w) → z ≡ w
over_once [] z w h k = absurd (cc h)
over_once (n ∷ ns) z w (inl h) (inl k) = over_once ns z w h.1 k.1
over_once (n ∷ ns) z w (inl h) (inr k) = absurd (k.0 h.0)
over_once (n ∷ ns) z w (inr h) (inl k) = absurd (h.0 k.0)
over_once (n ∷ ns) z w (inr h) (inr k) = let a = h.1 in let b = k.1 in cc

new_as : (laws : LineLaws) (stated : Stated) (line : List ℕ) (s t : Statement) → States line s → States line t → IsNew stated s → IsNew stated t
new_as laws stated line s t h k n = subst (λ (x : Statement). IsNew stated x) (laws.one line s t h k) n

knows_as : (laws : LineLaws) (stated : Stated) (line : List ℕ) (s t : Statement) → States line s → States line t → KnowsKinds stated s → KnowsKinds stated t
knows_as laws stated line s t h k n = subst (λ (x : Statement). KnowsKinds stated x) (laws.one line s t h k) n

refused_once : (laws : LineLaws) (stated : Stated) (line : List ℕ) (n : ℕ) (e f : BookError) → IsRefused stated line n e → IsRefused stated line n f → e ≡ f
refused_once laws stated line n (BadLine a v) (BadLine b w) h k = let at : a ≡ b = h.0 ∙ sym k.0 in let why = laws.one_fault line v w h.1 k.1 in cc
refused_once laws stated line n (BadLine a v) (Doubled b) h k = absurd (laws.no_fault line k.1.0 v k.1.1.0 h.1)
refused_once laws stated line n (BadLine a v) (UnknownKind b) h k = absurd (laws.no_fault line k.1.0 v k.1.1.0 h.1)
refused_once laws stated line n (BadLine a v) (LimitOver b w) h k = absurd (laws.no_fault line k.1.0 v k.1.1.0 h.1)
refused_once laws stated line n (Doubled a) (BadLine b w) h k = absurd (laws.no_fault line h.1.0 w h.1.1.0 k.1)
refused_once laws stated line n (Doubled a) (Doubled b) h k = ap Doubled (h.0 ∙ sym k.0)
refused_once laws stated line n (Doubled a) (UnknownKind b) h k = absurd (h.1.1.1 (new_as laws stated line k.1.0 h.1.0 k.1.1.0 h.1.1.0 k.1.1.1.0))
refused_once laws stated line n (Doubled a) (LimitOver b w) h k = absurd (h.1.1.1 (new_as laws stated line k.1.0 h.1.0 k.1.1.0 h.1.1.0 k.1.1.1.0))
refused_once laws stated line n (UnknownKind a) (BadLine b w) h k = absurd (laws.no_fault line h.1.0 w h.1.1.0 k.1)
refused_once laws stated line n (UnknownKind a) (Doubled b) h k = absurd (k.1.1.1 (new_as laws stated line h.1.0 k.1.0 h.1.1.0 k.1.1.0 h.1.1.1.0))
refused_once laws stated line n (UnknownKind a) (UnknownKind b) h k = ap UnknownKind (h.0 ∙ sym k.0)
refused_once laws stated line n (UnknownKind a) (LimitOver b w) h k = absurd (h.1.1.1.1 (knows_as laws stated line k.1.0 h.1.0 k.1.1.0 h.1.1.0 k.1.1.1.1.0))
refused_once laws stated line n (LimitOver a v) (BadLine b w) h k = absurd (laws.no_fault line h.1.0 w h.1.1.0 k.1)
refused_once laws stated line n (LimitOver a v) (Doubled b) h k = absurd (k.1.1.1 (new_as laws stated line h.1.0 k.1.0 h.1.1.0 k.1.1.0 h.1.1.1.0))
refused_once laws stated line n (LimitOver a v) (UnknownKind b) h k = absurd (k.1.1.1.1 (knows_as laws stated line h.1.0 k.1.0 h.1.1.0 k.1.1.0 h.1.1.1.1.0))
refused_once laws stated line n (LimitOver a v) (LimitOver b w) h k =
    let at : a ≡ b = h.0 ∙ sym k.0 in
    let same = laws.one line h.1.0 k.1.0 h.1.1.0 k.1.1.0 in
    let over = over_once (numbers k.1.0 ++ counts stated k.1.0) v w (subst (λ (x : Statement). IsFirstOutside (numbers x ++ counts stated x) (Some v)) same h.1.1.1.1.1) k.1.1.1.1.1 in
    cc
refused_once laws stated line n (Missing a) f h k = absurd h
refused_once laws stated line n (WallReach a b) f h k = absurd h
refused_once laws stated line n Memory f h k = absurd h
refused_once laws stated line n (BadLine a v) (Missing b) h k = absurd k
refused_once laws stated line n (BadLine a v) (WallReach b c) h k = absurd k
refused_once laws stated line n (BadLine a v) Memory h k = absurd k
refused_once laws stated line n (Doubled a) (Missing b) h k = absurd k
refused_once laws stated line n (Doubled a) (WallReach b c) h k = absurd k
refused_once laws stated line n (Doubled a) Memory h k = absurd k
refused_once laws stated line n (UnknownKind a) (Missing b) h k = absurd k
refused_once laws stated line n (UnknownKind a) (WallReach b c) h k = absurd k
refused_once laws stated line n (UnknownKind a) Memory h k = absurd k
refused_once laws stated line n (LimitOver a v) (Missing b) h k = absurd k
refused_once laws stated line n (LimitOver a v) (WallReach b c) h k = absurd k
refused_once laws stated line n (LimitOver a v) Memory h k = absurd k

-- ---- the first line that is not fine

abbrev Fronts : List (List ℕ) → List (List ℕ) → List ℕ → List ℕ → Type 0
Fronts front other line first =
    ((front ≡ other) × (line ≡ first))
    ⊎ (((m : List (List ℕ)) × (other ≡ front ++ (line ∷ m))) ⊎ ((m : List (List ℕ)) × (front ≡ other ++ (first ∷ m))))

one_longer : (l o line first : List ℕ) (front other : List (List ℕ)) → l ≡ o → Fronts front other line first → Fronts (l ∷ front) (o ∷ other) line first
one_longer l o line first front other e (inl h) = let a = h.0 in inl (cc, h.1)
one_longer l o line first front other e (inr (inl h)) = let a = h.1 in inr (inl (h.0, cc))
one_longer l o line first front other e (inr (inr h)) = let a = h.1 in inr (inr (h.0, cc))

fronts : (front other : List (List ℕ)) (line first : List ℕ) (more rest : List (List ℕ)) → front ++ (line ∷ more) ≡ other ++ (first ∷ rest) → Fronts front other line first
fronts [] [] line first more rest e = inl (refl, cc)
fronts [] (o ∷ other) line first more rest e = inr (inl (other, cc))
fronts (l ∷ front) [] line first more rest e = inr (inr (front, cc))
fronts (l ∷ front) (o ∷ other) line first more rest e =
    let tail : front ++ (line ∷ more) ≡ other ++ (first ∷ rest) = cc in
    let head : l ≡ o = cc in
    one_longer l o line first front other head (fronts front other line first more rest tail)

among_once : (laws : LineLaws) (before : ℕ) (ls : List (List ℕ)) (e f : BookError) → IsRefusedAmong before ls e → IsRefusedAmong before ls f → e ≡ f
among_once laws before ls e f h k = by_fronts (fronts h.front k.front h.line k.line h.more k.more (sym h.lines_are ∙ k.lines_are))
  where
    by_fronts : Fronts h.front k.front h.line k.line → e ≡ f
    by_fronts (inl same) =
        let stated = fine_once laws nothing_stated k.front h.stated k.stated (subst (λ (xs : List (List ℕ)). AreFine nothing_stated xs h.stated) same.0 h.fine) k.fine in
        let first = subst (λ (xs : List (List ℕ)). IsRefused h.stated h.line ((before + length xs) + 1) e) same.0 h.refused in
        let second = subst (λ (s : Stated). IsRefused s h.line ((before + length k.front) + 1) e) stated first in
        refused_once laws k.stated k.line ((before + length k.front) + 1) e f (subst (λ (l : List ℕ). IsRefused k.stated l ((before + length k.front) + 1) e) same.1 second) k.refused
    by_fronts (inr (inl longer)) = absurd (among_none laws before k.front k.stated e k.fine
        (record { front = h.front; line = h.line; more = longer.0; lines_are = longer.1; stated = h.stated; fine = h.fine; line_is = h.line_is; refused = h.refused }))
    by_fronts (inr (inr longer)) = absurd (among_none laws before h.front h.stated f h.fine
        (record { front = k.front; line = k.line; more = longer.0; lines_are = longer.1; stated = k.stated; fine = k.fine; line_is = k.line_is; refused = k.refused }))

-- ---- the version, and the end

version_once : (ls : List (List ℕ)) (n m : ℕ) → HasNoVersion ls n → HasNoVersion ls m → n ≡ m
version_once ls n m (inl h) (inl k) =
    let r = heads_once ls h.head k.head h.line k.line h.more k.more h.lines_are k.lines_are h.head_is k.head_is h.line_is k.line_is in
    h.number_is ∙ ap (λ (xs : List (List ℕ)). length xs + 1) r.0 ∙ sym k.number_is
version_once ls n m (inl h) (inr k) = absurd (h.line_is (passed_all h.head h.line h.more (subst (λ (xs : List (List ℕ)). AllByRecursion IsPassedOver xs) h.lines_are k.0)))
version_once ls n m (inr h) (inl k) = absurd (k.line_is (passed_all k.head k.line k.more (subst (λ (xs : List (List ℕ)). AllByRecursion IsPassedOver xs) k.lines_are h.0)))
version_once ls n m (inr h) (inr k) = h.1 ∙ sym k.1

missing_once : (stated : Stated) (ws : List BookWord) (v w : BookWord) → IsFirstMissing stated ws v → IsFirstMissing stated ws w → v ≡ w
missing_once stated [] v w h k = absurd h
missing_once stated (x ∷ ws) v w (inl h) (inl k) = h.1 ∙ sym k.1
missing_once stated (x ∷ ws) v w (inl h) (inr k) = absurd (k.0 h.0)
missing_once stated (x ∷ ws) v w (inr h) (inl k) = absurd (h.0 k.0)
missing_once stated (x ∷ ws) v w (inr h) (inr k) = missing_once stated ws v w h.1 k.1

missing_or : (stated : Stated) (w : BookWord) (said : Said) → stated ≡ whole said → said.kinds ≢ [] → IsFirstMissing stated BOOK_WORDS w → ⊥
missing_or stated w said e some h = none_first said some BOOK_WORDS w (subst (λ (s : Stated). IsFirstMissing s BOOK_WORDS w) e h)

unfinished_once : (stated : Stated) (e f : BookError) → IsUnfinished stated e → IsUnfinished stated f → e ≡ f
unfinished_once stated (Missing v) (Missing w) h k = ap Missing (missing_once stated BOOK_WORDS v w h k)
unfinished_once stated (Missing v) (WallReach c d) h k = absurd (missing_or stated v k.0 k.1.0 k.1.1.0 h)
unfinished_once stated (WallReach a b) (Missing w) h k = absurd (missing_or stated w h.0 h.1.0 h.1.1.0 k)
unfinished_once stated (WallReach a b) (WallReach c d) h k =
    let same = whole_once h.0 k.0 (sym h.1.0 ∙ k.1.0) in
    let wall : a ≡ c = sym h.1.1.1.0 ∙ ap (λ (s : Said). s.settings.wall) same ∙ k.1.1.1.0 in
    let reach : b ≡ d = sym h.1.1.1.1.0 ∙ ap (λ (s : Said). s.settings.reach) same ∙ k.1.1.1.1.0 in
    cc
unfinished_once stated (BadLine a v) f h k = absurd h
unfinished_once stated (Doubled a) f h k = absurd h
unfinished_once stated (UnknownKind a) f h k = absurd h
unfinished_once stated (LimitOver a v) f h k = absurd h
unfinished_once stated Memory f h k = absurd h
unfinished_once stated (Missing v) (BadLine b w) h k = absurd k
unfinished_once stated (Missing v) (Doubled b) h k = absurd k
unfinished_once stated (Missing v) (UnknownKind b) h k = absurd k
unfinished_once stated (Missing v) (LimitOver b w) h k = absurd k
unfinished_once stated (Missing v) Memory h k = absurd k
unfinished_once stated (WallReach a b) (BadLine c w) h k = absurd k
unfinished_once stated (WallReach a b) (Doubled c) h k = absurd k
unfinished_once stated (WallReach a b) (UnknownKind c) h k = absurd k
unfinished_once stated (WallReach a b) (LimitOver c w) h k = absurd k
unfinished_once stated (WallReach a b) Memory h k = absurd k

-- ---- a text

record IsEnd (text : List ℕ) (e : BookError) : Type 0 where
  stated : Stated
  read : AreRead (lines text) stated
  unfinished : IsUnfinished stated e

record IsVersionless (text : List ℕ) (e : BookError) : Type 0 where
  line : ℕ
  none : HasNoVersion (lines text) line
  error_is : e ≡ BadLine line fault.Version

abbrev Outcome : List ℕ → BookError → Type 0
Outcome text e = IsVersionless text e ⊎ (StopsInLine (lines text) e ⊎ IsEnd text e)

outcome : (text : List ℕ) (e : BookError) → StopsWith text e → e ≢ Memory → Outcome text e
outcome text (BadLine line fault.Version) h other = inl (record { line = line; none = h; error_is = refl })
outcome text (BadLine line fault.Word) h other = inr (inl h)
outcome text (BadLine line fault.Form) h other = inr (inl h)
outcome text (BadLine line fault.Number) h other = inr (inl h)
outcome text (BadLine line fault.Body) h other = inr (inl h)
outcome text (BadLine line fault.Empty) h other = inr (inl h)
outcome text (Doubled line) h other = inr (inl h)
outcome text (UnknownKind line) h other = inr (inl h)
outcome text (LimitOver line z) h other = inr (inl h)
outcome text (Missing w) h other = inr (inr (record { stated = h.0; read = h.1.0; unfinished = h.1.1 }))
outcome text (WallReach wall reach) h other =
    inr (inr (record { stated = whole h.0; read = h.1.0.read; unfinished = (h.0, (refl, (h.1.0.some_kind, (h.1.1.0, (h.1.1.1.0, h.1.1.1.1))))) }))
outcome text Memory h other = absurd (other refl)

in_line_or : (laws : LineLaws) (text : List ℕ) (e f : BookError) → StopsInLine (lines text) e → IsEnd text f → ⊥
in_line_or laws text e f h k =
    let r = begun_once (lines text) k.read.number h.number k.read.body h.body k.read.begun h.begun in
    among_none laws h.number h.body k.stated e (subst (λ (body : List (List ℕ)). AreFine nothing_stated body k.stated) r.1 k.read.fine) h.refused

outcome_once : (laws : LineLaws) (text : List ℕ) (e f : BookError) → Outcome text e → Outcome text f → e ≡ f
outcome_once laws text e f (inl h) (inl k) =
    h.error_is ∙ ap (λ (n : ℕ). BadLine n fault.Version) (version_once (lines text) h.line k.line h.none k.none) ∙ sym k.error_is
outcome_once laws text e f (inl h) (inr (inl k)) = absurd (version_there (lines text) k.number h.line k.body k.begun h.none)
outcome_once laws text e f (inl h) (inr (inr k)) = absurd (version_there (lines text) k.read.number h.line k.read.body k.read.begun h.none)
outcome_once laws text e f (inr (inl h)) (inl k) = absurd (version_there (lines text) h.number k.line h.body h.begun k.none)
outcome_once laws text e f (inr (inr h)) (inl k) = absurd (version_there (lines text) h.read.number k.line h.read.body h.read.begun k.none)
outcome_once laws text e f (inr (inl h)) (inr (inl k)) =
    let r = begun_once (lines text) h.number k.number h.body k.body h.begun k.begun in
    among_once laws k.number k.body e f (subst (λ (body : List (List ℕ)). IsRefusedAmong k.number body e) r.1 (subst (λ (n : ℕ). IsRefusedAmong n h.body e) r.0 h.refused)) k.refused
outcome_once laws text e f (inr (inl h)) (inr (inr k)) = absurd (in_line_or laws text e f h k)
outcome_once laws text e f (inr (inr h)) (inr (inl k)) = absurd (in_line_or laws text f e k h)
outcome_once laws text e f (inr (inr h)) (inr (inr k)) =
    let same = read_once laws (lines text) h.stated k.stated h.read k.read in
    unfinished_once k.stated e f (subst (λ (s : Stated). IsUnfinished s e) same h.unfinished) k.unfinished

pub one_refusal : (laws : LineLaws) (text : List ℕ) (e f : BookError) → StopsWith text e → StopsWith text f → e ≢ Memory → f ≢ Memory → e ≡ f
one_refusal laws text e f h k other other_too = outcome_once laws text e f (outcome text e h other) (outcome text f k other_too)
