-- A text that says a book has no refusal.
use Rattle.std.proofs.Common.{◌≡◌, ◌≢◌, ℕ, ℤ, ◌+ℤ◌, ◌≤ℤ◌, List, [], ◌∷◌, ◌++◌, Some, None, inl, inr, refl, sym, ap, ◌∙◌, subst, arith}
use Rattle.std.specs.List.{AllByRecursion}
use Rattle.std.specs.Str.Lines.{lines}
use Rattle.std.proofs.lemmas.Int.{ints}
use Rattle.text_lines.specs.Blanks.{IsPassedOver}
use Rattle.book_lines.specs.declared.fault.LineFault.TheVariants as fault
use Rattle.book_lines.specs.declared.statement.Statement.{Statement}
use Rattle.book_read.specs.declared.error.BookError.{BookError}
use Rattle.book_read.specs.declared.error.BookError.TheVariants.{BadLine, Doubled, UnknownKind, LimitOver, Missing, WallReach, Memory}
use Rattle.book_lines.specs.declared.book_word.TheConstants.{BOOK_WORDS}
use Rattle.book_lines.specs.declared.book_word.BookWord.{BookWord}
use Rattle.book_lines.specs.declared.book_word.BookWord.TheVariants as word
use Rattle.book_read.specs.Stated.{Stated, nothing_stated, joined}
use Rattle.book_read.specs.Limited.{Limited, numbers, counts, IsFirstOutside}
use Rattle.book_read.specs.Joining.{IsNew, KnowsKinds, IsFine}
use Rattle.book_read.specs.Reading.{AreFine, IsRefused, IsVersion, IsBegun, HasNoVersion, IsRefusedAmong, IsMissing, IsFirstMissing}
use Rattle.book_read.specs.Book.{Said, whole, Says, StopsInLine, StopsWith}
use Rattle.book_read.proofs.LineLaws.{LineLaws}
use Rattle.book_read.proofs.OneBook.{heads_once, begun_once, fine_once, read_once, whole_once, version_other}
use Rattle.book_parts.specs.declared.limits.TheConstants.{WALL_MARGIN}

-- ---- a fine line is not refused

none_over : (ns : List Limited) (z : ℤ) → IsFirstOutside ns None → IsFirstOutside ns (Some z) → ⊥
none_over [] z h k = absurd (cc k)
none_over (n ∷ ns) z (inl h) (inl k) = none_over ns z h.1 k.1
none_over (n ∷ ns) z (inl h) (inr k) = k.0 h.0
none_over (n ∷ ns) z (inr h) k = absurd (cc h.1)

fine_stays : (laws : LineLaws) (stated : Stated) (line : List ℕ) (s : Statement) (number : ℕ) (e : BookError) → IsFine stated line s → IsRefused stated line number e → ⊥
fine_stays laws stated line s number (BadLine at why) fine r = laws.no_fault line s why fine.states r.1
fine_stays laws stated line s number (Doubled at) fine r =
    r.1.1.1 (subst (λ (t : Statement). IsNew stated t) (laws.one line s r.1.0 fine.states r.1.1.0) fine.new)
fine_stays laws stated line s number (UnknownKind at) fine r =
    r.1.1.1.1 (subst (λ (t : Statement). KnowsKinds stated t) (laws.one line s r.1.0 fine.states r.1.1.0) fine.known)
fine_stays laws stated line s number (LimitOver at over) fine r =
    none_over (numbers r.1.0 ++ counts stated r.1.0) over (subst (λ (t : Statement). IsFirstOutside (numbers t ++ counts stated t) None) (laws.one line s r.1.0 fine.states r.1.1.0) fine.within) r.1.1.1.1.1
fine_stays laws stated line s number (Missing w) fine r = r
fine_stays laws stated line s number (WallReach wall reach) fine r = r
fine_stays laws stated line s number Memory fine r = r

-- lines that are fine, in two parts
fine_parts : (stated : Stated) (front rest : List (List ℕ)) (after : Stated) → AreFine stated (front ++ rest) after → (mid : Stated) × (AreFine stated front mid × AreFine mid rest after)
fine_parts stated [] rest after h = (stated, (refl, h))
fine_parts stated (line ∷ front) rest after (inl h) = let r = fine_parts stated front rest after h.1 in (r.0, (inl (h.0, r.1.0), r.1.1))
fine_parts stated (line ∷ front) rest after (inr h) =
    let r = fine_parts (joined stated h.1.0) front rest after h.1.1.1 in (r.0, (inr (h.0, (h.1.0, (h.1.1.0, r.1.0))), r.1.1))

pub among_none : (laws : LineLaws) (before : ℕ) (ls : List (List ℕ)) (after : Stated) (e : BookError) → AreFine nothing_stated ls after → IsRefusedAmong before ls e → ⊥
among_none laws before ls after e fine r =
    let parts = fine_parts nothing_stated r.front (r.line ∷ r.more) after (subst (λ (xs : List (List ℕ)). AreFine nothing_stated xs after) r.lines_are fine) in
    let same = fine_once laws nothing_stated r.front parts.0 r.stated parts.1.0 r.fine in
    at_line (subst (λ (s : Stated). AreFine s (r.line ∷ r.more) after) same parts.1.1)
  where
    at_line : AreFine r.stated (r.line ∷ r.more) after → ⊥
    at_line (inl h) = r.line_is h.0
    at_line (inr h) = fine_stays laws r.stated r.line h.1.0 _ e h.1.1.0 r.refused

-- ---- the version is there

pub passed_all : (head : List (List ℕ)) (line : List ℕ) (body : List (List ℕ)) → AllByRecursion IsPassedOver (head ++ (line ∷ body)) → IsPassedOver line
passed_all [] line body h = h.0
passed_all (l ∷ head) line body h = passed_all head line body h.1

pub version_there : (ls : List (List ℕ)) (n m : ℕ) (body : List (List ℕ)) → IsBegun ls n body → HasNoVersion ls m → ⊥
version_there ls n m body b (inl h) =
    let r = heads_once ls b.head h.head b.version h.line body h.more b.lines_are h.lines_are b.head_is h.head_is (λ over. version_other b.version over b.version_is) h.line_is in
    h.other (subst IsVersion r.1.0 b.version_is)
version_there ls n m body b (inr h) =
    version_other b.version (passed_all b.head b.version body (subst (λ (xs : List (List ℕ)). AllByRecursion IsPassedOver xs) b.lines_are h.0)) b.version_is

-- ---- nothing is missing

none_missing : (said : Said) → said.kinds ≢ [] → (w : BookWord) → IsMissing (whole said) w → ⊥
none_missing said some word.Elbow h = some h
none_missing said some other h = absurd (cc h)

pub none_first : (said : Said) → said.kinds ≢ [] → (ws : List BookWord) (w : BookWord) → IsFirstMissing (whole said) ws w → ⊥
none_first said some [] w h = h
none_first said some (v ∷ ws) w (inl h) = none_missing said some v h.0
none_first said some (v ∷ ws) w (inr h) = none_first said some ws w h.1

in_line : (laws : LineLaws) (text : List ℕ) (said : Said) (e : BookError) → Says text said → StopsInLine (lines text) e → ⊥
in_line laws text said e says stops =
    let r = begun_once (lines text) says.read.number stops.number says.read.body stops.body says.read.begun stops.begun in
    among_none laws stops.number stops.body (whole said) e (subst (λ (body : List (List ℕ)). AreFine nothing_stated body (whole said)) r.1 says.read.fine) stops.refused

pub no_refusal : (laws : LineLaws) (text : List ℕ) (said : Said) (e : BookError) → Says text said → (said.settings.wall +ℤ WALL_MARGIN) ≤ℤ said.settings.reach → StopsWith text e → e ≡ Memory
no_refusal laws text said Memory says far h = refl
no_refusal laws text said (BadLine line fault.Version) says far h = absurd (version_there (lines text) says.read.number line says.read.body says.read.begun h)
no_refusal laws text said (BadLine line fault.Word) says far h = absurd (in_line laws text said _ says h)
no_refusal laws text said (BadLine line fault.Form) says far h = absurd (in_line laws text said _ says h)
no_refusal laws text said (BadLine line fault.Number) says far h = absurd (in_line laws text said _ says h)
no_refusal laws text said (BadLine line fault.Body) says far h = absurd (in_line laws text said _ says h)
no_refusal laws text said (BadLine line fault.Empty) says far h = absurd (in_line laws text said _ says h)
no_refusal laws text said (Doubled line) says far h = absurd (in_line laws text said _ says h)
no_refusal laws text said (UnknownKind line) says far h = absurd (in_line laws text said _ says h)
no_refusal laws text said (LimitOver line z) says far h = absurd (in_line laws text said _ says h)
no_refusal laws text said (Missing w) says far h =
    let same = read_once laws (lines text) h.0 (whole said) h.1.0 says.read in
    absurd (none_first said says.some_kind BOOK_WORDS w (subst (λ (s : Stated). IsFirstMissing s BOOK_WORDS w) same h.1.1))
no_refusal laws text said (WallReach wall reach) says far h =
    let same = whole_once h.0 said (read_once laws (lines text) (whole h.0) (whole said) h.1.0.read says.read) in
    let w = sym (ap (λ (s : Said). s.settings.wall) same) ∙ h.1.1.0 in
    let r = sym (ap (λ (s : Said). s.settings.reach) same) ∙ h.1.1.1.0 in
    let near = h.1.1.1.1 in
    absurd (omega (arith, ints))
