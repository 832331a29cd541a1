-- A text says one book at most.
use Rattle.std.proofs.Common.{◌≡◌, ℕ, ◌+◌, true, false, not, List, [], ◌∷◌, ◌++◌, length, filter, inl, inr, ◌==◌, eqb, refl, sym, ap, ◌∙◌, subst, arith}
use Rattle.std.specs.List.{AllByRecursion, onto_first}
use Rattle.std.specs.Str.Lines.{lines}
use Rattle.std.proofs.lemmas.Bool.{false≢true, ne_eqb}
use Rattle.std.proofs.lemmas.Bool.Decides.{nat_tests}
use Rattle.text_lines.specs.Blanks.{is_blank_byte, is_comment, IsBlank, IsPassedOver, words}
use Rattle.book_lines.specs.declared.statement.Statement.{Statement}
use Rattle.book_read.specs.Stated.{Stated, nothing_stated, joined}
use Rattle.book_read.specs.Reading.{AreFine, IsVersion, IsBegun}
use Rattle.book_read.specs.Book.{Said, whole, AreRead, Says}
use Rattle.text_lines.specs.LineLaws.{split_some}
use Rattle.book_read.proofs.LineLaws.{LineLaws}
use Rattle.book_read.proofs.Settings.{settings_once}
use Rattle.std.proofs.lemmas.Option.{same_Some}

-- ---- the version's line isn't passed over

first_bytes : (b c : ℕ) (bs cs : List ℕ) (ts us : List (List ℕ)) → (b ∷ bs) ∷ ts ≡ (c ∷ cs) ∷ us → b ≡ c
first_bytes b c bs cs ts us e = cc

kept : (x : List ℕ) (more : List (List ℕ)) → filter (λ w. not (length w == 0)) ((35 ∷ x) ∷ more) ≡ (35 ∷ x) ∷ filter (λ w. not (length w == 0)) more
kept x more = let some : eqb (length (35 ∷ x)) 0 ≡ false = ne_eqb _ _ (omega arith) in rw some refl

hash_words : (bs : List ℕ) → (x : List ℕ) × ((more : List (List ℕ)) × (words (35 ∷ bs) ≡ (35 ∷ x) ∷ more))
hash_words bs =
    let r = split_some is_blank_byte bs in
    (r.part, (filter (λ w. not (length w == 0)) r.more, ap (λ (ps : List (List ℕ)). filter (λ w. not (length w == 0)) (onto_first 35 ps)) r.parts_are ∙ kept r.part r.more))

hash_first : (b : ℕ) (bs : List ℕ) → is_comment (b ∷ bs) ≡ true → b ≡ 35
hash_first b bs h = grind (arith, nat_tests)

comment_other : (line : List ℕ) → is_comment line ≡ true → IsVersion line → ⊥
comment_other [] h v = false≢true h
comment_other (b ∷ bs) h v =
    let hash = hash_first b bs h in
    let r = hash_words bs in
    let first = first_bytes 35 115 r.0 _ r.1.0 _ (sym r.1.1 ∙ ap (λ (c : ℕ). words (c ∷ bs)) (sym hash) ∙ v) in
    omega arith

blank_words : (line : List ℕ) → IsBlank line → words line ≡ []
blank_words [] h = refl
blank_words (b ∷ bs) h = rw h.0 (blank_words bs h.1)

pub version_other : (line : List ℕ) → IsPassedOver line → IsVersion line → ⊥
version_other line (inl comment) v = comment_other line comment v
version_other line (inr blank) v = let none = blank_words line blank in absurd (cc (none, v))

-- ---- what stands behind the first line that isn't passed over

pub heads_once : (ls head other : List (List ℕ)) (line first : List ℕ) (body more : List (List ℕ)) → ls ≡ head ++ (line ∷ body) → ls ≡ other ++ (first ∷ more) → AllByRecursion IsPassedOver head → AllByRecursion IsPassedOver other
    → (IsPassedOver line → ⊥) → (IsPassedOver first → ⊥) → (head ≡ other) × ((line ≡ first) × (body ≡ more))
heads_once ls [] [] line first body more e f h k a b = (refl, (cc, cc))
heads_once ls [] (o ∷ other) line first body more e f h k a b = let same : o ≡ line = cc in absurd (a (subst IsPassedOver same k.0))
heads_once ls (l ∷ head) [] line first body more e f h k a b = let same : l ≡ first = cc in absurd (b (subst IsPassedOver same h.0))
heads_once [] (l ∷ head) (o ∷ other) line first body more e f h k a b = absurd (cc e)
heads_once (t ∷ ls) (l ∷ head) (o ∷ other) line first body more e f h k a b =
    let rest : ls ≡ head ++ (line ∷ body) = cc in
    let rest_too : ls ≡ other ++ (first ∷ more) = cc in
    let r = heads_once ls head other line first body more rest rest_too h.1 k.1 a b in
    ((let same = r.0 in cc), r.1)

pub begun_once : (ls : List (List ℕ)) (n m : ℕ) (body more : List (List ℕ)) → IsBegun ls n body → IsBegun ls m more → (n ≡ m) × (body ≡ more)
begun_once ls n m body more h k =
    let r = heads_once ls h.head k.head h.version k.version body more h.lines_are k.lines_are h.head_is k.head_is (λ over. version_other h.version over h.version_is) (λ over. version_other k.version over k.version_is) in
    (h.number_is ∙ ap (λ (ls : List (List ℕ)). length ls + 1) r.0 ∙ sym k.number_is, r.1.1)

-- ---- what lines state together

pub fine_once : (laws : LineLaws) (stated : Stated) (ls : List (List ℕ)) (a b : Stated) → AreFine stated ls a → AreFine stated ls b → a ≡ b
fine_once laws stated [] a b h k = h ∙ sym k
fine_once laws stated (line ∷ ls) a b (inl h) (inl k) = fine_once laws stated ls a b h.1 k.1
fine_once laws stated (line ∷ ls) a b (inl h) (inr k) = absurd (k.0 h.0)
fine_once laws stated (line ∷ ls) a b (inr h) (inl k) = absurd (h.0 k.0)
fine_once laws stated (line ∷ ls) a b (inr h) (inr k) =
    let same = laws.one line h.1.0 k.1.0 h.1.1.0.states k.1.1.0.states in
    fine_once laws (joined stated k.1.0) ls a b (subst (λ (s : Statement). AreFine (joined stated s) ls a) same h.1.1.1) k.1.1.1

pub read_once : (laws : LineLaws) (ls : List (List ℕ)) (a b : Stated) → AreRead ls a → AreRead ls b → a ≡ b
read_once laws ls a b h k =
    let r = begun_once ls h.number k.number h.body k.body h.begun k.begun in
    fine_once laws nothing_stated k.body a b (subst (λ (body : List (List ℕ)). AreFine nothing_stated body a) r.1 h.fine) k.fine

-- a book is known by what is stated
pub whole_once : (a b : Said) → whole a ≡ whole b → a ≡ b
whole_once a b e =
    let settings = settings_once a.settings b.settings (ap (λ (s : Stated). s.settings) e) in
    let hand = same_Some a.hand b.hand (ap (λ (s : Stated). s.hand) e) in
    let start = same_Some a.start b.start (ap (λ (s : Stated). s.start) e) in
    λ i. record {
      settings = settings i;
      hand = hand i;
      kinds = (ap (λ (s : Stated). s.kinds) e) i;
      start = start i;
      turns = (ap (λ (s : Stated). s.turns) e) i;
      salvos = (ap (λ (s : Stated). s.salvos) e) i;
    }

pub one_book : (laws : LineLaws) (text : List ℕ) (a b : Said) → Says text a → Says text b → a ≡ b
one_book laws text a b h k = whole_once a b (read_once laws (lines text) (whole a) (whole b) h.read k.read)
