-- The first lines of a text.
use Rattle.std.proofs.Common.{◌≡◌, ℕ, ◌<◌, ◌≤◌, false, List, [], ◌∷◌, ◌++◌, length, refl, sym, ap, ◌∙◌, subst, inl, inr, arith, eqb}
use Rattle.std.specs.List.{AllByRecursion}
use Rattle.std.specs.Str.Lines.{lines}
use Rattle.std.proofs.lemmas.List.{append_assoc, append-nil, length-append}
use Rattle.text_lines.specs.Lines.{front, first_line, behind}
use Rattle.life_rle.specs.Rests.{BeginsWithLines, EndsWith}
use Rattle.text_lines.specs.LineLaws.{feed_or_not, lines_step}

-- ---- what stands at the end

pub ends_on : (text middle rest : List ℕ) → EndsWith text middle → EndsWith middle rest → EndsWith text rest
ends_on text middle rest p q = record { before = p.before ++ q.before; split = p.split ∙ ap (λ (bs : List ℕ). p.before ++ bs) q.split ∙ sym (append_assoc p.before q.before rest) }

pub ends_short : (text rest : List ℕ) → EndsWith text rest → length rest ≤ length text
ends_short text rest p = omega (arith, length-append p.before rest, ap length p.split)

pub behind_ends : (text : List ℕ) → EndsWith text (behind text)
behind_ends text =
    elim (feed_or_not text) [
      | inl h ↦ record { before = front text ++ (10 ∷ []); split = h.whole ∙ sym (append_assoc (front text) (10 ∷ []) (behind text)) }
      | inr h ↦ record { before = text; split = sym (ap (λ (bs : List ℕ). text ++ bs) h.behind_is ∙ append-nil text) }
    ]

-- ---- lines before a rest

pub lines_end : (text : List ℕ) (head : List (List ℕ)) (rest : List ℕ) → BeginsWithLines text head rest → EndsWith text rest
lines_end text [] rest h = record { before = []; split = h }
lines_end text (line ∷ head) rest h = ends_on text (behind text) rest (behind_ends text) (lines_end (behind text) head rest h.1.1)

pub lines_split : (text : List ℕ) (head : List (List ℕ)) (rest : List ℕ) → BeginsWithLines text head rest → lines text ≡ head ++ lines rest
lines_split text [] rest h = ap lines h
lines_split text (line ∷ head) rest h = lines_step text h.0 ∙ (λ k. h.1.0 k ∷ lines_split (behind text) head rest h.1.1 k)

pub lines_push : (text : List ℕ) (head : List (List ℕ)) (rest : List ℕ) → BeginsWithLines text head rest → 0 < length rest → BeginsWithLines text (head ++ (first_line rest ∷ [])) (behind rest)
lines_push text [] rest h some = (omega (arith, ap length h), (ap first_line h, ap behind h))
lines_push text (line ∷ head) rest h some = (h.0, (h.1.0, lines_push (behind text) head rest h.1.1 some))

-- two ways to go by lines up to the first of another kind are one
pub record IsSameRest (head other : List (List ℕ)) (rest last : List ℕ) : Type 0 where
  pub heads : head ≡ other
  pub rests : rest ≡ last

pub one_rest : (P : List ℕ → Type 0) (text : List ℕ) (head other : List (List ℕ)) (rest last : List ℕ) → BeginsWithLines text head rest → BeginsWithLines text other last
    → AllByRecursion P head → AllByRecursion P other → ¬ P (first_line rest) → ¬ P (first_line last) → IsSameRest head other rest last
one_rest P text [] [] rest last g h p q n m = record { heads = refl; rests = sym g ∙ h }
one_rest P text [] (l ∷ other) rest last g h p q n m = absurd (n (subst P (sym h.1.0 ∙ ap first_line g) q.0))
one_rest P text (l ∷ head) [] rest last g h p q n m = absurd (m (subst P (sym g.1.0 ∙ ap first_line h) p.0))
one_rest P text (l ∷ head) (r ∷ other) rest last g h p q n m =
    let more = one_rest P (behind text) head other rest last g.1.1 h.1.1 p.1 q.1 n m in
    record { heads = (λ k. (sym g.1.0 ∙ h.1.0) k ∷ more.heads k); rests = more.rests }

-- ---- empty or not

pub some_of_false : (text : List ℕ) → false ≡ eqb (length text) 0 → 0 < length text
some_of_false [] e = cc
some_of_false (b ∷ bs) e = omega arith
