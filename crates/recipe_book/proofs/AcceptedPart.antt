-- The accepted entries are a part of a book's, in their order: what is proper of a book stays so with a part of its entries.
use Rattle.std.specs.Prelude.{◌≡◌, ◌≢◌, ◌⊎◌, ℕ, ◌+◌, ◌≤◌, List, [], ◌∷◌, ◌++◌, length, map, sum_by}
use Rattle.std.specs.List.{AllByRecursion}
use Rattle.std.proofs.Common.{refl, subst, sym, ap, ◌∙◌, inl, inr, arith}
use Rattle.std.proofs.lemmas.List.Sums.{sum_by-cons}
use Rattle.life_cells.specs.Cells.{in_order}
use Rattle.book_parts.specs.Said.{Said}
use Rattle.book_parts.specs.Proper.{IsNoneOf, AreDistinct, IsProperTurn, IsProperSalvo, IsProperBook}
use Rattle.book_parts.specs.declared.turn.RawTurn.{RawTurn}
use Rattle.book_parts.specs.declared.salvo.RawSalvo.{RawSalvo}
use Rattle.recipe_book.specs.Entries.{AreThose}

-- these are some of the others, in their order
abbrev pub IsPartOf : {A : Type 0} → List A → List A → Type 0
IsPartOf part [] = part ≡ []
IsPartOf {A} part (x ∷ xs) = ((rest : List A) × ((part ≡ x ∷ rest) × IsPartOf rest xs)) ⊎ IsPartOf part xs

pub those_are_part : {A : Type 0} (P : A → Type 0) (xs those : List A) → AreThose P xs those → IsPartOf those xs
those_are_part P [] those h = h
those_are_part P (x ∷ xs) those (inl h) = inl (h.1.0, (h.1.1.0, those_are_part P xs h.1.0 h.1.1.1))
those_are_part P (x ∷ xs) those (inr h) = inr (those_are_part P xs those h.1)

part_all : {A : Type 0} (Q : A → Type 0) (part xs : List A) → IsPartOf part xs → AllByRecursion Q xs → AllByRecursion Q part
part_all Q part [] h all = subst (AllByRecursion Q) (sym h) tt
part_all Q part (x ∷ xs) (inl h) all = subst (AllByRecursion Q) (sym h.1.0) (all.0, part_all Q h.0 xs h.1.1 all.1)
part_all Q part (x ∷ xs) (inr h) all = part_all Q part xs h all.1

part_length : {A : Type 0} (part xs : List A) → IsPartOf part xs → length part ≤ length xs
part_length part [] h = let same = ap length h in omega arith
part_length part (x ∷ xs) (inl h) = let same = ap length h.1.0 in let less = part_length h.0 xs h.1.1 in omega arith
part_length part (x ∷ xs) (inr h) = let less = part_length part xs h in omega arith

part_sum : {A : Type 0} (f : A → ℕ) (part xs : List A) → IsPartOf part xs → sum_by f part ≤ sum_by f xs
part_sum f part [] h = let same = ap (sum_by f) h in omega arith
part_sum f part (x ∷ xs) (inl h) =
    let same = ap (sum_by f) h.1.0 ∙ sum_by-cons f x h.0 in
    let whole = sum_by-cons f x xs in
    let less = part_sum f h.0 xs h.1.1 in
    omega arith
part_sum f part (x ∷ xs) (inr h) = let whole = sum_by-cons f x xs in let less = part_sum f part xs h in omega arith

part_map : {A B : Type 0} (f : A → B) (part xs : List A) → IsPartOf part xs → IsPartOf (map f part) (map f xs)
part_map f part [] h = ap (map f) h
part_map f part (x ∷ xs) (inl h) = inl (map f h.0, (ap (map f) h.1.0, part_map f h.0 xs h.1.1))
part_map f part (x ∷ xs) (inr h) = inr (part_map f part xs h)

part_append : {A : Type 0} (p xs q ys : List A) → IsPartOf p xs → IsPartOf q ys → IsPartOf (p ++ q) (xs ++ ys)
part_append p [] q ys h k = subst (λ l. IsPartOf (l ++ q) ys) (sym h) k
part_append p (x ∷ xs) q ys (inl h) k = inl (h.0 ++ q, (ap (λ l. l ++ q) h.1.0, part_append h.0 xs q ys h.1.1 k))
part_append p (x ∷ xs) q ys (inr h) k = inr (part_append p xs q ys h k)

part_distinct : (part names : List (List ℕ)) → IsPartOf part names → AreDistinct names → AreDistinct part
part_distinct part [] h d = subst AreDistinct (sym h) tt
part_distinct part (name ∷ names) (inl h) d =
    subst AreDistinct (sym h.1.0) (part_all (λ other. other ≢ name) h.0 names h.1.1 d.0, part_distinct h.0 names h.1.1 d.1)
part_distinct part (name ∷ names) (inr h) d = part_distinct part names h d.1

-- a book with a part of its turns and salvos is as proper as with all
pub proper_part : (book : Said) (turns : List RawTurn) (salvos : List RawSalvo) → IsPartOf turns book.turns → IsPartOf salvos book.salvos → IsProperBook book →
    IsProperBook (record book { turns = turns; salvos = salvos })
proper_part book turns salvos t s p = record {
  settings = p.settings;
  hand = p.hand;
  some_kind = p.some_kind;
  few_kinds = p.few_kinds;
  kinds = p.kinds;
  kind_names = p.kind_names;
  start = p.start;
  few_turns = let less = part_length turns book.turns t in let most = p.few_turns in omega arith;
  turns = part_all (IsProperTurn (length book.kinds)) turns book.turns t p.turns;
  few_salvos = let less = part_length salvos book.salvos s in let most = p.few_salvos in omega arith;
  salvos = part_all IsProperSalvo salvos book.salvos s p.salvos;
  names = part_distinct _ _
      (part_append _ _ _ _ (part_map (λ (turn : RawTurn). turn.name) turns book.turns t) (part_map (λ (salvo : RawSalvo). salvo.name) salvos book.salvos s))
      p.names;
  few_cells =
      let less = part_sum (λ (salvo : RawSalvo). length (in_order salvo.product)) salvos book.salvos s in
      let most = p.few_cells in
      omega arith;
}
