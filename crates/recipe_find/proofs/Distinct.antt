-- Names of what is found are distinct, and none of them is a book's.
use Rattle.std.proofs.Common.{◌≡◌, ◌≢◌, ℕ, suc, ◌+◌, ◌<◌, ◌≤◌, ◌^◌, List, [], ◌∷◌, ◌++◌, length, map, sym, subst, ◌∙◌, inl, inr, arith}
use Rattle.std.specs.List.{AllByRecursion}
use Rattle.life_plane.specs.ListLaws.{all_append, all_weaker}
use Rattle.book_parts.specs.Said.{Said}
use Rattle.book_parts.specs.Proper.{IsNoneOf, AreDistinct}
use Rattle.book_parts.specs.declared.turn.RawTurn.{RawTurn}
use Rattle.book_parts.specs.declared.salvo.RawSalvo.{RawSalvo}
use Rattle.find_order.specs.declared.candidate.Candidate.{Candidate}
use Rattle.recipe_find.specs.Names.{found_name}
use Rattle.recipe_find.specs.Adding.{lanes_of, delays_of, AddsSalvo, AddsTurn, AreAdded}
use Rattle.recipe_find.proofs.Naming.{name_tells}
use Rattle.recipe_find.proofs.Searching.{none_of_front, none_of_back}

-- ---- names of two lists

joined : (xs ys : List (List ℕ)) → AreDistinct xs → AreDistinct ys → AllByRecursion (IsNoneOf ys) xs → AreDistinct (xs ++ ys)
joined [] ys h k a = k
joined (x ∷ xs) ys h k a = (all_append (λ o. o ≢ x) xs ys h.0 a.0, joined xs ys h.1 k a.1)

first_distinct : (xs ys : List (List ℕ)) → AreDistinct (xs ++ ys) → AreDistinct xs
first_distinct [] ys h = tt
first_distinct (x ∷ xs) ys h = (none_of_front xs ys x h.0, first_distinct xs ys h.1)

second_distinct : (xs ys : List (List ℕ)) → AreDistinct (xs ++ ys) → AreDistinct ys
second_distinct [] ys h = h
second_distinct (x ∷ xs) ys h = second_distinct xs ys h.1

across : (xs ys : List (List ℕ)) → AreDistinct (xs ++ ys) → AllByRecursion (IsNoneOf ys) xs
across [] ys h = tt
across (x ∷ xs) ys h = (none_of_back xs ys x h.0, across xs ys h.1)

turned_one : (x : List ℕ) (ys : List (List ℕ)) → IsNoneOf ys x → AllByRecursion (λ y. x ≢ y) ys
turned_one x [] h = tt
turned_one x (y ∷ ys) h = (λ e. h.0 (sym e), turned_one x ys h.1)

zipped : (x : List ℕ) (xs ys : List (List ℕ)) → AllByRecursion (λ y. x ≢ y) ys → AllByRecursion (IsNoneOf xs) ys → AllByRecursion (IsNoneOf (x ∷ xs)) ys
zipped x xs [] h k = tt
zipped x xs (y ∷ ys) h k = ((h.0, k.0), zipped x xs ys h.1 k.1)

no_names : (ys : List (List ℕ)) → AllByRecursion (IsNoneOf []) ys
no_names [] = tt
no_names (y ∷ ys) = (tt, no_names ys)

-- names that are none of others have those as none of them
turned : (xs ys : List (List ℕ)) → AllByRecursion (IsNoneOf ys) xs → AllByRecursion (IsNoneOf xs) ys
turned [] ys h = no_names ys
turned (x ∷ xs) ys h = zipped x xs ys (turned_one x ys h.0) (turned xs ys h.1)

both_none : (xs ys zs : List (List ℕ)) → AllByRecursion (IsNoneOf ys) xs → AllByRecursion (IsNoneOf zs) xs → AllByRecursion (IsNoneOf (ys ++ zs)) xs
both_none [] ys zs h k = tt
both_none (x ∷ xs) ys zs h k = (all_append (λ o. o ≢ x) ys zs h.0 k.0, both_none xs ys zs h.1 k.1)

fronts : (xs ys zs : List (List ℕ)) → AllByRecursion (IsNoneOf (ys ++ zs)) xs → AllByRecursion (IsNoneOf ys) xs
fronts xs ys zs h = all_weaker (IsNoneOf (ys ++ zs)) (IsNoneOf ys) (λ x none. none_of_front ys zs x none) xs h

backs : (xs ys zs : List (List ℕ)) → AllByRecursion (IsNoneOf (ys ++ zs)) xs → AllByRecursion (IsNoneOf zs) xs
backs xs ys zs h = all_weaker (IsNoneOf (ys ++ zs)) (IsNoneOf zs) (λ x none. none_of_back ys zs x none) xs h

-- two lists of names, each with more behind it
pub woven : (a t b s : List (List ℕ)) → AreDistinct (a ++ b) → AreDistinct (t ++ s) → AllByRecursion (IsNoneOf (a ++ b)) t → AllByRecursion (IsNoneOf (a ++ b)) s → AreDistinct ((a ++ t) ++ (b ++ s))
woven a t b s own more new_t new_s =
    joined (a ++ t) (b ++ s)
    (joined a t (first_distinct a b own) (first_distinct t s more) (turned t a (fronts t a b new_t)))
    (joined b s (second_distinct a b own) (second_distinct t s more) (turned s b (backs s a b new_s)))
    (all_append (IsNoneOf (b ++ s)) a t
    (both_none a b s (across a b own) (turned s a (fronts s a b new_s)))
    (both_none t b s (backs t a b new_t) (across t s more)))

-- ---- the names of what is found

-- the name of what a candidate with such a number adds
pub record IsNumbered (least top : ℕ) (name : List ℕ) : Type 0 where
  pub number : ℕ
  pub letters : ℕ
  pub is : name ≡ found_name number letters
  pub low : least ≤ number
  pub high : number < top

-- the names of turns and of salvos
abbrev pub turns_named : List RawTurn → List (List ℕ)
turns_named turns = map (λ (turn : RawTurn). turn.name) turns

abbrev pub salvos_named : List RawSalvo → List (List ℕ)
salvos_named salvos = map (λ (salvo : RawSalvo). salvo.name) salvos

later_names : (number top : ℕ) (others : List (List ℕ)) → AllByRecursion (IsNumbered (suc number) top) others → AllByRecursion (IsNumbered number top) others
later_names number top others h =
    all_weaker (IsNumbered (suc number) top) (IsNumbered number top) (λ name is. let low = is.low in record { number = is.number; letters = is.letters; is = is.is; low = omega arith; high = is.high }) others h

none_later : (number top : ℕ) (name : List ℕ) (letters : ℕ) (others : List (List ℕ)) → top ≤ 2 ^ 64 → number < top → name ≡ found_name number letters → AllByRecursion (IsNumbered (suc number) top) others → IsNoneOf others name
none_later number top name letters [] small lt is h = tt
none_later number top name letters (other ∷ others) small lt is h = (
  λ e.
      let first = h.0 in let high = first.high in let low = first.low in
      let same = name_tells first.number number first.letters letters (omega arith) (omega arith) (sym first.is ∙ e ∙ is) in
      omega arith,
  none_later number top name letters others small lt is h.1,
)

-- what is known of the names of turns and salvos that candidates from such a number on add
pub record AreNamed (number top : ℕ) (turns : List RawTurn) (salvos : List RawSalvo) : Type 0 where
  pub distinct : AreDistinct (turns_named turns ++ salvos_named salvos)
  pub turns_from : AllByRecursion (IsNumbered number top) (turns_named turns)
  pub salvos_from : AllByRecursion (IsNumbered number top) (salvos_named salvos)

one_turn_more : (number top letters : ℕ) (turn : RawTurn) (turns : List RawTurn) (salvos : List RawSalvo) → top ≤ 2 ^ 64 → number < top → turn.name ≡ found_name number letters → AreNamed (suc number) top turns salvos →
    AreNamed number top (turn ∷ turns) salvos
one_turn_more number top letters turn turns salvos small lt is h =
    let numbered : IsNumbered number top turn.name = record { number = number; letters = letters; is = is; low = omega arith; high = lt } in
    record {
      distinct = (none_later number top turn.name letters (turns_named turns ++ salvos_named salvos) small lt is (all_append (IsNumbered (suc number) top) (turns_named turns) (salvos_named salvos) h.turns_from h.salvos_from), h.distinct);
      turns_from = (numbered, later_names number top (turns_named turns) h.turns_from);
      salvos_from = later_names number top (salvos_named salvos) h.salvos_from;
    }

one_salvo_more : (number top letters : ℕ) (salvo : RawSalvo) (turns : List RawTurn) (salvos : List RawSalvo) → top ≤ 2 ^ 64 → number < top → salvo.name ≡ found_name number letters → AreNamed (suc number) top turns salvos →
    AreNamed number top turns (salvo ∷ salvos)
one_salvo_more number top letters salvo turns salvos small lt is h =
    let t = turns_named turns in let s = salvos_named salvos in
    let numbered : IsNumbered number top salvo.name = record { number = number; letters = letters; is = is; low = omega arith; high = lt } in
    let none_t = none_later number top salvo.name letters t small lt is h.turns_from in
    let none_s = none_later number top salvo.name letters s small lt is h.salvos_from in
    record {
      distinct = joined t (salvo.name ∷ s) (first_distinct t s h.distinct) (none_s, second_distinct t s h.distinct)
          (zipped salvo.name s t (turned_one salvo.name t none_t) (across t s h.distinct));
      turns_from = later_names number top t h.turns_from;
      salvos_from = (numbered, later_names number top s h.salvos_from);
    }

no_more : (number top : ℕ) (turns : List RawTurn) (salvos : List RawSalvo) → AreNamed (suc number) top turns salvos → AreNamed number top turns salvos
no_more number top turns salvos h = record {
  distinct = h.distinct;
  turns_from = later_names number top (turns_named turns) h.turns_from;
  salvos_from = later_names number top (salvos_named salvos) h.salvos_from;
}

not_both : (candidate : Candidate) (turn : RawTurn) (salvo : RawSalvo) → candidate ≡ delays_of turn → candidate ≡ lanes_of salvo → ⊥
not_both candidate turn salvo d l = cc

pub found_are_named : (book : Said) (number top : ℕ) (cs : List Candidate) (turns : List RawTurn) (salvos : List RawSalvo) → top ≤ 2 ^ 64 → number + length cs ≤ top →
    AreAdded (AddsTurn book) number cs turns → AreAdded (AddsSalvo book) number cs salvos → AreNamed number top turns salvos
found_are_named book number top [] turns salvos small within t s =
    subst (λ ts. AreNamed number top ts salvos) (sym t) (subst (λ ss. AreNamed number top [] ss) (sym s) (record { distinct = tt; turns_from = tt; salvos_from = tt }))
found_are_named book number top (c ∷ cs) turns salvos small within (inl t) (inl s) = absurd (not_both c t.0 s.0 t.1.0.delays s.1.0.lanes)
found_are_named book number top (c ∷ cs) turns salvos small within (inl t) (inr s) =
    let turn = t.0 in let adds = t.1.0 in let rest = t.1.1.0 in
    subst (λ ts. AreNamed number top ts salvos) (sym t.1.1.1.0)
    (one_turn_more number top adds.name.letters turn rest salvos small (omega arith) adds.name.is (found_are_named book (suc number) top cs rest salvos small (omega arith) t.1.1.1.1 s.1))
found_are_named book number top (c ∷ cs) turns salvos small within (inr t) (inl s) =
    let salvo = s.0 in let adds = s.1.0 in let rest = s.1.1.0 in
    subst (λ ss. AreNamed number top turns ss) (sym s.1.1.1.0)
    (one_salvo_more number top adds.name.letters salvo turns rest small (omega arith) adds.name.is (found_are_named book (suc number) top cs turns rest small (omega arith) t.1 s.1.1.1.1))
found_are_named book number top (c ∷ cs) turns salvos small within (inr t) (inr s) = no_more number top turns salvos (found_are_named book (suc number) top cs turns salvos small (omega arith) t.1 s.1)
