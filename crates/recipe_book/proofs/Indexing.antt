-- The index by shape, as salvos are noted one after the other.
use Rattle.std.specs.Prelude.{◌≡◌, ◌⊎◌, ℕ, ◌+◌, ◌<◌, Bool, true, false, List, [], ◌∷◌, ◌++◌, length, Vec, zero, suc}
use Rattle.std.specs.List.{AllByRecursion, Contains, slice_get}
use Rattle.std.specs.Map.{lookup}
use Rattle.std.specs.declared.alloc.Global.{Global}
use Rattle.std.specs.declared.option.Option.{Option}
use Rattle.std.specs.declared.option.Option.TheVariants.{Some, None}
use Rattle.std.proofs.Common.{refl, sym, ap, subst, ◌∙◌, arith, inl, inr, true≢false, take, get_or}
use Rattle.std.proofs.lemmas.List.{take_more, length-take-le}
use Rattle.std.proofs.lemmas.List.Elements.{Contains-push, Contains-append_left}
use Rattle.std.proofs.lemmas.Option.{slice_get_within}
use Rattle.life_plane.specs.ListLaws.{all_push}
use Rattle.life_plane.specs.Plane.{Plane}
use Rattle.life_cells.specs.Cells.{Cells, alive, empty}
use Rattle.life_cells.specs.Laws.{same_cells}
use Rattle.life_cells.specs.Same.{same_set}
use Rattle.life_cells.specs.SameLaws.{same_set_is, same_set-equal}
use Rattle.life_cells.specs.declared.cell.Cell.{Cell}
use Rattle.life_islands.specs.Shapes.{IsShapeOf}
use Rattle.life_islands.specs.ShapeLaws.{one_shape}
use Rattle.recipe_hit.specs.Checked.{Struck}
use Rattle.recipe_book.specs.ByShape.{Builds, IsNumberOf, AreAscending, AreNumbersOf, items_or_none, numbers_under, IsIndex, AddsNumber}
use Rattle.book_parts.specs.KindLaws.{empty_dead}

-- ---- one salvo more

there_before : {X : Type 0} (xs : List X) (x : X) (i : ℕ) (y : X) → slice_get xs i ≡ Some y → slice_get (xs ++ (x ∷ [])) i ≡ Some y
there_before [] x i y h = absurd (cc)
there_before (z ∷ xs) x zero y h = h
there_before (z ∷ xs) x (suc i) y h = there_before xs x i y h

there_last : {X : Type 0} (xs : List X) (x : X) → slice_get (xs ++ (x ∷ [])) (length xs) ≡ Some x
there_last [] x = refl
there_last (z ∷ xs) x = there_last xs x

there_cases : {X : Type 0} (xs : List X) (x : X) (i : ℕ) (y : X) → slice_get (xs ++ (x ∷ [])) i ≡ Some y → (slice_get xs i ≡ Some y) ⊎ ((i ≡ length xs) × (x ≡ y))
there_cases [] x zero y h = inr (refl, cc)
there_cases [] x (suc i) y h = absurd (cc)
there_cases (z ∷ xs) x zero y h = inl h
there_cases (z ∷ xs) x (suc i) y h = by (there_cases xs x i y h)
  where
    by : (slice_get xs i ≡ Some y) ⊎ ((i ≡ length xs) × (x ≡ y)) → (slice_get xs i ≡ Some y) ⊎ ((suc i ≡ length (z ∷ xs)) × (x ≡ y))
    by (inl e) = inl e
    by (inr e) = inr (ap suc e.0, e.1)

number_kept : (salvos : List Struck) (s : Struck) (shape : Plane) (n : ℕ) → IsNumberOf salvos shape n → IsNumberOf (salvos ++ (s ∷ [])) shape n
number_kept salvos s shape n h = record { place = h.place; number_is = h.number_is; salvo = h.salvo; there = there_before salvos s h.place h.salvo h.there; builds = h.builds }

numbers_kept : (salvos : List Struck) (s : Struck) (shape : Plane) (ns : List ℕ) → AllByRecursion (IsNumberOf salvos shape) ns → AllByRecursion (IsNumberOf (salvos ++ (s ∷ [])) shape) ns
numbers_kept salvos s shape [] h = tt
numbers_kept salvos s shape (n ∷ ns) h = (number_kept salvos s shape n h.0, numbers_kept salvos s shape ns h.1)

number_last : (salvos : List Struck) (s : Struck) (shape : Plane) → Builds s shape → IsNumberOf (salvos ++ (s ∷ [])) shape (length salvos + 1)
number_last salvos s shape b = record { place = length salvos; number_is = refl; salvo = s; there = there_last salvos s; builds = b }

number_cases : (salvos : List Struck) (s : Struck) (shape : Plane) (n : ℕ) → IsNumberOf (salvos ++ (s ∷ [])) shape n → IsNumberOf salvos shape n ⊎ ((n ≡ length salvos + 1) × Builds s shape)
number_cases salvos s shape n h = by (there_cases salvos s h.place h.salvo h.there)
  where
    by : (slice_get salvos h.place ≡ Some h.salvo) ⊎ ((h.place ≡ length salvos) × (s ≡ h.salvo)) → IsNumberOf salvos shape n ⊎ ((n ≡ length salvos + 1) × Builds s shape)
    by (inl e) = inl (record { place = h.place; number_is = h.number_is; salvo = h.salvo; there = e; builds = h.builds })
    by (inr e) = inr (h.number_is ∙ ap (λ (p : ℕ). p + 1) e.0, subst (λ (t : Struck). Builds t shape) (sym e.1) h.builds)

-- ---- the numbers of one shape

number_within : (salvos : List Struck) (shape : Plane) (n : ℕ) → IsNumberOf salvos shape n → n < length salvos + 1
number_within salvos shape n h = let within = slice_get_within salvos h.place h.salvo h.there in let is = h.number_is in omega arith

all_below : (salvos : List Struck) (shape : Plane) (ns : List ℕ) → AllByRecursion (IsNumberOf salvos shape) ns → AllByRecursion (λ n. n < length salvos + 1) ns
all_below salvos shape [] h = tt
all_below salvos shape (n ∷ ns) h = (number_within salvos shape n h.0, all_below salvos shape ns h.1)

rises : (ns : List ℕ) (m : ℕ) → AllByRecursion (λ n. n < m) ns → AreAscending ns → AreAscending (ns ++ (m ∷ []))
rises [] m below h = (tt, tt)
rises (n ∷ ns) m below h = (all_push (λ later. n < later) ns m h.0 below.0, rises ns m below.1 h.1)

-- the next salvo doesn't build the shape
same_numbers : (salvos : List Struck) (s : Struck) (shape : Plane) (ns : List ℕ) → (Builds s shape → ⊥) → AreNumbersOf salvos shape ns → AreNumbersOf (salvos ++ (s ∷ [])) shape ns
same_numbers salvos s shape ns not h = record {
  each = numbers_kept salvos s shape ns h.each;
  all = λ n is. by n (number_cases salvos s shape n is);
  ascending = h.ascending;
}
  where
    by : (n : ℕ) → IsNumberOf salvos shape n ⊎ ((n ≡ length salvos + 1) × Builds s shape) → Contains ns n
    by n (inl is) = h.all n is
    by n (inr e) = absurd (not e.1)

-- the next salvo builds the shape
one_number_more : (salvos : List Struck) (s : Struck) (shape : Plane) (ns : List ℕ) → Builds s shape → AreNumbersOf salvos shape ns → AreNumbersOf (salvos ++ (s ∷ [])) shape (ns ++ ((length salvos + 1) ∷ []))
one_number_more salvos s shape ns builds h = record {
  each = all_push (IsNumberOf (salvos ++ (s ∷ [])) shape) ns (length salvos + 1) (numbers_kept salvos s shape ns h.each) (number_last salvos s shape builds);
  all = λ n is. by n (number_cases salvos s shape n is);
  ascending = rises ns (length salvos + 1) (all_below salvos shape ns h.each) h.ascending;
}
  where
    by : (n : ℕ) → IsNumberOf salvos shape n ⊎ ((n ≡ length salvos + 1) × Builds s shape) → Contains (ns ++ ((length salvos + 1) ∷ [])) n
    by n (inl is) = Contains-append_left ns ((length salvos + 1) ∷ []) n (h.all n is)
    by n (inr e) = subst (Contains (ns ++ ((length salvos + 1) ∷ []))) (sym e.0) (Contains-push ns (length salvos + 1))

-- ---- the whole index

pub none_yet : IsIndex [] []
none_yet shape = record { each = tt; all = λ n is. absurd (none n is); ascending = tt }
  where
    none : (n : ℕ) → IsNumberOf [] (alive shape) n → ⊥
    none n is = let there = is.there in cc

-- a salvo without a product builds no shape
builds_nothing : (s : Struck) (shape : Plane) → s.raw.product ≡ empty → Builds s shape → ⊥
builds_nothing s shape none b = let lives = b.is.top_left.least.lives in empty_dead s.raw.product lives.0 lives.1.0 none lives.1.1

passes : (salvos : List Struck) (s : Struck) (index : List (Cells × Vec ℕ Global)) → s.raw.product ≡ empty → IsIndex salvos index → IsIndex (salvos ++ (s ∷ [])) index
passes salvos s index none h shape = same_numbers salvos s (alive shape) (numbers_under index shape) (builds_nothing s (alive shape) none) (h shape)

gains : (salvos : List Struck) (s : Struck) (n : ℕ) (before after : List (Cells × Vec ℕ Global)) → n ≡ length salvos + 1 → AddsNumber (alive s.raw.product) n before after →
    IsIndex salvos before → IsIndex (salvos ++ (s ∷ [])) after
gains salvos s n before after n_is adds h shape = by (same_set adds.shape shape) refl
  where
    by : (b : Bool) → same_set adds.shape shape ≡ b → AreNumbersOf (salvos ++ (s ∷ [])) (alive shape) (numbers_under after shape)
    by true e =
        let same : adds.shape ≡ shape = same_set_is adds.shape shape e in
        subst (λ (q : Cells). AreNumbersOf (salvos ++ (s ∷ [])) (alive q) (numbers_under after q)) same
        (subst (AreNumbersOf (salvos ++ (s ∷ [])) (alive adds.shape)) (sym (adds.here ∙ ap (λ (m : ℕ). numbers_under before adds.shape ++ (m ∷ [])) n_is))
        (one_number_more salvos s (alive adds.shape) (numbers_under before adds.shape) (record { place = adds.place; is = adds.shape_is }) (h adds.shape)))
    by false e =
        subst (AreNumbersOf (salvos ++ (s ∷ [])) (alive shape)) (sym (adds.others shape e))
        (same_numbers salvos s (alive shape) (numbers_under before shape)
        (λ (b : Builds s (alive shape)). true≢false (sym (same_set-equal adds.shape shape (same_cells adds.shape shape (one_shape (alive s.raw.product) (alive adds.shape) (alive shape) adds.place b.place adds.shape_is b.is).0)) ∙ e))
        (h shape))

-- ---- the salvos before a place, and the one at it

one_taken : {X : Type 0} (xs : List X) (i : ℕ) (x : X) → i < length xs → x ≡ get_or xs i x → take (i + 1) xs ≡ take i xs ++ (x ∷ [])
one_taken xs i x within at = take_more xs i x within ∙ ap (λ y. take i xs ++ (y ∷ [])) (sym at)

pub passes_next : (salvos : List Struck) (i : ℕ) (s : Struck) (index : List (Cells × Vec ℕ Global)) → i < length salvos → s ≡ get_or salvos i s → s.raw.product ≡ empty →
    IsIndex (take i salvos) index → IsIndex (take (i + 1) salvos) index
passes_next salvos i s index within at none h = subst (λ (l : List Struck). IsIndex l index) (sym (one_taken salvos i s within at)) (passes (take i salvos) s index none h)

pub gains_next : (salvos : List Struck) (i : ℕ) (s : Struck) (n : ℕ) (before after : List (Cells × Vec ℕ Global)) → i < length salvos → s ≡ get_or salvos i s → n ≡ i + 1 →
    AddsNumber (alive s.raw.product) n before after → IsIndex (take i salvos) before → IsIndex (take (i + 1) salvos) after
gains_next salvos i s n before after within at n_is adds h =
    let long : length (take i salvos) ≡ i = length-take-le i salvos (omega arith) in
    subst (λ (l : List Struck). IsIndex l after) (sym (one_taken salvos i s within at)) (gains (take i salvos) s n before after (omega arith) adds h)

-- ---- one number added to the lists

pub items_had : (numbers taken : Vec ℕ Global) (had : Option (Vec ℕ Global)) → had ≡ Some taken → numbers ≡ taken → numbers.items ≡ items_or_none had
items_had numbers taken had is same = ap (λ (v : Vec ℕ Global). v.items) same ∙ sym (ap items_or_none is)

pub items_new : (numbers new : Vec ℕ Global) (had : Option (Vec ℕ Global)) → had ≡ None → new.items ≡ [] → numbers ≡ new → numbers.items ≡ items_or_none had
items_new numbers new had is none same = ap (λ (v : Vec ℕ Global). v.items) same ∙ none ∙ sym (ap items_or_none is)

-- the list under the key was taken out, grew by the number, and was put back
pub adds : (product : Plane) (number : ℕ) (key : Cells) (place : Cell) (before taken after : List (Cells × Vec ℕ Global)) (had : Option (Vec ℕ Global)) (now : Vec ℕ Global) →
    IsShapeOf product (alive key) place → had ≡ lookup (same_set key) before →
    ((q : Cells) → same_set key q ≡ false → lookup (same_set q) taken ≡ lookup (same_set q) before) →
    lookup (same_set key) after ≡ Some now →
    ((q : Cells) → same_set key q ≡ false → lookup (same_set q) after ≡ lookup (same_set q) taken) →
    now.items ≡ items_or_none had ++ (number ∷ []) → AddsNumber product number before after
adds product number key place before taken after had now is had_is out here others grown = record {
  shape = key;
  place = place;
  shape_is = is;
  here = ap items_or_none here ∙ grown ∙ ap (λ (o : Option (Vec ℕ Global)). items_or_none o ++ (number ∷ [])) had_is;
  others = λ q e. ap items_or_none (others q e ∙ out q e);
}

-- ---- one list for a shape

below_all : (n : ℕ) (ns : List ℕ) (m : ℕ) → AllByRecursion (λ later. n < later) ns → Contains ns m → n < m
below_all n [] m h c = absurd (let k = c.1 in omega arith)
below_all n (x ∷ ns) m h (zero, k, e) = subst (λ (z : ℕ). n < z) e h.0
below_all n (x ∷ ns) m h (suc i, k, e) = below_all n ns m h.1 (i, omega arith, e)

-- the first of two such lists with the same numbers is the first of the other
same_first : (n m : ℕ) (ns ms : List ℕ) → AreAscending (n ∷ ns) → AreAscending (m ∷ ms) → Contains (n ∷ ns) m → Contains (m ∷ ms) n → n ≡ m
same_first n m ns ms a b (zero, k, e) d = e
same_first n m ns ms a b (suc i, k, e) (zero, l, f) = sym f
same_first n m ns ms a b (suc i, k, e) (suc j, l, f) =
    let below : n < m = below_all n ns m a.0 (i, omega arith, e) in
    let above : m < n = below_all m ms n b.0 (j, omega arith, f) in
    omega arith

in_rest : (n m : ℕ) (ns : List ℕ) → n < m → Contains (n ∷ ns) m → Contains ns m
in_rest n m ns less (zero, k, e) = absurd (let is : n ≡ m = e in omega arith)
in_rest n m ns less (suc i, k, e) = (i, omega arith, e)

same_numbers_list : (ns ms : List ℕ) → AreAscending ns → AreAscending ms → ((n : ℕ) → Contains ns n → Contains ms n) → ((n : ℕ) → Contains ms n → Contains ns n) → ns ≡ ms
same_numbers_list [] [] a b to from = refl
same_numbers_list [] (m ∷ ms) a b to from = absurd (let none = from m (0, omega arith, refl) in let k = none.1 in omega arith)
same_numbers_list (n ∷ ns) [] a b to from = absurd (let none = to n (0, omega arith, refl) in let k = none.1 in omega arith)
same_numbers_list (n ∷ ns) (m ∷ ms) a b to from =
    let first : n ≡ m = same_first n m ns ms a b (from m (0, omega arith, refl)) (to n (0, omega arith, refl)) in
    let rest : ns ≡ ms = same_numbers_list ns ms a.1 b.1
    (λ k c. let less : n < k = below_all n ns k a.0 c in in_rest m k ms (omega arith) (to k (there n ns k c)))
    (λ k c. let less : m < k = below_all m ms k b.0 c in in_rest n k ns (omega arith) (from k (there m ms k c))) in
    λ i. first i ∷ rest i
  where
    there : (x : ℕ) (xs : List ℕ) (k : ℕ) → Contains xs k → Contains (x ∷ xs) k
    there x xs k c = (suc c.0, let w = c.1 in omega arith, c.2)

all_contained : (P : ℕ → Type 0) (ns : List ℕ) (m : ℕ) → AllByRecursion P ns → Contains ns m → P m
all_contained P [] m h c = absurd (let k = c.1 in omega arith)
all_contained P (n ∷ ns) m h (zero, k, e) = subst P e h.0
all_contained P (n ∷ ns) m h (suc i, k, e) = all_contained P ns m h.1 (i, omega arith, e)

-- the numbers of the salvos that build a shape are one list
pub one_list_of_numbers : (salvos : List Struck) (shape : Plane) (a b : List ℕ) → AreNumbersOf salvos shape a → AreNumbersOf salvos shape b → a ≡ b
one_list_of_numbers salvos shape a b h k = same_numbers_list a b h.ascending k.ascending
    (λ n c. k.all n (all_contained (IsNumberOf salvos shape) a n h.each c))
    (λ n c. h.all n (all_contained (IsNumberOf salvos shape) b n k.each c))
