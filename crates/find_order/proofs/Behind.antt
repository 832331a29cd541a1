-- What comes behind a list: the next one, and what comes behind that.
use Rattle.std.proofs.Common.{◌≡◌, ℕ, zero, suc, ◌+◌, ◌-◌, ◌<◌, ◌≤◌, ℤ, pos, negsuc, ◌+ℤ◌, ◌≤ℤ◌, ◌<ℤ◌, List, [], ◌∷◌, ◌++◌, length, replicate, take, drop, add-one, refl, sym, ap, ◌∙◌, arith}
use Rattle.std.proofs.lemmas.Int.{ints}
use Rattle.std.proofs.lemmas.List.{length-replicate, length-append, drop_all, take_all, append-nil, replicate-append-replicate}
use Rattle.std.specs.Int.{int_gap}
use Rattle.std.specs.List.{flat_map}
use Rattle.find_order.specs.Lists.{numbers_from, numbers, with_first, lists_of, lists_up}
use Rattle.find_order.specs.Ahead.{behind, on_from}

-- ---- the numbers of a range

one_up : (a : ℕ) → negsuc (suc a) +ℤ pos 1 ≡ negsuc a
one_up a = omega (arith, ints)

gap_step : (low top : ℤ) → low <ℤ top → int_gap low top ≡ suc (int_gap (low +ℤ pos 1) top)
gap_step (pos a) (pos b) h = omega (arith, ints)
gap_step (pos a) (negsuc b) h = absurd (omega (arith, ints))
gap_step (negsuc zero) (pos b) h = omega (arith, ints)
gap_step (negsuc (suc a)) (pos b) h = let up = one_up a in rw up (omega (arith, ints))
gap_step (negsuc zero) (negsuc b) h = absurd (omega (arith, ints))
gap_step (negsuc (suc a)) (negsuc b) h = let up = one_up a in rw up (omega (arith, ints))

gap_none : (low top : ℤ) → top ≤ℤ low → int_gap low top ≡ 0
gap_none (pos a) (pos b) h = omega (arith, ints)
gap_none (pos a) (negsuc b) h = refl
gap_none (negsuc a) (pos b) h = absurd (omega (arith, ints))
gap_none (negsuc a) (negsuc b) h = omega (arith, ints)

pub numbers_first : (low high : ℤ) → low ≤ℤ high → numbers low high ≡ low ∷ numbers (low +ℤ pos 1) high
numbers_first low high h = ap (numbers_from low) (gap_step low (high +ℤ pos 1) (omega (arith, ints)))

pub numbers_none : (low high : ℤ) → high <ℤ low → numbers low high ≡ []
numbers_none low high h = ap (numbers_from low) (gap_none low (high +ℤ pos 1) (omega (arith, ints)))

-- ---- lists with these numbers in front of all lists of a length

fronted : ℤ → ℤ → ℕ → List ℤ → List (List ℤ)
fronted low high n firsts = flat_map (λ (first : ℤ). with_first first (lists_of (numbers low high) n)) firsts

-- the first list of a length
pub first_list : (low high : ℤ) → low ≤ℤ high → (n : ℕ) → lists_of (numbers low high) n ≡ replicate n low ∷ behind low high (replicate n low)
unfolding fronted
first_list low high h zero = refl
first_list low high h (suc n) =
    ap (fronted low high n) (numbers_first low high h)
    ∙ ap (λ ls. with_first low ls ++ fronted low high n (numbers (low +ℤ pos 1) high)) (first_list low high h n)
    ∙ ap (λ k. (low ∷ replicate n low) ∷ (with_first low (behind low high (replicate n low)) ++ fronted low high k (numbers (low +ℤ pos 1) high))) (sym (length-replicate n low))

-- the last list of a length
pub last_list : (low high : ℤ) (n : ℕ) → behind low high (replicate n high) ≡ []
unfolding fronted
last_list low high zero = refl
last_list low high (suc n) =
    ap (λ ls. with_first high ls ++ fronted low high (length (replicate n high)) (numbers (high +ℤ pos 1) high)) (last_list low high n)
    ∙ ap (fronted low high (length (replicate n high))) (numbers_none (high +ℤ pos 1) high (omega (arith, ints)))

-- the next list has its first number one greater
carried : (low high x : ℤ) (k : ℕ) → low ≤ℤ high → x <ℤ high →
    behind low high (x ∷ replicate k high) ≡ ((x +ℤ pos 1) ∷ replicate k low) ∷ behind low high ((x +ℤ pos 1) ∷ replicate k low)
unfolding fronted
carried low high x k order lt =
    let same : length (replicate k high) ≡ length (replicate k low) = length-replicate k high ∙ sym (length-replicate k low) in
    ap (λ ls. with_first x ls ++ fronted low high (length (replicate k high)) (numbers (x +ℤ pos 1) high)) (last_list low high k)
    ∙ ap (λ n. fronted low high n (numbers (x +ℤ pos 1) high)) same
    ∙ ap (fronted low high (length (replicate k low))) (numbers_first (x +ℤ pos 1) high (omega (arith, ints)))
    ∙ ap (λ ls. with_first (x +ℤ pos 1) ls ++ fronted low high (length (replicate k low)) (numbers ((x +ℤ pos 1) +ℤ pos 1) high))
    (ap (lists_of (numbers low high)) (length-replicate k low) ∙ first_list low high order k)

-- a list and its next have the same next with one number more in front
in_front : (low high z : ℤ) (xs ys : List ℤ) → length xs ≡ length ys → behind low high xs ≡ ys ∷ behind low high ys → behind low high (z ∷ xs) ≡ (z ∷ ys) ∷ behind low high (z ∷ ys)
unfolding fronted
in_front low high z xs ys same next =
    ap (λ ls. with_first z ls ++ fronted low high (length xs) (numbers (z +ℤ pos 1) high)) next
    ∙ ap (λ n. (z ∷ ys) ∷ (with_first z (behind low high ys) ++ fronted low high n (numbers (z +ℤ pos 1) high))) same

-- the next list of its length: the last number that isn't the greatest is one greater, and those behind it are the least
pub next_list : (low high : ℤ) (front : List ℤ) (x : ℤ) (k : ℕ) → low ≤ℤ high → x <ℤ high →
    behind low high (front ++ (x ∷ replicate k high)) ≡ (front ++ ((x +ℤ pos 1) ∷ replicate k low)) ∷ behind low high (front ++ ((x +ℤ pos 1) ∷ replicate k low))
next_list low high [] x k order lt = carried low high x k order lt
next_list low high (z ∷ front) x k order lt =
    in_front low high z (front ++ (x ∷ replicate k high)) (front ++ ((x +ℤ pos 1) ∷ replicate k low))
    (length-append front (x ∷ replicate k high) ∙ ap (λ n. length front + suc n) (length-replicate k high ∙ sym (length-replicate k low)) ∙ sym (length-append front ((x +ℤ pos 1) ∷ replicate k low)))
    (next_list low high front x k order lt)

-- ---- longer lists

-- behind the last list of a length comes the first that is one longer
pub lengthened : (low high : ℤ) (longest : ℕ) (list longer : List ℤ) → low ≤ℤ high → behind low high list ≡ [] → longer ≡ replicate (suc (length list)) low → length list < longest →
    on_from low high longest list ≡ list ∷ on_from low high longest longer
lengthened low high longest list longer order last is short =
    let n = length list in
    let items = numbers low high in
    let long : length longer ≡ suc n = ap length is ∙ length-replicate (suc n) low in
    let more : longest - n ≡ suc (longest - suc n) = omega arith in
    ap (λ ls. list ∷ (ls ++ lists_up items (suc n) (longest - n))) last
    ∙ ap (λ m. list ∷ lists_up items (suc n) m) more
    ∙ ap (λ ls. list ∷ (ls ++ lists_up items (suc (suc n)) (longest - suc n))) (first_list low high order (suc n) ∙ ap (λ l. l ∷ behind low high l) (sym is))
    ∙ ap (λ m. list ∷ on_up m) (sym long)
  where
    on_up : ℕ → List (List ℤ)
    on_up m = longer ∷ (behind low high longer ++ lists_up (numbers low high) (suc m) (longest - m))

-- all lists from a length on begin with the first of that length
pub from_first : (low high : ℤ) (longest shortest : ℕ) (list : List ℤ) → low ≤ℤ high → list ≡ replicate shortest low →
    on_from low high longest list ≡ lists_up (numbers low high) shortest (suc (longest - shortest))
from_first low high longest shortest list order is =
    let long : length list ≡ shortest = ap length is ∙ length-replicate shortest low in
    ap (λ m. list ∷ (behind low high list ++ lists_up (numbers low high) (suc m) (longest - m))) long
    ∙ ap (λ l. l ∷ (behind low high l ++ lists_up (numbers low high) (suc shortest) (longest - shortest))) is
    ∙ ap (λ ls. ls ++ lists_up (numbers low high) (suc shortest) (longest - shortest)) (sym (first_list low high order shortest))

-- a list that is written over a part of itself as long as it is
written_over : (new old : List ℤ) (n : ℕ) → length new ≡ length old → n ≡ length old → take n (new ++ drop (length new) old) ≡ new
written_over new old n same is =
    ap (λ ls. take n (new ++ ls)) (drop_all (length new) old (omega arith)) ∙ ap (take n) (append-nil new) ∙ take_all n new (omega arith)

-- the same, with one number more behind it
pub pushed_over : (new old after : List ℤ) (n : ℕ) (low : ℤ) (k : ℕ) → length new ≡ length old → n ≡ length old → after ≡ take n (new ++ drop (length new) old) ++ (low ∷ []) → new ≡ replicate k low → after ≡ replicate (suc k) low
pushed_over new old after n low k same is pushed least =
    pushed ∙ ap (λ l. l ++ (low ∷ [])) (written_over new old n same is ∙ least) ∙ replicate-append-replicate k 1 low ∙ ap (λ m. replicate m low) (add-one k)

-- the same as the code has it: the list was written over by the first of its length, and one number more was pushed
pub grown : (low high written_low written_high : ℤ) (longest count n : ℕ) (old current new after : List ℤ) → low ≤ℤ high → written_low ≡ low → written_high ≡ high →
    current ≡ old → behind written_low written_high current ≡ [] → new ≡ replicate (length current) written_low → n ≡ length old → count ≡ n → (count ≡ longest → ⊥) → length old ≤ longest →
    after ≡ take n (new ++ drop (length new) old) ++ (written_low ∷ []) → on_from low high longest old ≡ old ∷ on_from low high longest after
grown low high written_low written_high longest count n old current new after order lows highs same last first counted is other short pushed =
    let least : new ≡ replicate (length old) written_low = first ∙ ap (λ l. replicate (length l) written_low) same in
    let long : length new ≡ length old = ap length least ∙ length-replicate (length old) written_low in
    let longer : after ≡ replicate (suc (length old)) low = pushed_over new old after n written_low (length old) long counted pushed least ∙ ap (replicate (suc (length old))) lows in
    let none : behind low high old ≡ [] = ap (behind low high) (sym same) ∙ ap (λ l. behind l high current) (sym lows) ∙ ap (λ h. behind written_low h current) (sym highs) ∙ last in
    let shorter : length old < longest = below shape in
    lengthened low high longest old after order none longer shorter
  where
    shape : length old ≡ longest → ⊥
    shape e = other (is ∙ counted ∙ e)

    below : (length old ≡ longest → ⊥) → length old < longest
    below differs = omega arith
