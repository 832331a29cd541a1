-- Short lists of items, as numbers.
use Rattle.std.proofs.Common.{◌≡◌, ◌≢◌, ℕ, ◌<◌, ◌≤◌, ℤ, pos, List, [], ◌∷◌, ◌++◌, length, map, take, codes, refl, ap, subst, arith, zero, suc, get_or, drop, true, false, ◌==◌}
use Rattle.std.specs.List.{AllZip}
use Rattle.life_cells.specs.Cells.{cell}
use Rattle.life_cells.specs.declared.cell.Cell.{Cell}
use Rattle.std.proofs.Common.{◌+◌, Option, Some, None, add-one}
use Rattle.std.proofs.lemmas.Bool.Decides.{nat_tests}
use denote.Ref.{Bor}
use Rattle.book_lines.specs.Lines.{texts, HaveNoColon}
use Rattle.book_lines.specs.Reads.{Reads}
use Rattle.book_lines.specs.Values.{IsNumber, IsNumberAt}
use Rattle.book_lines.specs.Values.Level.{Form, Numbers}
use Rattle.book_lines.specs.Forms.{IsOneNumber, IsPair}

-- the text that a list gives past its end
abbrev pub no_text : Bor (List ℕ)
no_text = record { ref_ptr = (0, 0); now = [] }

-- a text that may stand for any number
abbrev pub MayStand : List ℕ → Type 0
MayStand text = text ≢ codes ":"

pub one_form : (items : List (List ℕ)) (t : List ℕ) → items ≡ t ∷ [] → MayStand t → (z : ℤ) × IsOneNumber Form z items
one_form items t e h = (pos 0, record { text = t; items_are = e; number = h })

pub one_shown : (items : List (List ℕ)) (t : List ℕ) → items ≡ t ∷ [] → ((z : ℤ) × IsOneNumber Form z items) → MayStand t
one_shown items t e h = let f = h.1.items_are in let same : h.1.text ≡ t = cc in subst MayStand same h.1.number

pub one_read : (items : List (List ℕ)) (t : List ℕ) (z : ℤ) → items ≡ t ∷ [] → IsNumber t z → IsOneNumber Numbers z items
one_read items t z e h = record { text = t; items_are = e; number = h }

pub one_is : (items : List (List ℕ)) (t : List ℕ) (z : ℤ) → items ≡ t ∷ [] → IsOneNumber Numbers z items → IsNumber t z
one_is items t z e h = let f = h.items_are in let same : h.text ≡ t = cc in subst (λ (u : List ℕ). IsNumber u z) same h.number

pub pair_form : (items : List (List ℕ)) (t u : List ℕ) → items ≡ t ∷ (u ∷ []) → MayStand t → MayStand u → (c : Cell) × IsPair Form c items
pair_form items t u e h k = (cell (pos 0) (pos 0), record { text_x = t; text_y = u; items_are = e; number_x = h; number_y = k })

pub pair_shown : (items : List (List ℕ)) (t u : List ℕ) → items ≡ t ∷ (u ∷ []) → ((c : Cell) × IsPair Form c items) → MayStand t × MayStand u
pair_shown items t u e h =
    let f = h.1.items_are in
    let x : h.1.text_x ≡ t = cc in
    let y : h.1.text_y ≡ u = cc in
    (subst MayStand x h.1.number_x, subst MayStand y h.1.number_y)

pub pair_is : (items : List (List ℕ)) (t u : List ℕ) (c : Cell) → items ≡ t ∷ (u ∷ []) → IsPair Numbers c items → IsNumber t c.x × IsNumber u c.y
pair_is items t u c e h =
    let f = h.items_are in
    let x : h.text_x ≡ t = cc in
    let y : h.text_y ≡ u = cc in
    (subst (λ (v : List ℕ). IsNumber v c.x) x h.number_x, subst (λ (v : List ℕ). IsNumber v c.y) y h.number_y)

-- any numbers for texts that may stand for some
pub any_numbers : (ts : List (List ℕ)) → HaveNoColon ts → AllZip (IsNumberAt Form) ts (map (λ t. pos 0) ts)
any_numbers [] h = tt
any_numbers (t ∷ ts) h = (h.0, any_numbers ts h.1)

pub no_colons : (ts : List (List ℕ)) (zs : List ℤ) → AllZip (IsNumberAt Form) ts zs → HaveNoColon ts
no_colons [] zs h = tt
no_colons (t ∷ ts) [] h = absurd h
no_colons (t ∷ ts) (z ∷ zs) h = (h.0, no_colons ts zs h.1)

pub one_reads : (items : List (List ℕ)) (t : List ℕ) → items ≡ t ∷ [] → (r : Option ℤ) → Reads (λ z. IsNumber t z) r → Reads (λ z. IsOneNumber Numbers z items) r
one_reads items t e None h = λ z k. h z (one_is items t z e k)
one_reads items t e (Some z) h = one_read items t z e h

-- the items so far, and one more
pub colon_free : (ts : List (Bor (List ℕ))) (i : ℕ) → i < length ts → HaveNoColon (texts (take i ts)) → MayStand (get_or ts i no_text).now → HaveNoColon (texts (take (i + 1) ts))
colon_free ts zero l h k = free_one ts l k
  where
    free_one : (us : List (Bor (List ℕ))) → 0 < length us → MayStand (get_or us 0 no_text).now → HaveNoColon (texts (take 1 us))
    free_one [] l k = absurd (omega arith)
    free_one (u ∷ us) l k = (k, tt)
colon_free [] (suc i) l h k = absurd (omega arith)
colon_free (t ∷ ts) (suc i) l h k = rw (add-one (suc i)) (h.0, rw (add-one i) at (colon_free ts i (omega arith) h.1 k))

-- an item of those that are no `:`
pub free_at : (ts : List (Bor (List ℕ))) (i : ℕ) → i < length ts → HaveNoColon (texts ts) → MayStand (get_or ts i no_text).now
free_at [] i l h = absurd (omega arith)
free_at (t ∷ ts) zero l h = h.0
free_at (t ∷ ts) (suc i) l h = free_at ts i (omega arith) h.1

-- a list cut at a `:`
pub colon_at : (ts : List (Bor (List ℕ))) (i : ℕ) → i < length ts → (get_or ts i no_text).now ≡ codes ":" → texts ts ≡ texts (take i ts) ++ (codes ":" ∷ texts (drop (i + 1) ts))
colon_at [] i l e = absurd (omega arith)
colon_at (t ∷ ts) zero l e = ap (λ (u : List ℕ). u ∷ texts ts) e
colon_at (t ∷ ts) (suc i) l e = rw (add-one (suc i)) (ap (λ (us : List (List ℕ)). t.now ∷ us) (rw (add-one i) at (colon_at ts i (omega arith) e)))

pub no_cut : (items ts us : List (List ℕ)) → HaveNoColon items → items ≡ ts ++ (codes ":" ∷ us) → ⊥
no_cut [] [] us h e = cc
no_cut [] (t ∷ ts) us h e = cc
no_cut (x ∷ items) [] us h e = h.0 (cc)
no_cut (x ∷ items) (t ∷ ts) us h e = let rest : items ≡ ts ++ (codes ":" ∷ us) = cc in no_cut items ts us h.1 rest

pub some_texts : (ts : List (Bor (List ℕ))) → false ≡ (length ts == 0) → 0 < length (texts ts)
some_texts [] e = absurd (cc e)
some_texts (t ∷ ts) e = omega arith

pub some_items : (ts : List (Bor (List ℕ))) → true ≡ (length ts == 0) → 0 < length (texts ts) → ⊥
some_items [] e l = omega arith
some_items (t ∷ ts) e l = let h : length (t ∷ ts) ≡ 0 = grind (arith, nat_tests) in omega arith

pub some_length : (ts : List (Bor (List ℕ))) → 0 < length ts → 0 < length (texts ts)
some_length [] l = absurd (omega arith)
some_length (t ∷ ts) l = omega arith

pub all_taken : (ts : List (Bor (List ℕ))) (i : ℕ) → length ts ≤ i → take i ts ≡ ts
all_taken [] zero l = refl
all_taken [] (suc i) l = refl
all_taken (t ∷ ts) zero l = absurd (omega arith)
all_taken (t ∷ ts) (suc i) l = ap (λ (us : List (Bor (List ℕ))). t ∷ us) (all_taken ts i (omega arith))

-- lists of texts and numbers, an item at a time
pub numbers_more : (ts : List (Bor (List ℕ))) (zs : List ℤ) (i : ℕ) (z : ℤ) → i < length ts → AllZip (IsNumberAt Numbers) (texts (take i ts)) zs → IsNumber (get_or ts i no_text).now z
    → AllZip (IsNumberAt Numbers) (texts (take (i + 1) ts)) (zs ++ z ∷ [])
numbers_more [] zs i z l h k = absurd (omega arith)
numbers_more (t ∷ ts) [] zero z l h k = (k, tt)
numbers_more (t ∷ ts) (y ∷ zs) zero z l h k = absurd h
numbers_more (t ∷ ts) [] (suc i) z l h k = absurd h
numbers_more (t ∷ ts) (y ∷ zs) (suc i) z l h k = rw (add-one (suc i)) (h.0, rw (add-one i) at (numbers_more ts zs i z (omega arith) h.1 k))

-- each text spells one
pub number_at : (ts : List (Bor (List ℕ))) (zs : List ℤ) (i : ℕ) → i < length ts → AllZip (IsNumberAt Numbers) (texts ts) zs → (z : ℤ) × IsNumber (get_or ts i no_text).now z
number_at [] zs i l h = absurd (omega arith)
number_at (t ∷ ts) [] i l h = absurd h
number_at (t ∷ ts) (z ∷ zs) zero l h = (z, h.0)
number_at (t ∷ ts) (z ∷ zs) (suc i) l h = number_at ts zs i (omega arith) h.1

pub pair_reads : (items : List (List ℕ)) (t u : List ℕ) → items ≡ t ∷ (u ∷ []) → (r : Option Cell) → Reads (λ (c : Cell). IsNumber t c.x × IsNumber u c.y) r → Reads (λ c. IsPair Numbers c items) r
pair_reads items t u e None h = λ c k. h c (pair_is items t u c e k)
pair_reads items t u e (Some c) h = record { text_x = t; text_y = u; items_are = e; number_x = h.0; number_y = h.1 }

pub none_texts : (ts : List (Bor (List ℕ))) → true ≡ (length ts == 0) → texts ts ≡ []
none_texts [] e = refl
none_texts (t ∷ ts) e = absurd (some_items (t ∷ ts) e (omega arith))

pub not_none : (ts : List (Bor (List ℕ))) → false ≡ (length ts == 0) → texts ts ≡ [] → ⊥
not_none ts e h = let some = some_texts ts e in let none : length (texts ts) ≡ 0 = ap length h in omega arith
