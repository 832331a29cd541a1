-- The network of full and half adders on eight bits is the rule: a table of the 512 cases.
use Rattle.std.proofs.Common.{◌≡◌, ◌+◌, Bool, true, false, ◌&&◌, ◌||◌, T, refl}
use Rattle.life_plane.specs.Plane.{one_if, lives_on}
use Rattle.life_kernel.specs.BitLaws.{xor}

abbrev pub ones3 : Bool → Bool → Bool → Bool
ones3 x y z = xor (xor x y) z

abbrev pub twos3 : Bool → Bool → Bool → Bool
twos3 x y z = (x && y) || (xor x y && z)

-- the western, own and eastern cell of the row above, the western and eastern one of the row here, the three of the row below, and the cell itself
abbrev pub network : Bool → Bool → Bool → Bool → Bool → Bool → Bool → Bool → Bool → Bool
network nw n ne w e sw s se alive =
    let a1 = ones3 nw n ne in
    let a2 = twos3 nw n ne in
    let h1 = xor w e in
    let h2 = w && e in
    let b1 = ones3 sw s se in
    let b2 = twos3 sw s se in
    let ones = ones3 a1 h1 b1 in
    let carried = twos3 a1 h1 b1 in
    let row_twos = ones3 a2 h2 b2 in
    let row_fours = twos3 a2 h2 b2 in
    let twos = xor row_twos carried in
    let fours = row_fours || (row_twos && carried) in
    (twos && xor twos fours) && (ones || alive)

abbrev same : Bool → Bool → Bool
same true b = b
same false true = false
same false false = true

same_is : (a b : Bool) → T (same a b) → a ≡ b
same_is true true h = refl
same_is false false h = refl
same_is true false h = absurd h
same_is false true h = absurd h

abbrev every : (Bool → Bool) → Bool
every p = p true && p false

every_sound : (p : Bool → Bool) → T (every p) → (b : Bool) → T (p b)
every_sound p h b = go (p true) (p false) refl refl b h
  where
    both : (x y : Bool) → T (x && y) → T x × T y
    both true y h = (tt, h)
    both false y h = absurd h

    go : (x y : Bool) → p true ≡ x → p false ≡ y → (b : Bool) → T (every p) → T (p b)
    go x y ex ey true h = (both (p true) (p false) h).0
    go x y ex ey false h = (both (p true) (p false) h).1

abbrev rule : Bool → Bool → Bool → Bool → Bool → Bool → Bool → Bool → Bool → Bool
rule nw n ne w e sw s se alive = lives_on alive (one_if nw + one_if n + one_if ne + one_if w + one_if e + one_if sw + one_if s + one_if se)

abbrev case : Bool → Bool → Bool → Bool → Bool → Bool → Bool → Bool → Bool → Bool
case a b c d e f g h i = same (network a b c d e f g h i) (rule a b c d e f g h i)

pub network_is_rule : (nw n ne w e sw s se alive : Bool) → network nw n ne w e sw s se alive ≡ rule nw n ne w e sw s se alive
network_is_rule a b c d e f g h i =
    same_is _ _
    (every_sound (λ i. case a b c d e f g h i)
    (every_sound (λ h. every (λ i. case a b c d e f g h i))
    (every_sound (λ g. every (λ h. every (λ i. case a b c d e f g h i)))
    (every_sound (λ f. every (λ g. every (λ h. every (λ i. case a b c d e f g h i))))
    (every_sound (λ e. every (λ f. every (λ g. every (λ h. every (λ i. case a b c d e f g h i)))))
    (every_sound (λ d. every (λ e. every (λ f. every (λ g. every (λ h. every (λ i. case a b c d e f g h i))))))
    (every_sound (λ c. every (λ d. every (λ e. every (λ f. every (λ g. every (λ h. every (λ i. case a b c d e f g h i)))))))
    (every_sound (λ b. every (λ c. every (λ d. every (λ e. every (λ f. every (λ g. every (λ h. every (λ i. case a b c d e f g h i))))))))
    (every_sound (λ a. every (λ b. every (λ c. every (λ d. every (λ e. every (λ f. every (λ g. every (λ h. every (λ i. case a b c d e f g h i)))))))))
    tt a) b) c) d) e) f) g) h) i)
