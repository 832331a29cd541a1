-- The network on words, bit by bit.
use Rattle.std.proofs.Common.{◌≡◌, ℕ, Bool, ◌&&◌, ◌||◌, ap₂, ◌∙◌}
use lib.Bits.{bit_and, bit_or, bit_xor}
use Rattle.life_kernel.specs.Rows.{test}
use Rattle.life_kernel.specs.BitLaws.{xor, test-and, test-or, test-xor}
use Rattle.life_kernel.proofs.Adder.{network, ones3, twos3}

and_at : (k x y : ℕ) (p q : Bool) → test x k ≡ p → test y k ≡ q → test (bit_and x y) k ≡ (p && q)
and_at k x y p q a b = test-and x y k ∙ ap₂ (λ u v. u && v) a b

or_at : (k x y : ℕ) (p q : Bool) → test x k ≡ p → test y k ≡ q → test (bit_or x y) k ≡ (p || q)
or_at k x y p q a b = test-or x y k ∙ ap₂ (λ u v. u || v) a b

xor_at : (k x y : ℕ) (p q : Bool) → test x k ≡ p → test y k ≡ q → test (bit_xor x y) k ≡ xor p q
xor_at k x y p q a b = test-xor x y k ∙ ap₂ xor a b

abbrev pub ones_w : ℕ → ℕ → ℕ → ℕ
ones_w x y z = bit_xor (bit_xor x y) z

abbrev pub twos_w : ℕ → ℕ → ℕ → ℕ
twos_w x y z = bit_or (bit_and x y) (bit_and (bit_xor x y) z)

ones_at : (k x y z : ℕ) (p q r : Bool) → test x k ≡ p → test y k ≡ q → test z k ≡ r → test (ones_w x y z) k ≡ ones3 p q r
ones_at k x y z p q r a b c = xor_at k _ _ _ _ (xor_at k _ _ _ _ a b) c

twos_at : (k x y z : ℕ) (p q r : Bool) → test x k ≡ p → test y k ≡ q → test z k ≡ r → test (twos_w x y z) k ≡ twos3 p q r
twos_at k x y z p q r a b c = or_at k _ _ _ _ (and_at k _ _ _ _ a b) (and_at k _ _ _ _ (xor_at k _ _ _ _ a b) c)

-- the network on words
abbrev pub network_w : ℕ → ℕ → ℕ → ℕ → ℕ → ℕ → ℕ → ℕ → ℕ → ℕ
network_w nw n ne w e sw s se alive =
    let a1 = ones_w nw n ne in
    let a2 = twos_w nw n ne in
    let h1 = bit_xor w e in
    let h2 = bit_and w e in
    let b1 = ones_w sw s se in
    let b2 = twos_w sw s se in
    let ones = ones_w a1 h1 b1 in
    let carried = twos_w a1 h1 b1 in
    let row_twos = ones_w a2 h2 b2 in
    let row_fours = twos_w a2 h2 b2 in
    let twos = bit_xor row_twos carried in
    let fours = bit_or row_fours (bit_and row_twos carried) in
    bit_and (bit_and twos (bit_xor twos fours)) (bit_or ones alive)

pub network_at : (k nw north ne w e sw s se alive : ℕ) (p1 p2 p3 p4 p5 p6 p7 p8 p9 : Bool)
    → test nw k ≡ p1 → test north k ≡ p2 → test ne k ≡ p3 → test w k ≡ p4 → test e k ≡ p5 → test sw k ≡ p6 → test s k ≡ p7 → test se k ≡ p8 → test alive k ≡ p9
    → test (network_w nw north ne w e sw s se alive) k ≡ network p1 p2 p3 p4 p5 p6 p7 p8 p9
network_at k nw north ne w e sw s se alive p1 p2 p3 p4 p5 p6 p7 p8 p9 b1 b2 b3 b4 b5 b6 b7 b8 b9 =
    let above_ones = ones_at k _ _ _ _ _ _ b1 b2 b3 in
    let above_twos = twos_at k _ _ _ _ _ _ b1 b2 b3 in
    let here_ones = xor_at k _ _ _ _ b4 b5 in
    let here_twos = and_at k _ _ _ _ b4 b5 in
    let below_ones = ones_at k _ _ _ _ _ _ b6 b7 b8 in
    let below_twos = twos_at k _ _ _ _ _ _ b6 b7 b8 in
    let ones = ones_at k _ _ _ _ _ _ above_ones here_ones below_ones in
    let carried = twos_at k _ _ _ _ _ _ above_ones here_ones below_ones in
    let row_twos = ones_at k _ _ _ _ _ _ above_twos here_twos below_twos in
    let row_fours = twos_at k _ _ _ _ _ _ above_twos here_twos below_twos in
    let twos = xor_at k _ _ _ _ row_twos carried in
    let fours = or_at k _ _ _ _ row_fours (and_at k _ _ _ _ row_twos carried) in
    and_at k _ _ _ _ (and_at k _ _ _ _ twos (xor_at k _ _ _ _ twos fours)) (or_at k _ _ _ _ ones b9)
