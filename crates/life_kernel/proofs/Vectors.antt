-- One lane of a vector through each operation, and the whole kernel lane by lane, at any count of lanes.
use Rattle.std.proofs.Common.{◌≡◌, ℕ, ◌*◌, ◌/◌, ◌%◌, ◌^◌, ◌<◌, Bool, ◌&&◌, ◌||◌, List, length, slice_index, replicate, refl, sym, ap, ap₂, ◌∙◌, subst, suc, Fits, w64}
use Rattle.std.proofs.lemmas.Simd.{length-zip2, get_or-zip2, length-replicate, get_or-replicate, Each1-get_or}
use lib.Bits.{bit_and, bit_or, bit_xor}
use lib.Lanes.{zip2, Each1}
use Rattle.life_kernel.specs.Rows.{test, column, next_cell}
use Rattle.life_kernel.specs.BitLaws.{xor, test-and, test-or, test-xor, test-shr, west_word, own_word, east_word}
use Rattle.life_kernel.proofs.Adder.{network, network_is_rule, ones3, twos3}

abbrev pub shl_lane : ℕ → ℕ → ℕ
shl_lane x s = x * 2 ^ s % 2 ^ 64

abbrev pub shr_lane : ℕ → ℕ → ℕ
shr_lane x s = x / 2 ^ s

-- of n lanes, bit k of lane j is p
pub record Bit (n j k : ℕ) (xs : List ℕ) (p : Bool) : Type 0 where
  pub long : length xs ≡ n
  pub set : test (slice_index xs j) k ≡ p

-- lane j of an operator on two vectors of n lanes
lane2 : (f : ℕ → ℕ → ℕ) (n j : ℕ) → j < n → (xs ys : List ℕ) → length xs ≡ n → length ys ≡ n
    → slice_index (zip2 f xs ys) j ≡ f (slice_index xs j) (slice_index ys j)
lane2 f n j h xs ys lx ly =
    let hx : j < length xs = subst (λ m. j < m) (sym lx) h in
    let hy : j < length ys = subst (λ m. j < m) (sym ly) h in
    get_or-zip2 f xs ys j 0 0 0 hx hy

long2 : (f : ℕ → ℕ → ℕ) (n : ℕ) → (xs ys : List ℕ) → length xs ≡ n → length ys ≡ n → length (zip2 f xs ys) ≡ n
long2 f n xs ys lx ly = length-zip2 f xs ys (lx ∙ sym ly) ∙ lx

and-bit : (n j k : ℕ) → j < n → (xs ys : List ℕ) (p q : Bool) → Bit n j k xs p → Bit n j k ys q → Bit n j k (zip2 bit_and xs ys) (p && q)
and-bit n j k h xs ys p q a b = record {
  long = long2 bit_and n xs ys a.long b.long;
  set = ap (λ v. test v k) (lane2 bit_and n j h xs ys a.long b.long) ∙ test-and _ _ k ∙ ap₂ (λ u v. u && v) a.set b.set;
}

or-bit : (n j k : ℕ) → j < n → (xs ys : List ℕ) (p q : Bool) → Bit n j k xs p → Bit n j k ys q → Bit n j k (zip2 bit_or xs ys) (p || q)
or-bit n j k h xs ys p q a b = record {
  long = long2 bit_or n xs ys a.long b.long;
  set = ap (λ v. test v k) (lane2 bit_or n j h xs ys a.long b.long) ∙ test-or _ _ k ∙ ap₂ (λ u v. u || v) a.set b.set;
}

xor-bit : (n j k : ℕ) → j < n → (xs ys : List ℕ) (p q : Bool) → Bit n j k xs p → Bit n j k ys q → Bit n j k (zip2 bit_xor xs ys) (xor p q)
xor-bit n j k h xs ys p q a b = record {
  long = long2 bit_xor n xs ys a.long b.long;
  set = ap (λ v. test v k) (lane2 bit_xor n j h xs ys a.long b.long) ∙ test-xor _ _ k ∙ ap₂ xor a.set b.set;
}

abbrev pub ones_l : List ℕ → List ℕ → List ℕ → List ℕ
ones_l x y z = zip2 bit_xor (zip2 bit_xor x y) z

abbrev pub twos_l : List ℕ → List ℕ → List ℕ → List ℕ
twos_l x y z = zip2 bit_or (zip2 bit_and x y) (zip2 bit_and (zip2 bit_xor x y) z)

ones-bit : (n j k : ℕ) → j < n → (x y z : List ℕ) (p q r : Bool) → Bit n j k x p → Bit n j k y q → Bit n j k z r → Bit n j k (ones_l x y z) (ones3 p q r)
ones-bit n j k h x y z p q r a b c = xor-bit n j k h _ _ _ _ (xor-bit n j k h _ _ _ _ a b) c

twos-bit : (n j k : ℕ) → j < n → (x y z : List ℕ) (p q r : Bool) → Bit n j k x p → Bit n j k y q → Bit n j k z r → Bit n j k (twos_l x y z) (twos3 p q r)
twos-bit n j k h x y z p q r a b c = or-bit n j k h _ _ _ _ (and-bit n j k h _ _ _ _ a b) (and-bit n j k h _ _ _ _ (xor-bit n j k h _ _ _ _ a b) c)

-- the network on vectors
abbrev pub network_l : List ℕ → List ℕ → List ℕ → List ℕ → List ℕ → List ℕ → List ℕ → List ℕ → List ℕ → List ℕ
network_l nw n ne w e sw s se alive =
    let a1 = ones_l nw n ne in
    let a2 = twos_l nw n ne in
    let h1 = zip2 bit_xor w e in
    let h2 = zip2 bit_and w e in
    let b1 = ones_l sw s se in
    let b2 = twos_l sw s se in
    let ones = ones_l a1 h1 b1 in
    let carried = twos_l a1 h1 b1 in
    let row_twos = ones_l a2 h2 b2 in
    let row_fours = twos_l a2 h2 b2 in
    let twos = zip2 bit_xor row_twos carried in
    let fours = zip2 bit_or row_fours (zip2 bit_and row_twos carried) in
    zip2 bit_and (zip2 bit_and twos (zip2 bit_xor twos fours)) (zip2 bit_or ones alive)

network-bit : (n j k : ℕ) → j < n → (nw north ne w e sw s se alive : List ℕ) (p1 p2 p3 p4 p5 p6 p7 p8 p9 : Bool)
    → Bit n j k nw p1 → Bit n j k north p2 → Bit n j k ne p3 → Bit n j k w p4 → Bit n j k e p5 → Bit n j k sw p6 → Bit n j k s p7 → Bit n j k se p8 → Bit n j k alive p9
    → Bit n j k (network_l nw north ne w e sw s se alive) (network p1 p2 p3 p4 p5 p6 p7 p8 p9)
network-bit n j k h nw north ne w e sw s se alive p1 p2 p3 p4 p5 p6 p7 p8 p9 b1 b2 b3 b4 b5 b6 b7 b8 b9 =
    let above_ones = ones-bit n j k h _ _ _ _ _ _ b1 b2 b3 in
    let above_twos = twos-bit n j k h _ _ _ _ _ _ b1 b2 b3 in
    let here_ones = xor-bit n j k h _ _ _ _ b4 b5 in
    let here_twos = and-bit n j k h _ _ _ _ b4 b5 in
    let below_ones = ones-bit n j k h _ _ _ _ _ _ b6 b7 b8 in
    let below_twos = twos-bit n j k h _ _ _ _ _ _ b6 b7 b8 in
    let ones = ones-bit n j k h _ _ _ _ _ _ above_ones here_ones below_ones in
    let carried = twos-bit n j k h _ _ _ _ _ _ above_ones here_ones below_ones in
    let row_twos = ones-bit n j k h _ _ _ _ _ _ above_twos here_twos below_twos in
    let row_fours = twos-bit n j k h _ _ _ _ _ _ above_twos here_twos below_twos in
    let twos = xor-bit n j k h _ _ _ _ row_twos carried in
    let fours = or-bit n j k h _ _ _ _ row_fours (and-bit n j k h _ _ _ _ row_twos carried) in
    and-bit n j k h _ _ _ _ (and-bit n j k h _ _ _ _ twos (xor-bit n j k h _ _ _ _ twos fours)) (or-bit n j k h _ _ _ _ ones b9)

-- lane j of an operator with the same number in each lane
lane_splat : (f : ℕ → ℕ → ℕ) (n j : ℕ) → j < n → (xs : List ℕ) (s : ℕ) → length xs ≡ n
    → slice_index (zip2 f xs (replicate n s)) j ≡ f (slice_index xs j) s
lane_splat f n j h xs s lx = lane2 f n j h xs (replicate n s) lx (length-replicate n s) ∙ ap (f (slice_index xs j)) (get_or-replicate n j s 0 h)

long_splat : (f : ℕ → ℕ → ℕ) (n : ℕ) (xs : List ℕ) (s : ℕ) → length xs ≡ n → length (zip2 f xs (replicate n s)) ≡ n
long_splat f n xs s lx = long2 f n xs (replicate n s) lx (length-replicate n s)

abbrev pub west_l : ℕ → List ℕ → List ℕ → List ℕ
west_l n a x = zip2 bit_or (zip2 shl_lane a (replicate n 1)) (zip2 bit_and x (replicate n 1))

abbrev pub east_l : ℕ → List ℕ → List ℕ → List ℕ
east_l n a x = zip2 bit_or (zip2 shr_lane a (replicate n 1)) (zip2 shl_lane x (replicate n 63))

west-bit : (n j k : ℕ) → j < n → k < 64 → (a x : List ℕ) (p east : Bool) → length a ≡ n → length x ≡ n → test (slice_index x j) 0 ≡ p
    → Bit n j k (west_l n a x) (column (slice_index a j) p east k)
west-bit n j k h hk a x p east la lx e = record {
  long = long2 bit_or n _ _ (long_splat shl_lane n a 1 la) (long_splat bit_and n x 1 lx);
  set = ap (λ v. test v k) (lane2 bit_or n j h _ _ (long_splat shl_lane n a 1 la) (long_splat bit_and n x 1 lx) ∙ ap₂ bit_or (lane_splat shl_lane n j h a 1 la) (lane_splat bit_and n j h x 1 lx))
      ∙ west_word (slice_index a j) (slice_index x j) east k hk
      ∙ ap (λ b. column (slice_index a j) b east k) e;
}

east-bit : (n j k : ℕ) → j < n → k < 64 → (a x : List ℕ) (p west : Bool) → length a ≡ n → length x ≡ n → slice_index a j < 2 ^ 64 → test (slice_index x j) 0 ≡ p
    → Bit n j k (east_l n a x) (column (slice_index a j) west p (suc (suc k)))
east-bit n j k h hk a x p west la lx fits e = record {
  long = long2 bit_or n _ _ (long_splat shr_lane n a 1 la) (long_splat shl_lane n x 63 lx);
  set = ap (λ v. test v k) (lane2 bit_or n j h _ _ (long_splat shr_lane n a 1 la) (long_splat shl_lane n x 63 lx) ∙ ap₂ bit_or (lane_splat shr_lane n j h a 1 la) (lane_splat shl_lane n j h x 63 lx))
      ∙ east_word (slice_index a j) (slice_index x j) west k fits hk
      ∙ ap (λ b. column (slice_index a j) west b (suc (suc k))) e;
}

own-bit : (n j k : ℕ) → k < 64 → (a : List ℕ) (west east : Bool) → length a ≡ n → Bit n j k a (column (slice_index a j) west east (suc k))
own-bit n j k hk a west east la = record { long = la; set = own_word (slice_index a j) west east k hk }

-- bit r of an end, moved to bit 0
end_one : (n j : ℕ) → j < n → (x : List ℕ) → length x ≡ n → test (slice_index (zip2 shr_lane x (replicate n 1)) j) 0 ≡ test (slice_index x j) 1
end_one n j h x lx = ap (λ v. test v 0) (lane_splat shr_lane n j h x 1 lx) ∙ test-shr 1 0 (slice_index x j)

end_two : (n j : ℕ) → j < n → (x : List ℕ) → length x ≡ n → test (slice_index (zip2 shr_lane x (replicate n 2)) j) 0 ≡ test (slice_index x j) 2
end_two n j h x lx = ap (λ v. test v 0) (lane_splat shr_lane n j h x 2 lx) ∙ test-shr 2 0 (slice_index x j)

abbrev pub next_l : ℕ → List ℕ → List ℕ → List ℕ → List ℕ → List ℕ → List ℕ
next_l n above here below west east =
    let west1 = zip2 shr_lane west (replicate n 1) in
    let west2 = zip2 shr_lane west (replicate n 2) in
    let east1 = zip2 shr_lane east (replicate n 1) in
    let east2 = zip2 shr_lane east (replicate n 2) in
    network_l (west_l n above west) above (east_l n above east) (west_l n here west1) (east_l n here east1) (west_l n below west2) below (east_l n below east2) here

-- the kernel is the rule in each lane
pub lanes_are_next : (n : ℕ) (above here below west east : List ℕ)
    → length above ≡ n → length here ≡ n → length below ≡ n → length west ≡ n → length east ≡ n
    → Each1 (Fits w64) above → Each1 (Fits w64) here → Each1 (Fits w64) below
    → (j : ℕ) → j < n → (k : ℕ) → k < 64
    → test (slice_index (next_l n above here below west east) j) k
    ≡ next_cell (slice_index above j) (slice_index here j) (slice_index below j) (slice_index west j) (slice_index east j) k
unfolding next_cell
lanes_are_next n above here below west east la lh lb lw le fa fh fb j h k hk =
    let fits : (xs : List ℕ) → length xs ≡ n → Each1 (Fits w64) xs → slice_index xs j < 2 ^ 64 = λ xs l f.
    let hx : j < length xs = subst (λ m. j < m) (sym l) h in
    (Each1-get_or (Fits w64) xs j 0 hx f).fits in
    let w0 = test (slice_index west j) 0 in
    let e0 = test (slice_index east j) 0 in
    let w1 = test (slice_index west j) 1 in
    let e1 = test (slice_index east j) 1 in
    let w2 = test (slice_index west j) 2 in
    let e2 = test (slice_index east j) 2 in
    let north : ℕ → Bool = column (slice_index above j) w0 e0 in
    let middle : ℕ → Bool = column (slice_index here j) w1 e1 in
    let south : ℕ → Bool = column (slice_index below j) w2 e2 in
    (network-bit n j k h _ _ _ _ _ _ _ _ _ (north k) (north (suc k)) (north (suc (suc k))) (middle k) (middle (suc (suc k))) (south k) (south (suc k)) (south (suc (suc k))) (middle (suc k))
    (west-bit n j k h hk above west w0 e0 la lw refl)
    (own-bit n j k hk above w0 e0 la)
    (east-bit n j k h hk above east e0 w0 la le (fits above la fa) refl)
    (west-bit n j k h hk here _ w1 e1 lh (long_splat shr_lane n west 1 lw) (end_one n j h west lw))
    (east-bit n j k h hk here _ e1 w1 lh (long_splat shr_lane n east 1 le) (fits here lh fh) (end_one n j h east le))
    (west-bit n j k h hk below _ w2 e2 lb (long_splat shr_lane n west 2 lw) (end_two n j h west lw))
    (own-bit n j k hk below w2 e2 lb)
    (east-bit n j k h hk below _ e2 w2 lb (long_splat shr_lane n east 2 le) (fits below lb fb) (end_two n j h east le))
    (own-bit n j k hk here w1 e1 lh)).set
    ∙ network_is_rule (north k) (north (suc k)) (north (suc (suc k))) (middle k) (middle (suc (suc k))) (south k) (south (suc k)) (south (suc (suc k))) (middle (suc k))
