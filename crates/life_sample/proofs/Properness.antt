-- The sample is a proper book.
use Rattle.std.proofs.Common.{◌≡◌, ℕ, zero, suc, ◌+◌, ◌-◌, ◌*◌, ◌<◌, ◌≤◌, ◌^◌, true, false, ℤ, pos, List, [], ◌∷◌, ◌++◌, length, map, refl, sym, ap, subst, ◌∙◌, append-nil, length-append, arith}
use Rattle.std.specs.Prelude.{◌≢◌, ◌+ℤ◌, ◌==◌, if◌then◌else◌, sum_by}
use Rattle.std.specs.List.{AllByRecursion}
use Rattle.std.specs.Fmt.{decimal}
use Rattle.std.proofs.lemmas.Int.{ints}
use Rattle.std.proofs.lemmas.Bool.{or_right}
use Rattle.std.proofs.lemmas.Bool.Decides.{nat_tests}
use Rattle.std.proofs.lemmas.List.{map-append}
use Rattle.std.proofs.lemmas.Nat.{mul-le}
use Rattle.std.proofs.lemmas.List.Sums.{sum_by_push}
use Rattle.life_plane.specs.ListLaws.{all_push}
use Rattle.life_cells.specs.Cells.{Cells, cell, alive, in_order, from_list}
use Rattle.life_cells.specs.Listed.{listed}
use Rattle.life_cells.specs.Laws.{alive-from_list_at, listed-append_at}
use Rattle.life_cells.specs.PlaceLaws.{listed_here}
use Rattle.book_parts.specs.declared.kind.RawKind.{RawKind}
use Rattle.book_parts.specs.declared.turn.RawTurn.{RawTurn}
use Rattle.book_parts.specs.declared.salvo.RawSalvo.{RawSalvo}
use Rattle.book_parts.specs.declared.turn.TurnEnd.TheVariants.{Close, Move}
use Rattle.book_parts.specs.Limits.{IsPlaced, AreProper}
use Rattle.book_parts.specs.Proper.{HasLife, IsNoneOf, AreDistinct, IsProperEnd, IsProperTurn, IsProperKind, IsProperHand, IsProperSalvo, IsProperBook, entry_names}
use Rattle.book_parts.specs.Said.{Said}
use Rattle.life_sample.specs.Sample.{settings, block, blocks, kind, kinds, ending, turn, turns, IsSample}
use Rattle.life_sample.proofs.Cells.{IsInSquare, block_in_square, blocks_in_square, block_count, each_alive}
use Rattle.life_sample.proofs.Naming.{letter_and_number, names_differ}

-- ---- names

-- the names with this letter and the numbers from 1 to n
abbrev names : ℕ → ℕ → List (List ℕ)
names letter zero = []
names letter (suc n) = names letter n ++ (letter ∷ decimal (n + 1)) ∷ []

kind_names_are : (gap n : ℕ) → map (λ (kind : RawKind). kind.name) (kinds gap n) ≡ names 107 n
kind_names_are gap zero = refl
kind_names_are gap (suc n) = map-append (λ (kind : RawKind). kind.name) (kinds gap n) (kind gap (n + 1) ∷ []) ∙ ap (λ ns. ns ++ (107 ∷ decimal (n + 1)) ∷ []) (kind_names_are gap n)

turn_names_are : (gap n : ℕ) → map (λ (turn : RawTurn). turn.name) (turns gap n) ≡ names 116 n
turn_names_are gap zero = refl
turn_names_are gap (suc n) = map-append (λ (turn : RawTurn). turn.name) (turns gap n) (turn gap (n + 1) ∷ []) ∙ ap (λ ns. ns ++ (116 ∷ decimal (n + 1)) ∷ []) (turn_names_are gap n)

later_is_new : (letter n m : ℕ) → n < m → m < 2 ^ 64 → IsNoneOf (names letter n) (letter ∷ decimal m)
later_is_new letter zero m less fits = tt
later_is_new letter (suc n) m less fits =
    all_push (λ other. other ≢ (letter ∷ decimal m)) (names letter n) (letter ∷ decimal (n + 1)) (later_is_new letter n m (omega arith) fits) (names_differ letter (n + 1) m (omega arith) fits (omega arith))

distinct_push : (others : List (List ℕ)) (name : List ℕ) → AreDistinct others → IsNoneOf others name → AreDistinct (others ++ name ∷ [])
distinct_push [] name distinct new = (tt, tt)
distinct_push (other ∷ others) name distinct new = (all_push (λ text. text ≢ other) others name distinct.0 (λ e. new.0 (sym e)), distinct_push others name distinct.1 new.1)

names_distinct : (letter n : ℕ) → n < 2 ^ 64 → AreDistinct (names letter n)
names_distinct letter zero fits = tt
names_distinct letter (suc n) fits = distinct_push (names letter n) (letter ∷ decimal (n + 1)) (names_distinct letter n (omega arith)) (later_is_new letter n (n + 1) (omega arith) (omega arith))

-- ---- kinds

blocks_live : (gap m : ℕ) → 1 ≤ m → HasLife (alive (from_list (blocks gap m)))
blocks_live gap zero some = absurd (omega arith)
blocks_live gap (suc m) some =
    let corner = pos (m * gap) in
    let far = corner +ℤ pos 1 in
    (corner, (corner, alive-from_list_at (blocks gap (suc m)) corner corner ∙ listed-append_at (blocks gap m) (block corner) corner corner ∙ or_right (listed (blocks gap m) corner corner) _ (listed_here (cell corner corner) (cell far corner ∷ (cell corner far ∷ (cell far far ∷ []))))))

blocks_placed : (gap m : ℕ) → 2 ≤ gap → m * gap ≤ 2 ^ 30 → IsPlaced (alive (from_list (blocks gap m)))
blocks_placed gap m wide near =
    let square : (x y : ℤ) → alive (from_list (blocks gap m)) x y ≡ true → IsInSquare (m * gap) (cell x y) = each_alive (IsInSquare (m * gap)) (blocks gap m) (blocks_in_square gap m wide) in
    record {
      x = λ x y h. let s = square x y h in let low = s.left in let high = s.right in record { low = omega (arith, ints); high = omega (arith, ints) };
      y = λ x y h. let s = square x y h in let low = s.top in let high = s.bottom in record { low = omega (arith, ints); high = omega (arith, ints) };
    }

kind_proper : (gap i : ℕ) → 2 ≤ gap → i * gap ≤ 2 ^ 30 → 1 ≤ i → i < 100 → IsProperKind (kind gap i)
kind_proper gap i wide near some few = record { name = letter_and_number 107 i refl (λ e. omega arith) few; lives = blocks_live gap i some; placed = blocks_placed gap i wide near }

kinds_proper : (gap n : ℕ) → 2 ≤ gap → n * gap ≤ 2 ^ 30 → n < 100 → AllByRecursion IsProperKind (kinds gap n)
kinds_proper gap zero wide near few = tt
kinds_proper gap (suc n) wide near few =
    all_push IsProperKind (kinds gap n) (kind gap (n + 1)) (kinds_proper gap n wide (omega arith) (omega arith)) (kind_proper gap (n + 1) wide (omega arith) (omega arith) (omega arith))

count_kinds : (gap n : ℕ) → length (kinds gap n) ≡ n
count_kinds gap zero = refl
count_kinds gap (suc n) = length-append (kinds gap n) (kind gap (n + 1) ∷ []) ∙ (let e = count_kinds gap n in omega arith)

few_live : (gap n : ℕ) → 2 ≤ gap → n ≤ 64 → sum_by (λ (kind : RawKind). length (in_order kind.cells)) (kinds gap n) ≤ 256 * n
few_live gap zero wide few = omega arith
few_live gap (suc n) wide few =
    let before = few_live gap n wide (omega arith) in
    let here = block_count gap (n + 1) wide in
    let all = sum_by_push (λ (kind : RawKind). length (in_order kind.cells)) (kinds gap n) (kind gap (n + 1)) in
    omega arith

-- ---- turns

end_proper : (gap i count : ℕ) → gap ≤ 2 ^ 30 → 1 ≤ i → i ≤ count → IsProperEnd count (ending gap i)
end_proper gap i count near some most =
    elim (i == 1) as (λ first. (i == 1) ≡ first → IsProperEnd count (if first then Close else Move (i - 1) (pos gap))) [
      | true ↦ λ e. tt
      | false ↦ λ e. (record { some = grind (arith, nat_tests); most = omega arith }, record { low = omega (arith, ints); high = omega (arith, ints) })
    ] refl

turn_proper : (gap i count : ℕ) → gap ≤ 2 ^ 30 → 1 ≤ i → i ≤ count → i < 100 → IsProperTurn count (turn gap i)
turn_proper gap i count near some most few = record {
  name = letter_and_number 116 i refl (λ e. omega arith) few;
  kind = record { some = some; most = most };
  leaves = end_proper gap i count near some most;
  short = omega arith;
  some = omega arith;
  few = omega arith;
  delays = (record { low = omega (arith, ints); high = omega (arith, ints) }, tt);
}

turns_proper : (gap n count : ℕ) → gap ≤ 2 ^ 30 → n ≤ count → count < 100 → AllByRecursion (IsProperTurn count) (turns gap n)
turns_proper gap zero count near most few = tt
turns_proper gap (suc n) count near most few =
    all_push (IsProperTurn count) (turns gap n) (turn gap (n + 1)) (turns_proper gap n count near (omega arith) few) (turn_proper gap (n + 1) count near (omega arith) (omega arith) (omega arith))

count_turns : (gap n : ℕ) → length (turns gap n) ≡ n
count_turns gap zero = refl
count_turns gap (suc n) = length-append (turns gap n) (turn gap (n + 1) ∷ []) ∙ (let e = count_turns gap n in omega arith)

-- ---- the settings and the hand

settings_proper : (span : ℕ) → span ≤ 2 ^ 27 → AreProper (settings (pos span))
settings_proper span near = record {
  approach = record { range = record { low = omega (arith, ints); high = omega (arith, ints) }; quarters = pos 10; multiple = refl };
  wall = record { low = omega (arith, ints); high = omega (arith, ints) };
  reach = record { low = omega (arith, ints); high = omega (arith, ints) };
  corner_x = record { low = omega (arith, ints); high = omega (arith, ints) };
  corner_y = record { low = omega (arith, ints); high = omega (arith, ints) };
  room = record { low = omega (arith, ints); high = omega (arith, ints) };
  span = record { low = omega (arith, ints); high = omega (arith, ints) };
  lanes = record {
    low = record { low = omega (arith, ints); high = omega (arith, ints) };
    high = record { low = omega (arith, ints); high = omega (arith, ints) };
    order = omega (arith, ints);
    some = omega arith;
    few = omega arith;
  };
  delays = record { low = omega (arith, ints); order = omega (arith, ints); high = omega (arith, ints); few = omega arith };
}

-- the hand is the first kind
hand_proper : IsProperHand (alive (from_list (block (pos 0))))
hand_proper =
    let square : (x y : ℤ) → alive (from_list (block (pos 0))) x y ≡ true → IsInSquare 2 (cell x y) = each_alive (IsInSquare 2) (block (pos 0)) (block_in_square 0) in
    record {
      lives = blocks_live 64 1 (omega arith);
      placed = blocks_placed 64 1 (omega arith) (omega arith);
      x = λ x y h. let s = square x y h in let low = s.left in let high = s.right in record { low = omega (arith, ints); high = omega (arith, ints) };
      y = λ x y h. let s = square x y h in let low = s.top in let high = s.bottom in record { low = omega (arith, ints); high = omega (arith, ints) };
    }

few_hand : length (in_order (from_list (block (pos 0)))) ≡ 4
few_hand = block_count 64 1 (omega arith)

-- ---- the whole

entries_are : (count gap : ℕ) (book : Said) → IsSample count gap book → entry_names book ≡ names 116 count
entries_are count gap book is =
    (λ i. map (λ (turn : RawTurn). turn.name) (is.turns_are i) ++ map (λ (salvo : RawSalvo). salvo.name) (is.salvos_are i)) ∙ append-nil (map (λ (turn : RawTurn). turn.name) (turns gap count)) ∙ turn_names_are gap count

-- the sample is proper
pub sample_proper : (count gap : ℕ) (book : Said) → 1 ≤ count → count ≤ 64 → 64 ≤ gap → gap ≤ 1000000 → IsSample count gap book → IsProperBook book
sample_proper count gap book some few wide near is =
    let span = mul-le count gap 64 1000000 few near in
    let kinds_many : length book.kinds ≡ count = ap length is.kinds_are ∙ count_kinds gap count in
    let turns_many : length book.turns ≡ count = ap length is.turns_are ∙ count_turns gap count in
    let hand_few : length (in_order book.hand) ≡ 4 = ap (λ s. length (in_order s)) is.hand_is ∙ few_hand in
    let kinds_few = few_live gap count (omega arith) few in
    let kinds_same = ap (sum_by (λ (kind : RawKind). length (in_order kind.cells))) is.kinds_are in
    let salvos_none = ap (sum_by (λ (salvo : RawSalvo). length (in_order salvo.product))) is.salvos_are in
    let salvos_many : length book.salvos ≡ 0 = ap length is.salvos_are in
    let start = is.start_is in
    record {
      settings = subst AreProper (sym is.settings_are) (settings_proper (count * gap) (omega arith));
      hand = subst (λ (s : Cells). IsProperHand (alive s)) (sym is.hand_is) hand_proper;
      some_kind = omega arith;
      few_kinds = omega arith;
      kinds = subst (AllByRecursion IsProperKind) (sym is.kinds_are) (kinds_proper gap count (omega arith) (omega arith) (omega arith));
      kind_names = subst AreDistinct (sym (ap (map (λ (kind : RawKind). kind.name)) is.kinds_are ∙ kind_names_are gap count)) (names_distinct 107 count (omega arith));
      start = record { some = omega arith; most = omega arith };
      few_turns = omega arith;
      turns = subst (λ (n : ℕ). AllByRecursion (IsProperTurn n) book.turns) (sym kinds_many) (subst (AllByRecursion (IsProperTurn count)) (sym is.turns_are) (turns_proper gap count count (omega arith) (omega arith) (omega arith)));
      few_salvos = omega arith;
      salvos = subst (AllByRecursion IsProperSalvo) (sym is.salvos_are) tt;
      names = subst AreDistinct (sym (entries_are count gap book is)) (names_distinct 116 count (omega arith));
      few_cells = omega arith;
    }
