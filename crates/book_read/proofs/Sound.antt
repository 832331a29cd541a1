-- What fine lines have stated is proper.
use Rattle.std.proofs.Common.{◌≡◌, ◌≢◌, ℕ, ◌+◌, ◌<◌, ◌≤◌, ℤ, pos, negsuc, nat_abs, ◌≤ℤ◌, ◌+ℤ◌, List, [], ◌∷◌, ◌++◌, length, Option, Some, None, IfSome, IsSome, unwrap_or, inl, inr, refl, sym, ap, ◌∙◌, subst, arith}
use Rattle.std.proofs.Common.{Bool, true, false, zero, suc, slice_get, flat_map, map, ◌-ℤ◌, append_assoc}
use Rattle.std.specs.List.{AllZip}
use Rattle.std.specs.Str.{bytes_eq}
use Rattle.std.proofs.lemmas.Bool.{false≢true}
use Rattle.std.proofs.lemmas.List.{append-nil, map-append}
use Rattle.std.proofs.lemmas.List.Sums.{sum_by_push}
use Rattle.life_plane.specs.ListLaws.{all_push}
use Rattle.life_plane.specs.Plane.{Plane, shift}
use Rattle.life_cells.specs.Cells.{cell, empty, in_order}
use Rattle.life_cells.specs.Laws.{alive-empty, alive-in_order_at, place_of_listed}
use Rattle.rle_items.specs.Words.{WordMeans}
use Rattle.book_parts.specs.Limits.{IsPlaced}
use Rattle.book_parts.specs.Proper.{HasLife, IsKindNumber, IsDelay, IsProperEnd, IsProperTurn, IsProperKind, IsProperHand, IsProperPlace, IsProperSalvo, IsNoneOf, AreDistinct, IsProperBook}
use Rattle.book_parts.specs.declared.kind.RawKind.{RawKind}
use Rattle.book_parts.specs.declared.turn.RawTurn.{RawTurn}
use Rattle.book_parts.specs.declared.turn.TurnEnd.{TurnEnd}
use Rattle.book_parts.specs.declared.turn.TurnEnd.TheVariants as ending
use Rattle.book_parts.specs.declared.salvo.RawSalvo.{RawSalvo}
use Rattle.book_lines.specs.declared.statement.Body.{Body}
use Rattle.book_lines.specs.declared.statement.Body.TheVariants.{Drawn, TooMany}
use Rattle.book_lines.specs.declared.statement.Placed.{Placed}
use Rattle.book_lines.specs.declared.statement.ElbowLine.{ElbowLine}
use Rattle.book_lines.specs.declared.statement.NamedEnd.{NamedEnd}
use Rattle.book_lines.specs.declared.statement.NamedEnd.TheVariants.{Close, Move, Emit}
use Rattle.book_lines.specs.declared.statement.TurnLine.{TurnLine}
use Rattle.book_lines.specs.declared.statement.SalvoLine.{SalvoLine}
use Rattle.book_lines.specs.declared.book_word.BookWord.{BookWord}
use Rattle.book_lines.specs.declared.book_word.BookWord.TheVariants as word
use Rattle.book_lines.specs.Limits.{IsWithin}
use Rattle.book_lines.specs.Forms.{KeepsOrder}
use Rattle.book_read.specs.Drafted.{AreNumbersOf}
use Rattle.book_read.proofs.Settings.{of_update, setting_within, its_numbers}
use Rattle.book_lines.specs.Values.{Level, IsNumberAt, IsBodyAt, body_count}
use Rattle.book_lines.specs.Counts.{cell_count}
use Rattle.book_lines.specs.declared.limit.Limit.{Limit}
use Rattle.book_read.specs.Names.{number_from, number_of, known_number}
use Rattle.book_read.specs.Stated.{cells_of, kind_of, end_of, turn_of, product_of, salvo_of}
use Rattle.book_read.specs.Limited.{cell_numbers, body_numbers, end_numbers, product_numbers, place_numbers, stated_cells, hand_count}
use Rattle.book_read.specs.Joining.{IsNew, KnowsKinds, kind_names, entry_names, kinds_of_end}
use Rattle.book_read.specs.Book.{Said, whole, Says}
use Rattle.book_read.proofs.Counted.{behind_none, few, cells_counted, product_counted}
use Rattle.std.specs.List.{AllByRecursion}
use Rattle.std.proofs.lemmas.Int.{ints}
use Rattle.std.proofs.lemmas.List.{length-append}
use Rattle.life_cells.specs.Cells.{Cells, alive}
use Rattle.life_cells.specs.declared.cell.Cell.{Cell}
use Rattle.book_parts.specs.Limits.{IsFrom, IsCoordinate, AreProper}
use Rattle.book_parts.specs.declared.settings.Settings.{Settings}
use Rattle.book_lines.specs.declared.statement.Statement.{Statement}
use Rattle.book_lines.specs.declared.statement.Statement.TheVariants.{Setting, Hand, Elbow, Start, Turn, Salvo}
use Rattle.book_lines.specs.Statements.{States}
use Rattle.book_read.specs.Stated.{Stated, joined, nothing_stated, coordinates, range_numbers, setting_numbers}
use Rattle.book_read.specs.Limited.{Limited, held, setting_limited, numbers, counts, IsFirstOutside, IsOver}
use Rattle.book_lines.specs.declared.limit.Limit.TheVariants as limit
use Rattle.book_read.specs.Joining.{IsFine}
use Rattle.book_read.specs.Reading.{AreFine}
use Rattle.book_read.proofs.Counted.{front_none}
use Rattle.book_parts.specs.declared.limits.TheConstants.{LONGEST_TURN, MOST_CELLS, MOST_GAPS, MOST_KINDS, MOST_LANES, MOST_SALVOS, MOST_TURNS, WALL_MARGIN}

-- the first of numbers within their limits is within its
pub first_within : (n : Limited) (ns : List Limited) → IsFirstOutside (n ∷ ns) None → IsWithin n.limit n.number × IsFirstOutside ns None
first_within n ns (inl h) = h
first_within n ns (inr h) = absurd (cc h.1)

-- ---- the settings

-- LOW doesn't pass HIGH, where there are three numbers
abbrev pub IsOrdered : List ℤ → Type 0
IsOrdered (low ∷ (high ∷ (len ∷ []))) = low ≤ℤ high
IsOrdered other = Unit {0}

-- the numbers of a setting are within its limits, and LOW doesn't pass HIGH
pub record IsSetting (word : BookWord) (numbers : List ℤ) : Type 0 where
  pub are : AreNumbersOf word numbers
  pub order : IsOrdered numbers

-- each setting that is stated is so
abbrev pub AreSettings : Stated → Type 0
AreSettings stated = (word : BookWord) (numbers : List ℤ) → stated.settings word ≡ Some numbers → IsSetting word numbers

no_settings : AreSettings nothing_stated
no_settings word numbers e = absurd (cc e)

kept_order : (ts : List (List ℕ)) (zs : List ℤ) → AllZip (IsNumberAt Level.Whole) ts zs → KeepsOrder ts → IsOrdered zs
kept_order [] [] h k = tt
kept_order [] (z ∷ zs) h k = absurd h
kept_order (t ∷ ts) [] h k = absurd h
kept_order (t ∷ []) (z ∷ []) h k = tt
kept_order (t ∷ []) (z ∷ (y ∷ zs)) h k = absurd h.1
kept_order (t ∷ (u ∷ ts)) (z ∷ []) h k = absurd h.1
kept_order (t ∷ (u ∷ [])) (z ∷ (y ∷ [])) h k = tt
kept_order (t ∷ (u ∷ [])) (z ∷ (y ∷ (x ∷ zs))) h k = absurd h.1.1
kept_order (t ∷ (u ∷ (v ∷ ts))) (z ∷ (y ∷ [])) h k = absurd h.1.1
kept_order (t ∷ (u ∷ (v ∷ []))) (z ∷ (y ∷ (x ∷ []))) h k = k z y h.0 h.1.0
kept_order (t ∷ (u ∷ (v ∷ []))) (z ∷ (y ∷ (x ∷ (w ∷ zs)))) h k = absurd h.1.1.1
kept_order (t ∷ (u ∷ (v ∷ (w ∷ ts)))) (z ∷ (y ∷ (x ∷ []))) h k = absurd h.1.1.1
kept_order (t ∷ (u ∷ (v ∷ (w ∷ ts)))) (z ∷ (y ∷ (x ∷ (a ∷ zs)))) h k = tt

settings_joined : (stated : Stated) (line : List ℕ) (s : Statement) → AreSettings stated → States line s → IsOver stated s None → AreSettings (joined stated s)
settings_joined stated line (Setting v) h says over =
    let is = says.items_are in
    of_update stated.settings IsSetting v.word v.numbers h (record {
      are = setting_within v (its_numbers line (Setting v) says) (front_none (setting_limited v) (counts stated (Setting v)) over);
      order = kept_order says.items v.numbers is.numbers_are.each is.order;
    })
settings_joined stated line (Hand body) h says over = h
settings_joined stated line (Elbow elbow) h says over = h
settings_joined stated line (Start name) h says over = h
settings_joined stated line (Turn turn) h says over = h
settings_joined stated line (Salvo salvo) h says over = h

length_of : (least most n : ℕ) → IsFrom (pos least) (pos most) (pos n) → (least ≤ n) × (n ≤ most)
length_of least most n h = let low = h.low in let high = h.high in (omega (arith, ints), omega (arith, ints))

proper_settings : (s : Settings) → ((word : BookWord) (numbers : List ℤ) → setting_numbers s word ≡ Some numbers → IsSetting word numbers) → (s.wall +ℤ WALL_MARGIN) ≤ℤ s.reach → AreProper s
proper_settings s each far =
    let corner = each word.Corner (coordinates s.corner) refl in
    let lanes = each word.Lanes (range_numbers s.lanes) refl in
    let most_lanes = length_of 1 MOST_LANES s.lanes.len lanes.are.each.1.1.0 in
    let gaps = each word.Delays (range_numbers s.delays) refl in
    let most_gaps = length_of 0 MOST_GAPS s.delays.len gaps.are.each.1.1.0 in
    record {
      approach = (each word.Approach (s.approach ∷ []) refl).are.each.0;
      wall = (each word.Wall (s.wall ∷ []) refl).are.each.0;
      reach = record { low = far; high = (each word.Reach (s.reach ∷ []) refl).are.each.0.high };
      corner_x = corner.are.each.0;
      corner_y = corner.are.each.1.0;
      room = (each word.Room (s.room ∷ []) refl).are.each.0;
      span = (each word.Span (s.span ∷ []) refl).are.each.0;
      lanes = record { low = lanes.are.each.0; high = lanes.are.each.1.0; order = lanes.order; some = most_lanes.0; few = most_lanes.1 };
      delays = record { low = gaps.are.each.0; order = gaps.order; high = gaps.are.each.1.0; few = most_gaps.1 };
    }

-- a time within small limits
any_length : (z : ℤ) (most : ℕ) → IsFrom (pos 0) (pos most) z → nat_abs z ≤ most
any_length (pos n) most h = let high = h.high in omega (arith, ints)
any_length (negsuc n) most h = let low = h.low in absurd (omega (arith, ints))

-- ---- bodies

within_at : (cs : List Cell) (k : ℕ) (c : Cell) → IsFirstOutside (flat_map cell_numbers cs) None → slice_get cs k ≡ Some c → IsCoordinate c.x × IsCoordinate c.y
within_at [] k c h e = absurd (cc e)
within_at (d ∷ cs) zero c h e =
    let same : d ≡ c = cc in
    let x = first_within (held limit.Coordinate d.x) (held limit.Coordinate d.y ∷ flat_map cell_numbers cs) h in
    let y = first_within (held limit.Coordinate d.y) (flat_map cell_numbers cs) x.1 in
    subst (λ (p : Cell). IsCoordinate p.x × IsCoordinate p.y) same (x.0, y.0)
within_at (d ∷ cs) (suc k) c h e =
    let x = first_within (held limit.Coordinate d.x) (held limit.Coordinate d.y ∷ flat_map cell_numbers cs) h in
    let y = first_within (held limit.Coordinate d.y) (flat_map cell_numbers cs) x.1 in
    within_at cs k c y.1 e

cells_placed : (s : Cells) → IsFirstOutside (flat_map cell_numbers (in_order s)) None → IsPlaced (alive s)
cells_placed s h = record {
  x = λ x y live. (at x y live).0;
  y = λ x y live. (at x y live).1;
}
  where
    at : (x y : ℤ) → alive s x y ≡ true → IsCoordinate x × IsCoordinate y
    at x y live =
        let place = place_of_listed (in_order s) x y (sym (alive-in_order_at s x y) ∙ live) in
        within_at (in_order s) place.0 (cell x y) h place.1

-- a body with few cells is drawn
pub record IsDrawn (word : List ℕ) (at : Cell) (body : Body) : Type 0 where
  pub lives : HasLife (alive (cells_of body))
  pub placed : IsPlaced (alive (cells_of body))
  pub drawn : Plane
  pub means : WordMeans word drawn
  pub moved : alive (cells_of body) ≡ shift at.x at.y drawn

body_drawn : (word : List ℕ) (at : Cell) (body : Body) → IsBodyAt Level.Whole word at body → IsFirstOutside (body_numbers body) None → body_count body ≤ MOST_CELLS → IsDrawn word at body
body_drawn word at (Drawn cells) h outside few =
    record { lives = h.1; placed = cells_placed cells outside; drawn = h.0.1.0; means = h.0.1.1.0; moved = h.0.1.1.1 }
body_drawn word at (TooMany count) h outside few = let many = h.0.fault.many in absurd (omega arith)

hand_proper : (word : List ℕ) (body : Body) → IsDrawn word (cell (pos 0) (pos 0)) body → IsProperHand (alive (cells_of body))
hand_proper word body d = record {
  lives = d.lives;
  placed = d.placed;
  x = λ x y live. record { low = (let made = d.means.cells.made (x -ℤ pos 0) (y -ℤ pos 0) (sym (ap (λ (p : Plane). p x y) d.moved) ∙ live) in let from = made.from in omega (arith, ints)); high = (d.placed.x x y live).high };
  y = λ x y live. record { low = (let made = d.means.cells.made (x -ℤ pos 0) (y -ℤ pos 0) (sym (ap (λ (p : Plane). p x y) d.moved) ∙ live) in let row = made.row in omega (arith, ints)); high = (d.placed.y x y live).high };
}

-- ---- the hand

pub hand_joined : (stated : Stated) (line : List ℕ) (s : Statement) → IfSome stated.hand (λ h. IsProperHand (alive h)) → States line s → IsOver stated s None → IfSome (joined stated s).hand (λ h. IsProperHand (alive h))
hand_joined stated line (Hand body) h says over =
    let is = says.items_are in
    let count = (few stated (Hand body) over).cells in
    hand_proper is.word body (body_drawn is.word (cell (pos 0) (pos 0)) body is.body_is (front_none (numbers (Hand body)) (counts stated (Hand body)) over) (omega arith))
hand_joined stated line other h says over = h

-- ---- kinds

kind_proper : (stated : Stated) (line : List ℕ) (elbow : ElbowLine) → States line (Elbow elbow) → IsOver stated (Elbow elbow) None → IsProperKind (kind_of elbow)
kind_proper stated line elbow says over =
    let is = says.items_are in
    let placed = is.placed_is in
    let count = (few stated (Elbow elbow) over).cells in
    let outside = behind_none (cell_numbers elbow.placed.at) (body_numbers elbow.placed.body) (front_none (numbers (Elbow elbow)) (counts stated (Elbow elbow)) over) in
    let drawn = body_drawn placed.word elbow.placed.at elbow.placed.body placed.body_is outside (omega arith) in
    record { name = is.name_is; lives = drawn.lives; placed = drawn.placed }

pub kinds_joined : (stated : Stated) (line : List ℕ) (s : Statement) → AllByRecursion IsProperKind stated.kinds → States line s → IsOver stated s None → AllByRecursion IsProperKind (joined stated s).kinds
kinds_joined stated line (Elbow elbow) h says over = all_push IsProperKind stated.kinds (kind_of elbow) h (kind_proper stated line elbow says over)
kinds_joined stated line other h says over = h

-- ---- names

none_insert : (names others : List (List ℕ)) (name other : List ℕ) → IsNoneOf (names ++ others) other → name ≢ other → IsNoneOf (names ++ (name ∷ others)) other
none_insert [] others name other h k = (k, h)
none_insert (n ∷ names) others name other h k = (h.0, none_insert names others name other h.1 k)

distinct_insert : (names others : List (List ℕ)) (name : List ℕ) → AreDistinct (names ++ others) → IsNoneOf (names ++ others) name → AreDistinct (names ++ (name ∷ others))
distinct_insert [] others name d n = (n, d)
distinct_insert (x ∷ names) others name d n = (none_insert names others name x d.0 (λ e. n.0 (sym e)), distinct_insert names others name d.1 n.1)

distinct_more : (names : List (List ℕ)) (name : List ℕ) → AreDistinct names → IsNoneOf names name → AreDistinct (names ++ name ∷ [])
distinct_more names name d n =
    distinct_insert names [] name (subst AreDistinct (sym (append-nil names)) d) (subst (λ (ns : List (List ℕ)). IsNoneOf ns name) (sym (append-nil names)) n)

pub kind_names_joined : (stated : Stated) (s : Statement) → AreDistinct (kind_names stated) → IsNew stated s → AreDistinct (kind_names (joined stated s))
kind_names_joined stated (Elbow elbow) h new =
    subst AreDistinct (sym (map-append (λ (kind : RawKind). kind.name) stated.kinds (kind_of elbow ∷ []))) (distinct_more (kind_names stated) elbow.name h new)
kind_names_joined stated other h new = h

pub entry_names_joined : (stated : Stated) (s : Statement) → AreDistinct (entry_names stated) → IsNew stated s → AreDistinct (entry_names (joined stated s))
entry_names_joined stated (Turn turn) h new =
    let ts = map (λ (t : RawTurn). t.name) stated.turns in
    let ss = map (λ (t : RawSalvo). t.name) stated.salvos in
    let same : entry_names (joined stated (Turn turn)) ≡ ts ++ (turn.name ∷ ss) =
    ap (λ (ns : List (List ℕ)). ns ++ ss) (map-append (λ (t : RawTurn). t.name) stated.turns (turn_of stated.kinds turn ∷ [])) ∙ append_assoc ts (turn.name ∷ []) ss in
    subst AreDistinct (sym same) (distinct_insert ts ss turn.name h new)
entry_names_joined stated (Salvo salvo) h new =
    let ts = map (λ (t : RawTurn). t.name) stated.turns in
    let ss = map (λ (t : RawSalvo). t.name) stated.salvos in
    let same : entry_names (joined stated (Salvo salvo)) ≡ (ts ++ ss) ++ (salvo.name ∷ []) =
    ap (λ (ns : List (List ℕ)). ts ++ ns) (map-append (λ (t : RawSalvo). t.name) stated.salvos (salvo_of salvo ∷ [])) ∙ sym (append_assoc ts ss (salvo.name ∷ [])) in
    subst AreDistinct (sym same) (distinct_more (ts ++ ss) salvo.name h new)
entry_names_joined stated other h new = h

-- ---- numbers of kinds

number_within : (n : ℕ) (kinds : List RawKind) (name : List ℕ) → IsSome (number_from n kinds name) → (n ≤ unwrap_or (number_from n kinds name) 0) × (unwrap_or (number_from n kinds name) 0 < n + length kinds)
number_within n [] name h = absurd (false≢true h)
number_within n (kind ∷ kinds) name h = by_name (bytes_eq name kind.name) refl (number_within (n + 1) kinds name)
  where
    by_name : (b : Bool) → bytes_eq name kind.name ≡ b
        → (IsSome (number_from (n + 1) kinds name) → (n + 1 ≤ unwrap_or (number_from (n + 1) kinds name) 0) × (unwrap_or (number_from (n + 1) kinds name) 0 < (n + 1) + length kinds))
        → (n ≤ unwrap_or (number_from n (kind ∷ kinds) name) 0) × (unwrap_or (number_from n (kind ∷ kinds) name) 0 < n + length (kind ∷ kinds))
    by_name true e rest = rw e (omega arith, omega arith)
    by_name false e rest =
        let more = rest (rw e at h) in
        let low = more.0 in
        let high = more.1 in
        rw e (omega arith, omega arith)

known_proper : (kinds : List RawKind) (name : List ℕ) → IsSome (number_of kinds name) → IsKindNumber (length kinds) (known_number kinds name)
known_proper kinds name h =
    let w = number_within 1 kinds name h in
    let low = w.0 in
    let high = w.1 in
    record { some = omega arith; most = omega arith }

number_more : (m n k : ℕ) → m ≤ n → IsKindNumber m k → IsKindNumber n k
number_more m n k l h = let some = h.some in let most = h.most in record { some = omega arith; most = omega arith }

one_kind_more : (kinds : List RawKind) (kind : RawKind) → length kinds ≤ length (kinds ++ kind ∷ [])
one_kind_more kinds kind = let e = length-append kinds (kind ∷ []) in omega arith

start_more : (o : Option ℕ) (m n : ℕ) → m ≤ n → IfSome o (λ k. IsKindNumber m k) → IfSome o (λ k. IsKindNumber n k)
start_more None m n l h = tt
start_more (Some k) m n l h = number_more m n k l h

pub start_joined : (stated : Stated) (s : Statement) → IfSome stated.start (λ k. IsKindNumber (length stated.kinds) k) → KnowsKinds stated s → IfSome (joined stated s).start (λ k. IsKindNumber (length (joined stated s).kinds) k)
start_joined stated (Start name) h known = known_proper stated.kinds name known.0
start_joined stated (Elbow elbow) h known = start_more stated.start _ _ (one_kind_more stated.kinds (kind_of elbow)) h
start_joined stated other h known = h

-- ---- turns

each_within : (l : Limit) (P : ℤ → Type 0) → ((z : ℤ) → IsWithin l z → P z) → (zs : List ℤ) → IsFirstOutside (map (held l) zs) None → AllByRecursion P zs
each_within l P f [] h = tt
each_within l P f (z ∷ zs) h = let w = first_within (held l z) (map (held l) zs) h in (f z w.0, each_within l P f zs w.1)

zip_length : {V : Type 0} (R : List ℕ → V → Type 0) (ts : List (List ℕ)) (vs : List V) → AllZip R ts vs → length ts ≡ length vs
zip_length R [] [] h = refl
zip_length R [] (v ∷ vs) h = absurd h
zip_length R (t ∷ ts) [] h = absurd h
zip_length R (t ∷ ts) (v ∷ vs) h = let e = zip_length R ts vs h.1 in omega arith

end_proper : (kinds : List RawKind) (end : NamedEnd) (n : ℤ) → AllByRecursion (λ name. IsSome (number_of kinds name)) (kinds_of_end end) → IsFirstOutside (end_numbers end n) None
    → IsProperEnd (length kinds) (end_of kinds end) × (nat_abs n ≤ LONGEST_TURN)
end_proper kinds Close n known h = (tt, any_length n LONGEST_TURN (first_within (held limit.Time n) [] h).0)
end_proper kinds (Move kind shift) n known h =
    let a = first_within (held limit.Coordinate shift) (held limit.Time n ∷ []) h in
    ((known_proper kinds kind known.0, a.0), any_length n LONGEST_TURN (first_within (held limit.Time n) [] a.1).0)
end_proper kinds (Emit kind shift lane j) n known h =
    let a = first_within (held limit.Coordinate shift) (held limit.Time n ∷ (held limit.Coordinate lane ∷ (held limit.Index j ∷ []))) h in
    let b = first_within (held limit.Time n) (held limit.Coordinate lane ∷ (held limit.Index j ∷ [])) a.1 in
    let c = first_within (held limit.Coordinate lane) (held limit.Index j ∷ []) b.1 in
    let d = first_within (held limit.Index j) [] c.1 in
    ((known_proper kinds kind known.0, (a.0, (c.0, d.0))), any_length n LONGEST_TURN b.0)

turn_proper : (stated : Stated) (line : List ℕ) (turn : TurnLine) → States line (Turn turn) → KnowsKinds stated (Turn turn) → IsOver stated (Turn turn) None → IsProperTurn (length stated.kinds) (turn_of stated.kinds turn)
turn_proper stated line turn says known over =
    let is = says.items_are in
    let f = front_none (numbers (Turn turn)) (counts stated (Turn turn)) over in
    let leaves = end_proper stated.kinds turn.end turn.n known.1 (front_none (end_numbers turn.end turn.n) (map (held limit.Delay) turn.delays) f) in
    let delays = behind_none (end_numbers turn.end turn.n) (map (held limit.Delay) turn.delays) f in
    let same = zip_length (IsNumberAt Level.Whole) is.delays turn.delays is.delays_are.each in
    let some = is.delays_are.some in
    record {
      name = is.name_is;
      kind = known_proper stated.kinds turn.kind known.0;
      leaves = leaves.0;
      short = leaves.1;
      some = omega arith;
      few = (few stated (Turn turn) over).delays;
      delays = each_within limit.Delay IsDelay (λ z w. w) turn.delays delays;
    }

end_more : (m n : ℕ) (e : TurnEnd) → m ≤ n → IsProperEnd m e → IsProperEnd n e
end_more m n ending.Close l h = tt
end_more m n (ending.Move kind shift) l h = (number_more m n kind l h.0, h.1)
end_more m n (ending.Emit kind shift lane j) l h = (number_more m n kind l h.0, h.1)

turns_more : (m n : ℕ) (turns : List RawTurn) → m ≤ n → AllByRecursion (IsProperTurn m) turns → AllByRecursion (IsProperTurn n) turns
turns_more m n [] l h = tt
turns_more m n (t ∷ turns) l h = (
  record {
    name = h.0.name;
    kind = number_more m n t.kind l h.0.kind;
    leaves = end_more m n t.end l h.0.leaves;
    short = h.0.short;
    some = h.0.some;
    few = h.0.few;
    delays = h.0.delays;
  },
  turns_more m n turns l h.1,
)

pub turns_joined : (stated : Stated) (line : List ℕ) (s : Statement) → AllByRecursion (IsProperTurn (length stated.kinds)) stated.turns → States line s → KnowsKinds stated s → IsOver stated s None
    → AllByRecursion (IsProperTurn (length (joined stated s).kinds)) (joined stated s).turns
turns_joined stated line (Turn turn) h says known over = all_push (IsProperTurn (length stated.kinds)) stated.turns (turn_of stated.kinds turn) h (turn_proper stated line turn says known over)
turns_joined stated line (Elbow elbow) h says known over = turns_more (length stated.kinds) _ stated.turns (one_kind_more stated.kinds (kind_of elbow)) h
turns_joined stated line other h says known over = h

-- ---- salvos

empty_placed : IsPlaced (alive empty)
empty_placed = record { x = λ x y live. absurd (dead x y live); y = λ x y live. absurd (dead x y live) }
  where
    dead : (x y : ℤ) → alive empty x y ≡ true → ⊥
    dead x y live = false≢true (sym (ap (λ (p : Plane). p x y) alive-empty) ∙ live)

body_placed : (body : Body) → IsFirstOutside (body_numbers body) None → IsPlaced (alive (cells_of body))
body_placed (Drawn cells) h = cells_placed cells h
body_placed (TooMany count) h = empty_placed

product_placed : (product : Option Placed) → IsFirstOutside (product_numbers product) None → IsPlaced (alive (product_of product))
product_placed None h = empty_placed
product_placed (Some placed) h = body_placed placed.body (behind_none (cell_numbers placed.at) (body_numbers placed.body) h)

place_proper : (place : Option Cell) → IsFirstOutside (place_numbers place) None → IsProperPlace place
place_proper None h = tt
place_proper (Some c) h =
    let x = first_within (held limit.Coordinate c.x) (held limit.Coordinate c.y ∷ []) h in
    (x.0, (first_within (held limit.Coordinate c.y) [] x.1).0)

salvo_proper : (stated : Stated) (line : List ℕ) (salvo : SalvoLine) → States line (Salvo salvo) → IsOver stated (Salvo salvo) None → IsProperSalvo (salvo_of salvo)
salvo_proper stated line salvo says over =
    let is = says.items_are in
    let f = front_none (numbers (Salvo salvo)) (counts stated (Salvo salvo)) over in
    let rest = behind_none (map (held limit.Coordinate) salvo.lanes) (product_numbers salvo.product ++ place_numbers salvo.hand) f in
    let same = zip_length (IsNumberAt Level.Whole) is.lanes salvo.lanes is.lanes_are.each in
    let some = is.lanes_are.some in
    record {
      name = is.name_is;
      some = omega arith;
      few = (few stated (Salvo salvo) over).lanes;
      lanes = each_within limit.Coordinate IsCoordinate (λ z w. w) salvo.lanes (front_none (map (held limit.Coordinate) salvo.lanes) (product_numbers salvo.product ++ place_numbers salvo.hand) f);
      product = product_placed salvo.product (front_none (product_numbers salvo.product) (place_numbers salvo.hand) rest);
      hand = place_proper salvo.hand (behind_none (product_numbers salvo.product) (place_numbers salvo.hand) rest);
    }

pub salvos_joined : (stated : Stated) (line : List ℕ) (s : Statement) → AllByRecursion IsProperSalvo stated.salvos → States line s → IsOver stated s None → AllByRecursion IsProperSalvo (joined stated s).salvos
salvos_joined stated line (Salvo salvo) h says over = all_push IsProperSalvo stated.salvos (salvo_of salvo) h (salvo_proper stated line salvo says over)
salvos_joined stated line other h says over = h

-- ---- cells

pub cells_joined : (stated : Stated) (s : Statement) → IsNew stated s → stated_cells (joined stated s) ≤ stated_cells stated + cell_count s
cells_joined stated (Hand body) new =
    let none : hand_count stated.hand ≡ 0 = ap hand_count new in
    let m = cells_counted body in
    omega arith
cells_joined stated (Elbow elbow) new =
    let more = sum_by_push (λ (k : RawKind). length (in_order k.cells)) stated.kinds (kind_of elbow) in
    let m = cells_counted elbow.placed.body in
    omega arith
cells_joined stated (Salvo salvo) new =
    let more = sum_by_push (λ (k : RawSalvo). length (in_order k.product)) stated.salvos (salvo_of salvo) in
    let m = product_counted salvo.product in
    omega arith
cells_joined stated other new = omega arith

-- ---- all together

pub record IsSound (stated : Stated) : Type 0 where
  pub settings : AreSettings stated
  pub hand : IfSome stated.hand (λ h. IsProperHand (alive h))
  pub kinds : AllByRecursion IsProperKind stated.kinds
  pub kind_names : AreDistinct (kind_names stated)
  pub start : IfSome stated.start (λ k. IsKindNumber (length stated.kinds) k)
  pub turns : AllByRecursion (IsProperTurn (length stated.kinds)) stated.turns
  pub salvos : AllByRecursion IsProperSalvo stated.salvos
  pub names : AreDistinct (entry_names stated)
  pub few_kinds : length stated.kinds ≤ MOST_KINDS
  pub few_turns : length stated.turns ≤ MOST_TURNS
  pub few_salvos : length stated.salvos ≤ MOST_SALVOS
  pub few_cells : stated_cells stated ≤ MOST_CELLS

nothing_sound : IsSound nothing_stated
nothing_sound = record {
  settings = no_settings;
  hand = tt;
  kinds = tt;
  kind_names = tt;
  start = tt;
  turns = tt;
  salvos = tt;
  names = tt;
  few_kinds = omega arith;
  few_turns = omega arith;
  few_salvos = omega arith;
  few_cells = omega arith;
}

sound_joined : (stated : Stated) (line : List ℕ) (s : Statement) → IsSound stated → IsFine stated line s → IsSound (joined stated s)
sound_joined stated line s h fine =
    let counted = few stated s fine.within in
    let cells = counted.cells in
    let more = cells_joined stated s fine.new in
    record {
      settings = settings_joined stated line s h.settings fine.states fine.within;
      hand = hand_joined stated line s h.hand fine.states fine.within;
      kinds = kinds_joined stated line s h.kinds fine.states fine.within;
      kind_names = kind_names_joined stated s h.kind_names fine.new;
      start = start_joined stated s h.start fine.known;
      turns = turns_joined stated line s h.turns fine.states fine.known fine.within;
      salvos = salvos_joined stated line s h.salvos fine.states fine.within;
      names = entry_names_joined stated s h.names fine.new;
      few_kinds = counted.kinds;
      few_turns = counted.turns;
      few_salvos = counted.salvos;
      few_cells = omega arith;
    }

sound_fine : (stated : Stated) (ls : List (List ℕ)) (after : Stated) → IsSound stated → AreFine stated ls after → IsSound after
sound_fine stated [] after h e = subst IsSound (sym e) h
sound_fine stated (line ∷ ls) after h (inl f) = sound_fine stated ls after h f.1
sound_fine stated (line ∷ ls) after h (inr f) = sound_fine (joined stated f.1.0) ls after (sound_joined stated line f.1.0 h f.1.1.0) f.1.1.1

some_kinds : (kinds : List RawKind) → kinds ≢ [] → 0 < length kinds
some_kinds [] h = absurd (h refl)
some_kinds (k ∷ kinds) h = omega arith

-- what a text says is proper, where the reach is far enough
pub text_proper : (text : List ℕ) (said : Said) → Says text said → (said.settings.wall +ℤ WALL_MARGIN) ≤ℤ said.settings.reach → IsProperBook said
text_proper text said says far =
    let sound = sound_fine nothing_stated says.read.body (whole said) nothing_sound says.read.fine in
    record {
      settings = proper_settings said.settings sound.settings far;
      hand = sound.hand;
      some_kind = some_kinds said.kinds says.some_kind;
      few_kinds = sound.few_kinds;
      kinds = sound.kinds;
      kind_names = sound.kind_names;
      start = sound.start;
      few_turns = sound.few_turns;
      turns = sound.turns;
      few_salvos = sound.few_salvos;
      salvos = sound.salvos;
      names = sound.names;
      few_cells = sound.few_cells;
    }
