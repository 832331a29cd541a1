-- Written lines are fine, one after the other, and the whole text says the book.
use Rattle.std.proofs.Common.{◌≡◌, ◌≢◌, ℕ, suc, ◌+◌, ◌<◌, ◌≤◌, ◌^◌, ℤ, pos, neg_ℤ, ◌≤ℤ◌, List, [], ◌∷◌, ◌++◌, length, map, refl, sym, ap, ◌∙◌, subst, inl, inr, arith, codes, Some, None, Option, sum_by, IsSome, lit<, zero-add}
use Rattle.std.specs.List.{AllByRecursion, AllZip}
use Rattle.std.specs.Str.Lines.{lines}
use Rattle.std.proofs.lemmas.Int.{ints}
use Rattle.std.proofs.lemmas.List.{append_assoc, append-nil, length-append, map-append}
use Rattle.std.proofs.lemmas.List.Sums.{sum_by-append, sum_by-cons}
use Rattle.life_cells.specs.declared.cell.Cell.{Cell}
use Rattle.life_cells.specs.Cells.{in_order}
use Rattle.book_parts.specs.Limits.{IsFrom, AreProper}
use Rattle.book_parts.specs.Proper.{IsNoneOf, AreDistinct, IsProperEnd, IsProperTurn, IsProperKind, IsProperSalvo, IsProperPlace, IsProperBook}
use Rattle.book_parts.specs.declared.settings.Settings.{Settings}
use Rattle.book_parts.specs.declared.kind.RawKind.{RawKind}
use Rattle.book_parts.specs.declared.turn.RawTurn.{RawTurn}
use Rattle.book_parts.specs.declared.turn.TurnEnd.{TurnEnd}
use Rattle.book_parts.specs.declared.turn.TurnEnd.TheVariants as ending
use Rattle.book_parts.specs.declared.salvo.RawSalvo.{RawSalvo}
use Rattle.book_parts.specs.Said.{Said}
use Rattle.book_lines.specs.declared.statement.Body.TheVariants.{Drawn}
use Rattle.book_lines.specs.declared.statement.Statement.{Statement}
use Rattle.book_lines.specs.declared.statement.Statement.TheVariants.{Setting, Hand, Elbow, Start, Turn, Salvo}
use Rattle.book_lines.specs.Counts.{delay_count, lane_count, cell_count}
use Rattle.book_lines.specs.declared.limit.Limit.TheVariants as limit
use Rattle.book_lines.specs.declared.book_word.BookWord.{BookWord}
use Rattle.book_lines.specs.declared.book_word.BookWord.TheVariants as word
use Rattle.book_lines.specs.contracts.book_word.BookWord.{the_type}
use Rattle.book_lines.specs.Limits.{limits}
use Rattle.book_lines.specs.WordLaws.{each_word}
use Rattle.book_parts.specs.declared.settings.Range.{Range}
use Rattle.std.specs.Map.{update}
use denote.Enum.Bare.{sameb}
use Rattle.book_read.specs.Stated.{Stated, nothing_stated, coordinates, range_numbers, setting_numbers, joined, end_of, turn_of, salvo_of}
use Rattle.book_read.specs.Limited.{held, setting_limited, end_numbers, place_numbers, product_numbers, AreFew, IsOver, stated_cells}
use Rattle.book_read.specs.Names.{number_of}
use Rattle.book_read.specs.Joining.{IsNew, KnowsKinds, kinds_of_end}
use Rattle.book_read.specs.Reading.{AreFine}
use Rattle.book_read.specs.Book.{Says}
use Rattle.book_write.specs.Laid.{line_of}
use Rattle.book_write.specs.Parts.{version_words, setting_line, settings_words, IsHandLine, IsKindLine, kind_name, start_words, turn_words, IsSalvoLine}
use Rattle.book_write.specs.Canonical.{IsBookText}
use Rattle.book_write.proofs.Visible.{IsWord}
use Rattle.book_write.proofs.Splitting.{words_are, lines_are}
use Rattle.book_write.proofs.Numerals.{IsShort, short_from}
use Rattle.book_write.proofs.Within.{IsHeld, not_over, each_held, body_held}
use Rattle.book_write.proofs.Stating.{IsLineFor, AreWritable, setting_line_for, range_order, short_coordinate, hand_line, elbow_of, kind_line, start_line, named_end_of, turn_told, HasNext, turn_line, salvo_told, salvo_line}
use Rattle.book_write.proofs.Distinct.{none_before, kind_known, name_of_kind}
use Rattle.life_plane.specs.ListLaws.{all_append}
use Rattle.book_parts.specs.declared.limits.TheConstants.{MOST_CELLS, MOST_LANES, MOST_GAPS, LONGEST_TURN, LEAST_APPROACH, GREATEST_APPROACH, GREATEST_WALL, GREATEST_REACH, GREATEST_ROOM, GREATEST_SPAN}

-- ---- lines behind what is stated

-- these lines, each given by its words, are fine behind what is stated, and this is stated with them
pub record AreFineFor (a : Stated) (ls : List (List (List ℕ))) (b : Stated) : Type 0 where
  pub each : AllByRecursion (AllByRecursion IsWord) ls
  pub fine : AreFine a (map line_of ls) b

no_lines : (a b : Stated) → b ≡ a → AreFineFor a [] b
no_lines a b e = record { each = tt; fine = e }

line_first : (a b : Stated) (words : List (List ℕ)) (s : Statement) (ls : List (List (List ℕ))) → IsLineFor words s → IsNew a s → KnowsKinds a s → IsOver a s None → AreFineFor (joined a s) ls b → AreFineFor a (words ∷ ls) b
line_first a b words s ls l new known within rest = record {
  each = (l.each, rest.each);
  fine = inr (l.read, (s, (record { states = l.states; new = new; known = known; within = within }, rest.fine)));
}

fine_both : (a b c : Stated) (ls ms : List (List ℕ)) → AreFine a ls b → AreFine b ms c → AreFine a (ls ++ ms) c
fine_both a b c [] ms h k = subst (λ (t : Stated). AreFine t ms c) h k
fine_both a b c (l ∷ ls) ms (inl h) k = inl (h.0, fine_both a b c ls ms h.1 k)
fine_both a b c (l ∷ ls) ms (inr h) k = inr (h.0, (h.1.0, (h.1.1.0, fine_both (joined a h.1.0) b c ls ms h.1.1.1 k)))

lines_both : (a b c : Stated) (ls ms : List (List (List ℕ))) → AreFineFor a ls b → AreFineFor b ms c → AreFineFor a (ls ++ ms) c
lines_both a b c ls ms h k = record {
  each = all_append (AllByRecursion IsWord) ls ms h.each k.each;
  fine = subst (λ (ts : List (List ℕ)). AreFine a ts c) (sym (map-append line_of ls ms)) (fine_both a b c (map line_of ls) (map line_of ms) h.fine k.fine);
}

-- ---- settings

-- what is stated with the settings, the hand, and these
abbrev told : Said → List RawKind → Option ℕ → List RawTurn → List RawSalvo → Stated
told book kinds start turns salvos = record {
  settings = setting_numbers book.settings;
  hand = Some book.hand;
  kinds = kinds;
  start = start;
  turns = turns;
  salvos = salvos;
}

near_number : (least greatest z : ℤ) → IsFrom least greatest z → neg_ℤ (pos (2 ^ 40)) ≤ℤ least → greatest ≤ℤ pos (2 ^ 40) → IsShort z
near_number least greatest z h a b = let low = h.low in let high = h.high in short_from z (omega (arith, ints)) (omega (arith, ints))

reach_held : (s : Settings) → AreProper s → IsFrom (pos 1) GREATEST_REACH s.reach
reach_held s p = let low = p.reach.low in let high = p.reach.high in let wall = p.wall.low in record { low = omega (arith, ints); high = high }

delays_short : (s : Settings) → AreProper s → IsShort s.delays.low × IsShort s.delays.high
delays_short s p =
    let low = p.delays.low in let order = p.delays.order in let high = p.delays.high in
    (short_from s.delays.low (omega (arith, ints)) (omega (arith, ints)), short_from s.delays.high (omega (arith, ints)) (omega (arith, ints)))

-- the lengths of the lists of a range
len_held : (least most n : ℕ) → least ≤ n → n ≤ most → IsFrom (pos least) (pos most) (pos n)
len_held least most n a b = record { low = omega (arith, ints); high = omega (arith, ints) }

-- where nothing is counted, nothing is over
zero_few : (a : Stated) (s : Statement) → length (joined a s).kinds ≡ 0 → length (joined a s).turns ≡ 0 → length (joined a s).salvos ≡ 0 → delay_count s ≡ 0 → lane_count s ≡ 0 → stated_cells a + cell_count s ≡ 0 → AreFew a s
zero_few a s k t v d l c = record { kinds = omega arith; turns = omega arith; salvos = omega arith; delays = omega arith; lanes = omega arith; cells = omega arith }

-- and where but these cells are counted
one_few : (a : Stated) (s : Statement) (n : ℕ) → length (joined a s).kinds ≡ 0 → length (joined a s).turns ≡ 0 → length (joined a s).salvos ≡ 0 → delay_count s ≡ 0 → lane_count s ≡ 0 → stated_cells a + cell_count s ≡ n → n ≤ MOST_CELLS → AreFew a s
one_few a s n k t v d l c h = record { kinds = omega arith; turns = omega arith; salvos = omega arith; delays = omega arith; lanes = omega arith; cells = omega arith }

hand_few : (book : Said) → IsProperBook book → length (in_order book.hand) ≤ MOST_CELLS
hand_few book p = let few = p.few_cells in omega arith

-- settings alone are stated
abbrev only : (BookWord → Option (List ℤ)) → Stated
only settings = record { settings = settings; hand = None; kinds = []; start = None; turns = []; salvos = [] }

-- one more
abbrev with_one : (BookWord → Option (List ℤ)) → BookWord → List ℤ → BookWord → Option (List ℤ)
with_one settings w zs = update (sameb the_type) settings w (Some zs)

setting_first : (f : BookWord → Option (List ℤ)) (b : Stated) (w : BookWord) (zs : List ℤ) (ls : List (List (List ℕ))) → f w ≡ None → AreWritable w zs → AllByRecursion IsHeld (setting_limited (record { word = w; numbers = zs }))
    → AreFineFor (only (with_one f w zs)) ls b → AreFineFor (only f) (setting_line w zs ∷ ls) b
setting_first f b w zs ls new h held rest =
    let s : Statement = Setting (record { word = w; numbers = zs }) in
    line_first (only f) b (setting_line w zs) s ls (setting_line_for w zs h) new tt (not_over (only f) s held (zero_few (only f) s refl refl refl refl refl refl)) rest

-- a setting of one number
one_writable : (w : BookWord) (z : ℤ) → length (limits w) ≡ 1 → IsShort z → AreWritable w (z ∷ [])
one_writable w z count short = record { short = (short, tt); some = omega arith; count = omega arith; order = tt }

-- a setting of a range
range_writable : (w : BookWord) (range : Range) → length (limits w) ≡ 3 → IsShort range.low → IsShort range.high → range.low ≤ℤ range.high → range.len ≤ MOST_LANES → AreWritable w (range_numbers range)
range_writable w range count low high order few = record { short = (low, (high, (omega arith, tt))); some = omega arith; count = omega arith; order = range_order range low high order }

settings_fine : (book : Said) (hand : List (List ℕ)) → IsProperBook book → IsHandLine book.hand hand → AreFineFor nothing_stated (settings_words book.settings ++ (hand ∷ [])) (told book [] None [] [])
settings_fine book hand p h =
    let s : Settings = book.settings in
    let q = p.settings in
    let cells = hand_few book p in
    let f0 : BookWord → Option (List ℤ) = λ w. None in
    let f1 : BookWord → Option (List ℤ) = with_one f0 word.Approach (s.approach ∷ []) in
    let f2 : BookWord → Option (List ℤ) = with_one f1 word.Wall (s.wall ∷ []) in
    let f3 : BookWord → Option (List ℤ) = with_one f2 word.Reach (s.reach ∷ []) in
    let f4 : BookWord → Option (List ℤ) = with_one f3 word.Corner (coordinates s.corner) in
    let f5 : BookWord → Option (List ℤ) = with_one f4 word.Room (s.room ∷ []) in
    let f6 : BookWord → Option (List ℤ) = with_one f5 word.Span (s.span ∷ []) in
    let f7 : BookWord → Option (List ℤ) = with_one f6 word.Lanes (range_numbers s.lanes) in
    let f8 : BookWord → Option (List ℤ) = with_one f7 word.Delays (range_numbers s.delays) in
    let all : setting_numbers s ≡ f8 = λ i. λ w. each_word (λ (w : BookWord). setting_numbers s w ≡ f8 w) (refl, (refl, (refl, (refl, (refl, (refl, (refl, (refl, (refl, (refl, (refl, tt))))))))))) w i in
    let x = short_coordinate s.corner.x q.corner_x in
    let y = short_coordinate s.corner.y q.corner_y in
    let low = short_coordinate s.lanes.low q.lanes.low in
    let high = short_coordinate s.lanes.high q.lanes.high in
    let gaps = delays_short s q in
    setting_first f0 _ word.Approach _ _ refl (one_writable word.Approach s.approach refl (near_number LEAST_APPROACH GREATEST_APPROACH s.approach q.approach.range (omega (arith, ints)) (omega (arith, ints)))) (q.approach, tt)
    (setting_first f1 _ word.Wall _ _ refl (one_writable word.Wall s.wall refl (near_number (pos 1) GREATEST_WALL s.wall q.wall (omega (arith, ints)) (omega (arith, ints)))) (q.wall, tt)
    (setting_first f2 _ word.Reach _ _ refl (one_writable word.Reach s.reach refl (near_number (pos 1) GREATEST_REACH s.reach (reach_held s q) (omega (arith, ints)) (omega (arith, ints)))) (reach_held s q, tt)
    (setting_first f3 _ word.Corner _ _ refl (record { short = (x, (y, tt)); some = lit< tt; count = refl; order = tt }) (q.corner_x, (q.corner_y, tt))
    (setting_first f4 _ word.Room _ _ refl (one_writable word.Room s.room refl (near_number (pos 0) GREATEST_ROOM s.room q.room (omega (arith, ints)) (omega (arith, ints)))) (q.room, tt)
    (setting_first f5 _ word.Span _ _ refl (one_writable word.Span s.span refl (near_number (pos 0) GREATEST_SPAN s.span q.span (omega (arith, ints)) (omega (arith, ints)))) (q.span, tt)
    (setting_first f6 _ word.Lanes _ _ refl (range_writable word.Lanes s.lanes refl low high q.lanes.order q.lanes.few) (q.lanes.low, (q.lanes.high, (len_held 1 MOST_LANES s.lanes.len q.lanes.some q.lanes.few, tt)))
    (setting_first f7 _ word.Delays _ _ refl (range_writable word.Delays s.delays refl gaps.0 gaps.1 q.delays.order (let few = q.delays.few in omega arith)) (q.delays.low, (q.delays.high, (len_held 0 MOST_GAPS s.delays.len (omega arith) q.delays.few, tt)))
    (line_first (only f8) _ _ (Hand (Drawn book.hand)) _ (hand_line book.hand hand h p.hand cells) refl tt (not_over (only f8) (Hand (Drawn book.hand)) (body_held book.hand p.hand.placed) (one_few (only f8) (Hand (Drawn book.hand)) (length (in_order book.hand)) refl refl refl refl refl (zero-add (length (in_order book.hand))) cells))
    (no_lines _ _ (λ i. record { settings = all i; hand = Some book.hand; kinds = []; start = None; turns = []; salvos = [] }))))))))))

-- ---- kinds

kinds_fine : (book : Said) → IsProperBook book → (front back : List RawKind) (ls : List (List (List ℕ))) → book.kinds ≡ front ++ back → AllByRecursion IsProperKind back → AllZip IsKindLine back ls
    → AreFineFor (told book front None [] []) ls (told book book.kinds None [] [])
kinds_fine book p front [] [] e h z = no_lines _ _ (ap (λ (ks : List RawKind). told book ks None [] []) (e ∙ append-nil front))
kinds_fine book p front [] (words ∷ ls) e h z = absurd z
kinds_fine book p front (kind ∷ back) [] e h z = absurd z
kinds_fine book p front (kind ∷ back) (words ∷ ls) e h z =
    let many : List RawKind → ℕ = sum_by (λ (k : RawKind). length (in_order k.cells)) in
    let total = p.few_cells in
    let parts : many book.kinds ≡ many front + (length (in_order kind.cells) + many back) = ap many e ∙ sum_by-append (λ (k : RawKind). length (in_order k.cells)) front (kind ∷ back) ∙ ap (λ (n : ℕ). many front + n) (sum_by-cons (λ (k : RawKind). length (in_order k.cells)) kind back) in
    let few_kinds = p.few_kinds in
    let size : length book.kinds ≡ length front + suc (length back) = ap length e ∙ length-append front (kind ∷ back) in
    let size_on : length (front ++ (kind ∷ [])) ≡ length front + 1 = length-append front (kind ∷ []) in
    let r = kind_line kind words z.0 h.0 (omega arith) in
    let names = ap (map (λ (k : RawKind). k.name)) e ∙ map-append (λ (k : RawKind). k.name) front (kind ∷ back) in
    line_first (told book front None [] []) _ words (Elbow (elbow_of kind r.box)) ls r.line
    (none_before (map (λ (k : RawKind). k.name) front) kind.name (map (λ (k : RawKind). k.name) back) (subst AreDistinct names p.kind_names)) tt
    (not_over (told book front None [] []) (Elbow (elbow_of kind r.box)) r.held_all (record { kinds = omega arith; turns = omega arith; salvos = omega arith; delays = omega arith; lanes = omega arith; cells = omega arith }))
    (kinds_fine book p (front ++ (kind ∷ [])) back ls (e ∙ sym (append_assoc front (kind ∷ []) back)) h.1 z.1)

-- ---- the start

start_fine : (book : Said) → IsProperBook book → AreFineFor (told book book.kinds None [] []) (start_words book.kinds book.start ∷ []) (told book book.kinds (Some book.start) [] [])
start_fine book p =
    let kinds : List RawKind = book.kinds in
    let name = kind_name kinds book.start in
    let known = kind_known kinds book.start p.start p.kind_names in
    let total = p.few_cells in
    let few_kinds = p.few_kinds in
    line_first (told book kinds None [] []) _ (start_words kinds book.start) (Start name) [] (start_line name (name_of_kind kinds book.start p.start p.kinds)) refl (known.known, tt)
    (not_over (told book kinds None [] []) (Start name) tt (record { kinds = few_kinds; turns = omega arith; salvos = omega arith; delays = omega arith; lanes = omega arith; cells = omega arith }))
    (no_lines _ _ (ap (λ (k : ℕ). told book kinds (Some k) [] []) (sym known.number)))

-- ---- turns

next_named : (kinds : List RawKind) (end : TurnEnd) → IsProperEnd (length kinds) end → AllByRecursion IsProperKind kinds → HasNext kinds end
next_named kinds ending.Close p each = tt
next_named kinds (ending.Move kind shift) p each = name_of_kind kinds kind p.0 each
next_named kinds (ending.Emit kind shift lane j) p each = name_of_kind kinds kind p.0 each

next_known : (kinds : List RawKind) (end : TurnEnd) → IsProperEnd (length kinds) end → AreDistinct (map (λ (k : RawKind). k.name) kinds) → AllByRecursion (λ name. IsSome (number_of kinds name)) (kinds_of_end (named_end_of kinds end))
next_known kinds ending.Close p d = tt
next_known kinds (ending.Move kind shift) p d = ((kind_known kinds kind p.0 d).known, tt)
next_known kinds (ending.Emit kind shift lane j) p d = ((kind_known kinds kind p.0 d).known, tt)

end_back : (kinds : List RawKind) (end : TurnEnd) → IsProperEnd (length kinds) end → AreDistinct (map (λ (k : RawKind). k.name) kinds) → end_of kinds (named_end_of kinds end) ≡ end
end_back kinds ending.Close p d = refl
end_back kinds (ending.Move kind shift) p d = ap (λ (k : ℕ). ending.Move k shift) (kind_known kinds kind p.0 d).number
end_back kinds (ending.Emit kind shift lane j) p d = ap (λ (k : ℕ). ending.Emit k shift lane j) (kind_known kinds kind p.0 d).number

turn_back : (kinds : List RawKind) (turn : RawTurn) → IsProperTurn (length kinds) turn → AreDistinct (map (λ (k : RawKind). k.name) kinds) → turn_of kinds (turn_told kinds turn) ≡ turn
turn_back kinds turn p d =
    let kind = (kind_known kinds turn.kind p.kind d).number in
    let end = end_back kinds turn.end p.leaves d in
    λ i. record { name = turn.name; kind = kind i; end = end i; n = turn.n; delays = turn.delays }

ending_held : (kinds : List RawKind) (end : TurnEnd) (n : ℕ) → IsProperEnd (length kinds) end → n ≤ LONGEST_TURN → AllByRecursion IsHeld (end_numbers (named_end_of kinds end) (pos n))
ending_held kinds ending.Close n p h = (len_held 0 LONGEST_TURN n (omega arith) h, tt)
ending_held kinds (ending.Move kind shift) n p h = (p.1, (len_held 0 LONGEST_TURN n (omega arith) h, tt))
ending_held kinds (ending.Emit kind shift lane j) n p h = (p.1.0, (len_held 0 LONGEST_TURN n (omega arith) h, (p.1.1.0, (p.1.1.1, tt))))

turns_fine : (book : Said) → IsProperBook book → (front back : List RawTurn) → book.turns ≡ front ++ back → AllByRecursion (IsProperTurn (length book.kinds)) back
    → AreFineFor (told book book.kinds (Some book.start) front []) (map (turn_words book.kinds) back) (told book book.kinds (Some book.start) book.turns [])
turns_fine book p front [] e h = no_lines _ _ (ap (λ (ts : List RawTurn). told book book.kinds (Some book.start) ts []) (e ∙ append-nil front))
turns_fine book p front (turn ∷ back) e h =
    let kinds : List RawKind = book.kinds in
    let a = told book kinds (Some book.start) front [] in
    let s = Turn (turn_told kinds turn) in
    let total = p.few_cells in
    let few_kinds = p.few_kinds in
    let few_turns = p.few_turns in
    let few_delays = h.0.few in
    let size : length book.turns ≡ length front + suc (length back) = ap length e ∙ length-append front (turn ∷ back) in
    let size_on : length (front ++ (turn_of kinds (turn_told kinds turn) ∷ [])) ≡ length front + 1 = length-append front (turn_of kinds (turn_told kinds turn) ∷ []) in
    let name = λ (t : RawTurn). t.name in
    let names = ap (λ (ns : List (List ℕ)). ns ++ map (λ (salvo : RawSalvo). salvo.name) book.salvos) (ap (map name) e ∙ map-append name front (turn ∷ back)) ∙ append_assoc (map name front) (turn.name ∷ map name back) (map (λ (salvo : RawSalvo). salvo.name) book.salvos) in
    let new = none_before (map name front) turn.name (map name back ++ map (λ (salvo : RawSalvo). salvo.name) book.salvos) (subst AreDistinct names p.names) in
    line_first a _ (turn_words kinds turn) s (map (turn_words kinds) back) (turn_line kinds turn h.0 (name_of_kind kinds turn.kind h.0.kind p.kinds) (next_named kinds turn.end h.0.leaves p.kinds))
    (subst (λ (ns : List (List ℕ)). IsNoneOf ns turn.name) (sym (append-nil (map name front))) new)
    ((kind_known kinds turn.kind h.0.kind p.kind_names).known, next_known kinds turn.end h.0.leaves p.kind_names)
    (not_over a s (all_append IsHeld (end_numbers (named_end_of kinds turn.end) (pos turn.n)) (map (held limit.Delay) turn.delays) (ending_held kinds turn.end turn.n h.0.leaves h.0.short) (each_held limit.Delay turn.delays h.0.delays))
    (record { kinds = few_kinds; turns = omega arith; salvos = omega arith; delays = few_delays; lanes = omega arith; cells = omega arith }))
    (subst (λ (t : RawTurn). AreFineFor (told book kinds (Some book.start) (front ++ (t ∷ [])) []) (map (turn_words kinds) back) (told book kinds (Some book.start) book.turns [])) (sym (turn_back kinds turn h.0 p.kind_names))
    (turns_fine book p (front ++ (turn ∷ [])) back (e ∙ sym (append_assoc front (turn ∷ []) back)) h.1))

-- ---- salvos

hand_held : (hand : Option Cell) → IsProperPlace hand → AllByRecursion IsHeld (place_numbers hand)
hand_held None h = tt
hand_held (Some place) h = (h.0, (h.1, tt))

salvos_fine : (book : Said) → IsProperBook book → (front back : List RawSalvo) (ls : List (List (List ℕ))) → book.salvos ≡ front ++ back → AllByRecursion IsProperSalvo back → AllZip IsSalvoLine back ls
    → AreFineFor (told book book.kinds (Some book.start) book.turns front) ls (told book book.kinds (Some book.start) book.turns book.salvos)
salvos_fine book p front [] [] e h z = no_lines _ _ (ap (λ (ss : List RawSalvo). told book book.kinds (Some book.start) book.turns ss) (e ∙ append-nil front))
salvos_fine book p front [] (words ∷ ls) e h z = absurd z
salvos_fine book p front (salvo ∷ back) [] e h z = absurd z
salvos_fine book p front (salvo ∷ back) (words ∷ ls) e h z =
    let many : List RawSalvo → ℕ = sum_by (λ (v : RawSalvo). length (in_order v.product)) in
    let a = told book book.kinds (Some book.start) book.turns front in
    let total = p.few_cells in
    let parts : many book.salvos ≡ many front + (length (in_order salvo.product) + many back) = ap many e ∙ sum_by-append (λ (v : RawSalvo). length (in_order v.product)) front (salvo ∷ back) ∙ ap (λ (n : ℕ). many front + n) (sum_by-cons (λ (v : RawSalvo). length (in_order v.product)) salvo back) in
    let few_kinds = p.few_kinds in
    let few_turns = p.few_turns in
    let few_salvos = p.few_salvos in
    let few_lanes = h.0.few in
    let size : length book.salvos ≡ length front + suc (length back) = ap length e ∙ length-append front (salvo ∷ back) in
    let r = salvo_line salvo words z.0 h.0 (omega arith) in
    let s = Salvo (salvo_told salvo r.product) in
    let count = r.count in
    let size_on : length (front ++ (salvo_of (salvo_told salvo r.product) ∷ [])) ≡ length front + 1 = length-append front (salvo_of (salvo_told salvo r.product) ∷ []) in
    let same : salvo_of (salvo_told salvo r.product) ≡ salvo = (λ i. record { name = salvo.name; lanes = salvo.lanes; product = r.same i; hand = salvo.hand }) in
    let name = λ (v : RawSalvo). v.name in
    let turn_names = map (λ (t : RawTurn). t.name) book.turns in
    let names = ap (λ (ns : List (List ℕ)). turn_names ++ ns) (ap (map name) e ∙ map-append name front (salvo ∷ back)) ∙ sym (append_assoc turn_names (map name front) (salvo.name ∷ map name back)) in
    line_first a _ words s ls r.line (none_before (turn_names ++ map name front) salvo.name (map name back) (subst AreDistinct names p.names)) tt
    (not_over a s (all_append IsHeld (map (held limit.Coordinate) salvo.lanes) (product_numbers r.product ++ place_numbers salvo.hand) (each_held limit.Coordinate salvo.lanes h.0.lanes) (all_append IsHeld (product_numbers r.product) (place_numbers salvo.hand) r.held_all (hand_held salvo.hand h.0.hand)))
    (record { kinds = few_kinds; turns = few_turns; salvos = omega arith; delays = omega arith; lanes = few_lanes; cells = omega arith }))
    (subst (λ (v : RawSalvo). AreFineFor (told book book.kinds (Some book.start) book.turns (front ++ (v ∷ []))) ls (told book book.kinds (Some book.start) book.turns book.salvos)) (sym same)
    (salvos_fine book p (front ++ (salvo ∷ [])) back ls (e ∙ sym (append_assoc front (salvo ∷ []) back)) h.1 z.1))

-- ---- the whole text

version_each : AllByRecursion IsWord version_words
version_each = (record { some = lit< tt; bytes = refl }, (record { some = lit< tt; bytes = refl }, tt))

some_kinds : (kinds : List RawKind) → 0 < length kinds → kinds ≢ []
some_kinds kinds some e = absurd (omega (arith, ap length e))

-- a book's canonical text says the book
pub book_reads_back : (book : Said) (text : List ℕ) → IsProperBook book → IsBookText book text → Says text book
book_reads_back book text p t =
    let kinds : List RawKind = book.kinds in
    let start = start_words kinds book.start in
    let turns = map (turn_words kinds) book.turns in
    let end = told book kinds (Some book.start) book.turns book.salvos in
    let entries = lines_both _ _ end turns t.salvos (turns_fine book p [] book.turns refl p.turns) (salvos_fine book p [] book.salvos t.salvos refl p.salvos t.salvos_are) in
    let started = lines_both _ _ end (start ∷ []) (turns ++ t.salvos) (start_fine book p) entries in
    let from_kinds = lines_both _ _ end t.kinds (start ∷ (turns ++ t.salvos)) (kinds_fine book p [] kinds t.kinds refl p.kinds t.kinds_are) started in
    let behind = t.kinds ++ (start ∷ (turns ++ t.salvos)) in
    let all = lines_both _ _ end (settings_words book.settings ++ (t.hand ∷ [])) behind (settings_fine book t.hand p t.hand_is) from_kinds in
    let body = settings_words book.settings ++ (t.hand ∷ behind) in
    let fine = subst (λ (ls : List (List (List ℕ))). AreFineFor nothing_stated ls end) (append_assoc (settings_words book.settings) (t.hand ∷ []) behind) all in
    let lines_of_text : lines text ≡ line_of version_words ∷ map line_of body = ap lines t.whole ∙ lines_are (version_words ∷ body) (version_each, fine.each) in
    let version = words_are (codes "scbook") (codes "1" ∷ []) version_each.0 version_each.1 in
    record {
      read = record {
        number = 1;
        body = map line_of body;
        begun = record { head = []; version = line_of version_words; lines_are = lines_of_text; head_is = tt; version_is = version; number_is = refl };
        fine = fine.fine;
      };
      some_kind = some_kinds kinds p.some_kind;
    }
