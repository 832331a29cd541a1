-- Each written line states its part.
use Rattle.std.proofs.Common.{◌≡◌, ℕ, ◌<◌, ◌≤◌, ◌^◌, nat_lt, true, ℤ, pos, neg_ℤ, ◌≤ℤ◌, ◌-ℤ◌, List, [], ◌∷◌, ◌++◌, length, map, refl, sym, ap, ◌∙◌, subst, inl, inr, arith, lit<, lit≤, codes, Some, None, Option}
use Rattle.std.specs.List.{AllByRecursion, list_all}
use Rattle.std.specs.Fmt.{decimal, signed_decimal}
use Rattle.std.proofs.lemmas.Int.{ints}
use Rattle.std.proofs.lemmas.Bool.Decides.{nat_tests}
use Rattle.std.proofs.lemmas.List.{length-map}
use Rattle.life_plane.specs.Plane.{Plane, shift, same_plane}
use Rattle.life_cells.specs.declared.cell.Cell.{Cell}
use Rattle.life_cells.specs.declared.bounds.Bounds.{Bounds}
use Rattle.life_cells.specs.Cells.{Cells, cell, alive, in_order, empty}
use Rattle.life_cells.specs.Laws.{same_cells, alive-empty, in_order-empty}
use Rattle.life_cells.specs.Boxes.{IsInRange}
use Rattle.life_cells.specs.BoxLaws.{range_wider}
use Rattle.text_lines.specs.Blanks.{IsPassedOver}
use Rattle.life_rle.specs.Written.{IsBodyText}
use Rattle.book_parts.specs.Limits.{IsName, IsCoordinate, IsPlaced, farthest}
use Rattle.book_parts.specs.Proper.{HasLife, IsProperEnd, IsProperTurn, IsProperKind, IsProperPlace, IsProperSalvo, IsProperHand, IsDelay, IsIndex}
use Rattle.book_parts.specs.declared.settings.Range.{Range}
use Rattle.book_parts.specs.declared.kind.RawKind.{RawKind}
use Rattle.book_parts.specs.declared.turn.RawTurn.{RawTurn}
use Rattle.book_parts.specs.declared.turn.TurnEnd.{TurnEnd}
use Rattle.book_parts.specs.declared.turn.TurnEnd.TheVariants as ending
use Rattle.book_parts.specs.declared.salvo.RawSalvo.{RawSalvo}
use Rattle.book_lines.specs.declared.keyword.Keyword.{Keyword}
use Rattle.book_lines.specs.declared.keyword.Keyword.TheVariants as first
use Rattle.book_lines.specs.declared.statement.Body.TheVariants.{Drawn}
use Rattle.book_lines.specs.declared.statement.Placed.{Placed}
use Rattle.book_lines.specs.declared.statement.NamedEnd.{NamedEnd}
use Rattle.book_lines.specs.declared.statement.NamedEnd.TheVariants.{Close, Move, Emit}
use Rattle.book_lines.specs.declared.statement.ElbowLine.{ElbowLine}
use Rattle.book_lines.specs.declared.statement.TurnLine.{TurnLine}
use Rattle.book_lines.specs.declared.statement.SalvoLine.{SalvoLine}
use Rattle.book_lines.specs.declared.statement.Statement.{Statement}
use Rattle.book_lines.specs.declared.statement.Statement.TheVariants.{Setting, Hand, Elbow, Start, Turn, Salvo}
use Rattle.book_lines.specs.Values.{IsBodyAt}
use Rattle.book_lines.specs.Values.Level.{Whole}
use Rattle.book_lines.specs.Forms.{KeepsOrder, IsPair, IsBody, IsPlacedBody, IsElbowLine, IsNextKind, IsEnding, IsProduct, IsHand, IsSalvoLine as IsSalvoForm}
use Rattle.book_lines.specs.declared.book_word.BookWord.{BookWord}
use Rattle.book_lines.specs.Words.{word_text, spelling}
use Rattle.book_lines.specs.WordLaws.{each_passes}
use Rattle.book_lines.specs.Limits.{limits}
use Rattle.book_lines.specs.NumberLaws.{one_number}
use Rattle.book_lines.specs.Statements.{keyword, ItemsState, States}
use Rattle.book_lines.specs.Counts.{product_count}
use Rattle.book_read.specs.Stated.{range_numbers, product_of}
use Rattle.book_read.specs.Limited.{placed_numbers, product_numbers}
use Rattle.book_write.specs.Laid.{spaced, line_of}
use Rattle.book_write.specs.Parts.{place_words, setting_line, IsHandLine, IsPlacedText, IsKindLine, kind_name, step_words, ending_words, turn_words, IsProductText, hand_words, IsSalvoLine}
use Rattle.book_write.proofs.Visible.{is_visible, IsWord, name_word}
use Rattle.book_write.proofs.Splitting.{words_are, begins_late, not_passed_over}
use Rattle.book_write.proofs.Numerals.{IsShort, short_from, number_word, number_is, number_at, number_words, numbers_at}
use Rattle.book_write.proofs.Moving.{near_box, moved_range, range_placed}
use Rattle.book_write.proofs.BodyWords.{IsReadBody, word_reads_back}
use Rattle.book_write.proofs.Within.{IsHeld, body_held}
use Rattle.life_plane.specs.ListLaws.{all_append}
use Rattle.book_parts.specs.declared.limits.TheConstants.{MOST_CELLS, LONGEST_TURN}

-- ---- a line and its words

some_test : (n : ℕ) → nat_lt 0 n ≡ true → 0 < n
some_test n e = grind (arith, nat_tests)

keyword_word : (k : Keyword) → IsWord (spelling k)
keyword_word (first.Book w) = record {
  some = some_test (length (word_text w)) (each_passes (λ (w : BookWord). nat_lt 0 (length (word_text w))) refl w);
  bytes = each_passes (λ (w : BookWord). list_all is_visible (word_text w)) refl w;
}
keyword_word first.Turn = record { some = lit< tt; bytes = refl }
keyword_word first.Salvo = record { some = lit< tt; bytes = refl }

keyword_late : (k : Keyword) → begins_late (spelling k) ≡ true
keyword_late (first.Book w) = each_passes (λ (w : BookWord). begins_late (word_text w)) refl w
keyword_late first.Turn = refl
keyword_late first.Salvo = refl

-- the line with these words states this
pub record IsLineFor (words : List (List ℕ)) (s : Statement) : Type 0 where
  pub each : AllByRecursion IsWord words
  pub states : States (line_of words) s
  pub read : IsPassedOver (line_of words) → ⊥

line_for : (s : Statement) (items : List (List ℕ)) → AllByRecursion IsWord items → ItemsState Whole s items → IsLineFor (spelling (keyword s) ∷ items) s
line_for s items h e = record {
  each = (keyword_word (keyword s), h);
  states = record { items = items; words_are = words_are (spelling (keyword s)) items (keyword_word (keyword s)) h; items_are = e };
  read = not_passed_over (spelling (keyword s)) (spaced items) (keyword_late (keyword s));
}

-- ---- settings

-- numbers that a setting's line may have
pub record AreWritable (w : BookWord) (zs : List ℤ) : Type 0 where
  pub short : AllByRecursion IsShort zs
  pub some : 0 < length zs
  pub count : length zs ≡ length (limits w)
  pub order : KeepsOrder (map signed_decimal zs)

pub setting_line_for : (w : BookWord) (zs : List ℤ) → AreWritable w zs → IsLineFor (setting_line w zs) (Setting (record { word = w; numbers = zs }))
setting_line_for w zs h =
    line_for (Setting (record { word = w; numbers = zs })) (map signed_decimal zs) (number_words zs h.short)
    (record { numbers_are = numbers_at zs h.short h.some; count = length-map zs signed_decimal ∙ h.count; order = h.order })

-- LOW and HIGH of a range are in order
pub range_order : (range : Range) → IsShort range.low → IsShort range.high → range.low ≤ℤ range.high → KeepsOrder (map signed_decimal (range_numbers range))
range_order range short_low short_high order low high g k =
    let a = one_number (signed_decimal range.low) low range.low g (number_is range.low short_low) in
    let b = one_number (signed_decimal range.high) high range.high k (number_is range.high short_high) in
    omega (arith, ints)

pair_is : (c : Cell) → IsShort c.x → IsShort c.y → IsPair Whole c (place_words c)
pair_is c x y = record { text_x = signed_decimal c.x; text_y = signed_decimal c.y; items_are = refl; number_x = number_at c.x x; number_y = number_at c.y y }

place_each : (c : Cell) → IsShort c.x → IsShort c.y → AllByRecursion IsWord (place_words c)
place_each c x y = (number_word c.x x, (number_word c.y y, tt))

pub short_coordinate : (z : ℤ) → IsCoordinate z → IsShort z
short_coordinate z h = let low = h.low in let high = h.high in short_from z (omega (arith, ints)) (omega (arith, ints))

-- ---- bodies

back_again : (x d : ℤ) → x ≡ (x -ℤ d) -ℤ neg_ℤ d
back_again x d = omega (arith, ints)

moved_back : (s : Plane) (dx dy : ℤ) → s ≡ shift dx dy (shift (neg_ℤ dx) (neg_ℤ dy) s)
moved_back s dx dy = same_plane _ _ (λ x y. λ i. s (back_again x dx i) (back_again y dy i))

body_at : (s : Cells) (at : Cell) (word : List ℕ) → IsReadBody (shift (neg_ℤ at.x) (neg_ℤ at.y) (alive s)) word → HasLife (alive s) → IsBodyAt Whole word at (Drawn s)
body_at s at word r lives = ((r.fine, (shift (neg_ℤ at.x) (neg_ℤ at.y) (alive s), (r.means, moved_back (alive s) at.x at.y))), lives)

not_moved : (s : Plane) → s ≡ shift (pos 0) (pos 0) s
not_moved s = same_plane _ _ (λ x y. let a : x ≡ x -ℤ pos 0 = omega (arith, ints) in let b : y ≡ y -ℤ pos 0 = omega (arith, ints) in λ i. s (a i) (b i))

-- what is read of a hand's line
pub hand_line : (hand : Cells) (words : List (List ℕ)) → IsHandLine hand words → IsProperHand (alive hand) → length (in_order hand) ≤ MOST_CELLS → IsLineFor words (Hand (Drawn hand))
hand_line hand words h p few =
    let still = not_moved (alive hand) in
    let drawn = h.drawn_is in
    let range : IsInRange (2 ^ 31) (alive hand) = range_wider farthest (2 ^ 31) (alive hand) (range_placed (alive hand) p.placed) (lit≤ tt) in
    let read = word_reads_back hand (pos 0) (pos 0) drawn.body (subst (λ (s : Plane). IsBodyText s drawn.body) still drawn.body_is) (subst (λ (s : Plane). IsInRange (2 ^ 31) s) still range) few in
    let items_are : IsBody Whole (Drawn hand) (drawn.body ∷ []) = record { word = drawn.body; items_are = refl; body_is = body_at hand (cell (pos 0) (pos 0)) drawn.body read p.lives } in
    subst (λ (ws : List (List ℕ)). IsLineFor ws (Hand (Drawn hand))) (sym (h.words_are ∙ ap (λ (ws : List (List ℕ)). codes "hand" ∷ ws) drawn.words_are))
    (line_for (Hand (Drawn hand)) (drawn.body ∷ []) (read.is_word, tt) items_are)

-- cells, as a line places them
abbrev pub placed_of : Cells → Bounds → Placed
placed_of s box = record { at = cell box.left box.top; body = Drawn s }

-- a kind, as a line tells it
abbrev pub elbow_of : RawKind → Bounds → ElbowLine
elbow_of kind box = record { name = kind.name; placed = placed_of kind.cells box }

-- what is read of placed cells
pub record IsPlacedFor (s : Cells) (words : List (List ℕ)) : Type 0 where
  pub box : Bounds
  pub each : AllByRecursion IsWord words
  pub is : IsPlacedBody Whole (placed_of s box) words
  pub held_all : AllByRecursion IsHeld (placed_numbers (placed_of s box))

pub placed_for : (s : Cells) (words : List (List ℕ)) → IsPlacedText (alive s) words → IsPlaced (alive s) → length (in_order s) ≤ MOST_CELLS → IsPlacedFor s words
placed_for s words h p few =
    let box = h.box in
    let drawn = h.drawn_is in
    let near = near_box (alive s) box h.box_is p in
    let left = short_coordinate box.left near.left in
    let top = short_coordinate box.top near.top in
    let read = word_reads_back s (neg_ℤ box.left) (neg_ℤ box.top) drawn.body drawn.body_is (moved_range (alive s) box h.box_is p) few in
    let lives = h.box_is.lives in
    let made : IsPlacedFor s (signed_decimal box.left ∷ (signed_decimal box.top ∷ (drawn.body ∷ []))) = record {
      box = box;
      each = (number_word box.left left, (number_word box.top top, (read.is_word, tt)));
      is = record {
        text_x = signed_decimal box.left;
        text_y = signed_decimal box.top;
        word = drawn.body;
        items_are = refl;
        number_x = number_at box.left left;
        number_y = number_at box.top top;
        body_is = body_at s (cell box.left box.top) drawn.body read lives;
      };
      held_all = (near.left, (near.top, body_held s p));
    } in
    subst (λ (ws : List (List ℕ)). IsPlacedFor s ws) (sym (h.words_are ∙ ap (λ (ws : List (List ℕ)). signed_decimal box.left ∷ (signed_decimal box.top ∷ ws)) drawn.words_are)) made

-- what is read of a kind's line
pub record IsKindFor (kind : RawKind) (words : List (List ℕ)) : Type 0 where
  pub box : Bounds
  pub line : IsLineFor words (Elbow (elbow_of kind box))
  pub held_all : AllByRecursion IsHeld (placed_numbers (placed_of kind.cells box))

pub kind_line : (kind : RawKind) (words : List (List ℕ)) → IsKindLine kind words → IsProperKind kind → length (in_order kind.cells) ≤ MOST_CELLS → IsKindFor kind words
kind_line kind words h p few =
    let r = placed_for kind.cells h.placed h.placed_is p.placed few in
    let items_are : IsElbowLine Whole (elbow_of kind r.box) (kind.name ∷ h.placed) = record { behind = h.placed; items_are = refl; name_is = p.name; placed_is = r.is } in
    record {
      box = r.box;
      line = subst (λ (ws : List (List ℕ)). IsLineFor ws (Elbow (elbow_of kind r.box))) (sym h.words_are) (line_for (Elbow (elbow_of kind r.box)) (kind.name ∷ h.placed) (name_word kind.name p.name, r.each) items_are);
      held_all = r.held_all;
    }

pub start_line : (name : List ℕ) → IsName name → IsLineFor (codes "start" ∷ (name ∷ [])) (Start name)
start_line name h = line_for (Start name) (name ∷ []) (name_word name h, tt) (record { items_are = refl; name_is = h })

-- ---- turns

abbrev pub named_end_of : List RawKind → TurnEnd → NamedEnd
named_end_of kinds ending.Close = Close
named_end_of kinds (ending.Move kind shift) = Move (kind_name kinds kind) shift
named_end_of kinds (ending.Emit kind shift lane j) = Emit (kind_name kinds kind) shift lane j

-- a turn, as a line tells it
abbrev pub turn_told : List RawKind → RawTurn → TurnLine
turn_told kinds turn = record { name = turn.name; kind = kind_name kinds turn.kind; end = named_end_of kinds turn.end; n = pos turn.n; delays = turn.delays }

-- the kinds that a turn leads to have names
abbrev pub HasNext : List RawKind → TurnEnd → Type 0
HasNext kinds ending.Close = Unit {0}
HasNext kinds (ending.Move kind shift) = IsName (kind_name kinds kind)
HasNext kinds (ending.Emit kind shift lane j) = IsName (kind_name kinds kind)

short_count : (n : ℕ) → n ≤ LONGEST_TURN → IsShort (pos n)
short_count n h = omega arith

short_index : (j : ℤ) → IsIndex j → IsShort j
short_index j h = let low = h.low in let high = h.high in short_from j (omega (arith, ints)) (omega (arith, ints))

next_kind_is : (kind : List ℕ) (shift : ℤ) (n : ℕ) (more : List (List ℕ)) → IsName kind → IsShort shift → IsShort (pos n) → IsNextKind Whole kind shift (pos n) (step_words kind shift n ++ more) more
next_kind_is kind shift n more k s h = record { text_shift = signed_decimal shift; text_n = decimal n; items_are = refl; name_is = k; number_shift = number_at shift s; number_n = number_at (pos n) h }

step_each : (kind : List ℕ) (shift : ℤ) (n : ℕ) → IsName kind → IsShort shift → IsShort (pos n) → AllByRecursion IsWord (step_words kind shift n)
step_each kind shift n k s h = (name_word kind k, (number_word shift s, (number_word (pos n) h, tt)))

word_of_close : IsWord (codes "close")
word_of_close = record { some = lit< tt; bytes = refl }

word_of_move : IsWord (codes "move")
word_of_move = record { some = lit< tt; bytes = refl }

word_of_emit : IsWord (codes "emit")
word_of_emit = record { some = lit< tt; bytes = refl }

colon_word : IsWord (codes ":")
colon_word = record { some = lit< tt; bytes = refl }

none_word : IsWord (codes "none")
none_word = record { some = lit< tt; bytes = refl }

-- what is read of what a turn leaves
record IsEndingFor (kinds : List RawKind) (end : TurnEnd) (n : ℕ) : Type 0 where
  is : IsEnding Whole (named_end_of kinds end) (pos n) (ending_words kinds end n)
  each : AllByRecursion IsWord (ending_words kinds end n)

ending_for : (kinds : List RawKind) (end : TurnEnd) (n : ℕ) → IsProperEnd (length kinds) end → HasNext kinds end → n ≤ LONGEST_TURN → IsEndingFor kinds end n
ending_for kinds ending.Close n p k h =
    let s = short_count n h in
    record { is = (decimal n ∷ [], (refl, record { text = decimal n; items_are = refl; number = number_at (pos n) s })); each = (word_of_close, (number_word (pos n) s, tt)) }
ending_for kinds (ending.Move kind shift) n p k h =
    let s = short_count n h in
    let d = short_coordinate shift p.1 in
    record { is = (step_words (kind_name kinds kind) shift n, (refl, next_kind_is (kind_name kinds kind) shift n [] k d s)); each = (word_of_move, step_each (kind_name kinds kind) shift n k d s) }
ending_for kinds (ending.Emit kind shift lane j) n p k h =
    let s = short_count n h in
    let d = short_coordinate shift p.1.0 in
    let l = short_coordinate lane p.1.1.0 in
    let i = short_index j p.1.1.1 in
    let thrown = place_words (cell lane j) in
    record {
      is = (step_words (kind_name kinds kind) shift n ++ thrown, (thrown, (refl, (next_kind_is (kind_name kinds kind) shift n thrown k d s, pair_is (cell lane j) l i))));
      each = (word_of_emit, all_append IsWord (step_words (kind_name kinds kind) shift n) thrown (step_each (kind_name kinds kind) shift n k d s) (place_each (cell lane j) l i));
    }

short_delays : (zs : List ℤ) → AllByRecursion IsDelay zs → AllByRecursion IsShort zs
short_delays [] h = tt
short_delays (z ∷ zs) h = (let low = h.0.low in let high = h.0.high in short_from z (omega (arith, ints)) (omega (arith, ints)), short_delays zs h.1)

pub turn_line : (kinds : List RawKind) (turn : RawTurn) → IsProperTurn (length kinds) turn → IsName (kind_name kinds turn.kind) → HasNext kinds turn.end → IsLineFor (turn_words kinds turn) (Turn (turn_told kinds turn))
turn_line kinds turn p k next =
    let e = ending_for kinds turn.end turn.n p.leaves next p.short in
    let short = short_delays turn.delays p.delays in
    let items = turn.name ∷ (kind_name kinds turn.kind ∷ (ending_words kinds turn.end turn.n ++ (codes ":" ∷ map signed_decimal turn.delays))) in
    line_for (Turn (turn_told kinds turn)) items
    (name_word turn.name p.name, (name_word (kind_name kinds turn.kind) k, all_append IsWord (ending_words kinds turn.end turn.n) (codes ":" ∷ map signed_decimal turn.delays) e.each (colon_word, number_words turn.delays short)))
    (record { ending = ending_words kinds turn.end turn.n; delays = map signed_decimal turn.delays; items_are = refl; name_is = p.name; kind_is = k; ending_is = e.is; delays_are = numbers_at turn.delays short p.some })

-- ---- salvos

-- what is read of what a salvo builds
pub record IsProductFor (s : Cells) (words : List (List ℕ)) : Type 0 where
  pub product : Option Placed
  pub is : IsProduct Whole product words
  pub each : AllByRecursion IsWord words
  pub same : product_of product ≡ s
  pub held_all : AllByRecursion IsHeld (product_numbers product)
  pub count : product_count product ≡ length (in_order s)

pub product_for : (s : Cells) (words : List (List ℕ)) → IsProductText (alive s) words → IsPlaced (alive s) → length (in_order s) ≤ MOST_CELLS → IsProductFor s words
product_for s words (inl none) p few =
    let same : empty ≡ s = same_cells empty s (alive-empty ∙ sym none.0) in
    record { product = None; is = none.1; each = subst (λ (ws : List (List ℕ)). AllByRecursion IsWord ws) (sym none.1) (none_word, tt); same = same; held_all = tt; count = sym (ap (λ (t : Cells). length (in_order t)) (sym same) ∙ ap length in_order-empty) }
product_for s words (inr placed) p few =
    let r = placed_for s words placed p few in
    record { product = Some (placed_of s r.box); is = r.is; each = r.each; same = refl; held_all = r.held_all; count = refl }

-- a salvo, as a line tells it
abbrev pub salvo_told : RawSalvo → Option Placed → SalvoLine
salvo_told salvo product = record { name = salvo.name; lanes = salvo.lanes; product = product; hand = salvo.hand }

short_lanes : (zs : List ℤ) → AllByRecursion IsCoordinate zs → AllByRecursion IsShort zs
short_lanes [] h = tt
short_lanes (z ∷ zs) h = (short_coordinate z h.0, short_lanes zs h.1)

hand_is : (hand : Option Cell) → IsProperPlace hand → IsHand Whole hand (hand_words hand)
hand_is None h = refl
hand_is (Some place) h = pair_is place (short_coordinate place.x h.0) (short_coordinate place.y h.1)

hand_each : (hand : Option Cell) → IsProperPlace hand → AllByRecursion IsWord (hand_words hand)
hand_each None h = (none_word, tt)
hand_each (Some place) h = place_each place (short_coordinate place.x h.0) (short_coordinate place.y h.1)

-- what is read of a salvo's line
pub record IsSalvoFor (salvo : RawSalvo) (words : List (List ℕ)) : Type 0 where
  pub product : Option Placed
  pub line : IsLineFor words (Salvo (salvo_told salvo product))
  pub same : product_of product ≡ salvo.product
  pub held_all : AllByRecursion IsHeld (product_numbers product)
  pub count : product_count product ≡ length (in_order salvo.product)

pub salvo_line : (salvo : RawSalvo) (words : List (List ℕ)) → IsSalvoLine salvo words → IsProperSalvo salvo → length (in_order salvo.product) ≤ MOST_CELLS → IsSalvoFor salvo words
salvo_line salvo words h p few =
    let r = product_for salvo.product h.product h.product_is p.product few in
    let lanes = map signed_decimal salvo.lanes in
    let hand = hand_words salvo.hand in
    let short = short_lanes salvo.lanes p.lanes in
    let said = Salvo (salvo_told salvo r.product) in
    let behind = codes ":" ∷ (h.product ++ (codes ":" ∷ hand)) in
    let items = salvo.name ∷ (codes ":" ∷ (lanes ++ behind)) in
    let form : IsSalvoForm Whole (salvo_told salvo r.product) items = record { lanes = lanes; product = h.product; hand = hand; items_are = refl; name_is = p.name; lanes_are = numbers_at salvo.lanes short p.some; product_is = r.is; hand_is = hand_is salvo.hand p.hand } in
    let made = line_for said items
    (name_word salvo.name p.name, (colon_word, all_append IsWord lanes behind (number_words salvo.lanes short) (colon_word, all_append IsWord h.product (codes ":" ∷ hand) r.each (colon_word, hand_each salvo.hand p.hand)))) form in
    record { product = r.product; line = subst (λ (ws : List (List ℕ)). IsLineFor ws said) (sym h.words_are) made; same = r.same; held_all = r.held_all; count = r.count }
