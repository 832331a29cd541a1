-- A line states one thing.
use Rattle.std.proofs.Common.{◌≡◌, ℕ, ℤ, pos, List, [], Option, Some, None, refl, sym, ap, ◌∙◌, subst}
use Rattle.life_plane.specs.Plane.{Plane, shift}
use Rattle.life_cells.specs.Cells.{cell}
use Rattle.life_cells.specs.Laws.{same_cells}
use Rattle.life_cells.specs.declared.cell.Cell.{Cell}
use Rattle.rle_items.specs.declared.error.BodyError.TheVariants as refusal
use Rattle.book_lines.specs.declared.statement.Body.{Body}
use Rattle.book_lines.specs.declared.statement.Body.TheVariants.{Drawn, TooMany}
use Rattle.book_lines.specs.declared.statement.Placed.{Placed}
use Rattle.book_lines.specs.declared.statement.SettingLine.{SettingLine}
use Rattle.book_lines.specs.declared.statement.NamedEnd.{NamedEnd}
use Rattle.book_lines.specs.declared.statement.NamedEnd.TheVariants.{Close, Move, Emit}
use Rattle.book_lines.specs.declared.statement.ElbowLine.{ElbowLine}
use Rattle.book_lines.specs.declared.statement.TurnLine.{TurnLine}
use Rattle.book_lines.specs.declared.statement.SalvoLine.{SalvoLine}
use Rattle.book_lines.specs.declared.statement.Statement.{Statement}
use Rattle.book_lines.specs.declared.statement.Statement.TheVariants.{Setting, Hand, Elbow, Start, Turn, Salvo}
use Rattle.book_lines.specs.Values.{IsNumber, IsBodyAt, AreNumbersAt}
use Rattle.book_lines.specs.Values.Level.{Form, Numbers, Whole}
use Rattle.book_lines.specs.Forms.{IsOneNumber, IsPair, IsSettingLine, IsBody, IsPlacedBody, IsElbowLine, IsNextKind, IsEnding, IsTurnLine, IsProduct, IsHand, IsSalvoLine}
use Rattle.book_lines.specs.declared.book_word.BookWord.TheVariants as word
use Rattle.book_lines.specs.Words.{spelling}
use Rattle.book_lines.specs.WordLaws.{one_keyword}
use Rattle.book_lines.specs.Statements.{keyword, ItemsState, States}
use Rattle.book_lines.proofs.Worded.{no_setting}
use Rattle.book_lines.specs.NumberLaws.{one_number}
use Rattle.book_lines.proofs.Uniqueness.{one_list}
use Rattle.book_lines.proofs.Drawing.{OneMeaning, OneRefusal, NoRefusal}
use Rattle.book_lines.proofs.Levels.{NumbersPass, BodiesPass, turn_pass, salvo_pass, zip_pass, numbers_form, bodies_form}
use Rattle.book_lines.proofs.Pieces.{no_colons}
use Rattle.book_lines.proofs.Cutting.{turn_parts, ending_free, salvo_parts, product_free, close_down, move_down, emit_down}

-- that of a body word, as far as other laws tell
pub record BodyLaws : Type 0 where
  pub meaning : OneMeaning
  pub refusal : OneRefusal
  pub none : NoRefusal

one_read : (text other : List ℕ) (z w : ℤ) → text ≡ other → IsNumber text z → IsNumber other w → z ≡ w
one_read text other z w e h k = one_number other z w (subst (λ (t : List ℕ). IsNumber t z) e h) k

same_cell_of : (c d : Cell) → c.x ≡ d.x → c.y ≡ d.y → c ≡ d
same_cell_of c d x y = λ i. record { y = y i; x = x i }

one_body : (laws : BodyLaws) (word : List ℕ) (at : Cell) (b c : Body) → IsBodyAt Whole word at b → IsBodyAt Whole word at c → b ≡ c
one_body laws word at (Drawn b) (Drawn c) h k =
    let drawn = laws.meaning word h.0.1.0 k.0.1.0 h.0.1.1.0 k.0.1.1.0 in
    ap Drawn (same_cells b c (h.0.1.1.1 ∙ ap (λ (p : Plane). shift at.x at.y p) drawn ∙ sym k.0.1.1.1))
one_body laws word at (Drawn b) (TooMany n) h k = absurd (laws.none word (refusal.TooMany n) h.0.0 k.0 (λ e. absurd (cc e)))
one_body laws word at (TooMany n) (Drawn c) h k = absurd (laws.none word (refusal.TooMany n) k.0.0 h.0 (λ e. absurd (cc e)))
one_body laws word at (TooMany n) (TooMany m) h k = let e = laws.refusal word (refusal.TooMany n) (refusal.TooMany m) h.0 k.0 (λ e. absurd (cc e)) (λ e. absurd (cc e)) in let same : n ≡ m = cc in ap TooMany same

one_pair : (items : List (List ℕ)) (c d : Cell) → IsPair Whole c items → IsPair Whole d items → c ≡ d
one_pair items c d h k =
    let e = h.items_are in
    let f = k.items_are in
    let x : h.text_x ≡ k.text_x = cc in
    let y : h.text_y ≡ k.text_y = cc in
    same_cell_of c d (one_read h.text_x k.text_x c.x d.x x h.number_x k.number_x) (one_read h.text_y k.text_y c.y d.y y h.number_y k.number_y)

one_single : (items : List (List ℕ)) (z w : ℤ) → IsOneNumber Whole z items → IsOneNumber Whole w items → z ≡ w
one_single items z w h k =
    let e = h.items_are in
    let f = k.items_are in
    let same : h.text ≡ k.text = cc in
    one_read h.text k.text z w same h.number k.number

one_word : (laws : BodyLaws) (items : List (List ℕ)) (b c : Body) → IsBody Whole b items → IsBody Whole c items → b ≡ c
one_word laws items b c h k =
    let e = h.items_are in
    let f = k.items_are in
    let same : h.word ≡ k.word = cc in
    one_body laws k.word (cell (pos 0) (pos 0)) b c (subst (λ (w : List ℕ). IsBodyAt Whole w (cell (pos 0) (pos 0)) b) same h.body_is) k.body_is

one_placed : (laws : BodyLaws) (items : List (List ℕ)) (p q : Placed) → IsPlacedBody Whole p items → IsPlacedBody Whole q items → p ≡ q
one_placed laws items p q h k =
    let e = h.items_are in
    let f = k.items_are in
    let a : h.text_x ≡ k.text_x = cc in
    let b : h.text_y ≡ k.text_y = cc in
    let c : h.word ≡ k.word = cc in
    let at = same_cell_of p.at q.at (one_read h.text_x k.text_x p.at.x q.at.x a h.number_x k.number_x) (one_read h.text_y k.text_y p.at.y q.at.y b h.number_y k.number_y) in
    let body = one_body laws k.word q.at p.body q.body (subst (λ (d : Cell). IsBodyAt Whole k.word d p.body) at (subst (λ (w : List ℕ). IsBodyAt Whole w p.at p.body) c h.body_is)) k.body_is in
    λ i. record { at = at i; body = body i }

same_zs : (ts us : List (List ℕ)) (zs ws : List ℤ) → ts ≡ us → AreNumbersAt Whole ts zs → AreNumbersAt Whole us ws → zs ≡ ws
same_zs ts us zs ws e h k =
    let g = subst (λ (xs : List (List ℕ)). AreNumbersAt Whole xs zs) e h in
    one_list us zs ws (zip_pass Whole Numbers (λ t z p. p) us zs g.each) (zip_pass Whole Numbers (λ t z p. p) us ws k.each)

one_setting : (items : List (List ℕ)) (s t : SettingLine) → s.word ≡ t.word → IsSettingLine Whole s items → IsSettingLine Whole t items → s ≡ t
one_setting items s t word h k =
    let numbers = same_zs items items s.numbers t.numbers refl h.numbers_are k.numbers_are in
    λ i. record { word = word i; numbers = numbers i }

one_next_kind : (items : List (List ℕ)) (a b : List ℕ) (s t n m : ℤ) (more rest : List (List ℕ)) → IsNextKind Whole a s n items more → IsNextKind Whole b t m items rest
    → (a ≡ b) × ((s ≡ t) × ((n ≡ m) × (more ≡ rest)))
one_next_kind items a b s t n m more rest h k =
    let e = h.items_are in
    let f = k.items_are in
    let c : h.text_shift ≡ k.text_shift = cc in
    let d : h.text_n ≡ k.text_n = cc in
    (cc, (one_read h.text_shift k.text_shift s t c h.number_shift k.number_shift, (one_read h.text_n k.text_n n m d h.number_n k.number_n, cc)))

one_ending : (items : List (List ℕ)) (a b : NamedEnd) (n m : ℤ) → IsEnding Whole a n items → IsEnding Whole b m items → (a ≡ b) × (n ≡ m)
one_ending items Close Close n m h k = (refl, one_single h.0 n m h.1.1 (close_down Whole items h.0 h.1.0 Close m k))
one_ending items (Move a s) (Move b t) n m h k =
    let r = one_next_kind h.0 a b s t n m [] [] h.1.1 (move_down Whole items h.0 h.1.0 (Move b t) m k) in
    let kind = r.0 in
    let shift = r.1.0 in
    (cc, r.1.1.0)
one_ending items (Emit a s l j) (Emit b t o q) n m h k =
    let g = emit_down Whole items h.0 h.1.1.0 (Emit b t o q) m k in
    let r = one_next_kind h.0 a b s t n m h.1.0 g.0 h.1.1.1.0 g.1.0 in
    let pair = one_pair g.0 (cell l j) (cell o q) (subst (λ (ts : List (List ℕ)). IsPair Whole (cell l j) ts) r.1.1.1 h.1.1.1.1) g.1.1 in
    let kind = r.0 in
    let shift = r.1.0 in
    let lane : l ≡ o = ap (λ (c : Cell). c.x) pair in
    let index : j ≡ q = ap (λ (c : Cell). c.y) pair in
    (cc, r.1.1.0)
one_ending items Close (Move b t) n m h k = absurd (move_down Whole items k.0 k.1.0 Close n h)
one_ending items Close (Emit b t o q) n m h k = absurd (emit_down Whole items k.0 k.1.1.0 Close n h)
one_ending items (Move a s) Close n m h k = absurd (move_down Whole items h.0 h.1.0 Close m k)
one_ending items (Move a s) (Emit b t o q) n m h k = absurd (move_down Whole items h.0 h.1.0 (Emit b t o q) m k)
one_ending items (Emit a s l j) Close n m h k = absurd (emit_down Whole items h.0 h.1.1.0 Close m k)
one_ending items (Emit a s l j) (Move b t) n m h k = absurd (emit_down Whole items h.0 h.1.1.0 (Move b t) m k)

whole_form : NumbersPass Whole Form
whole_form text z h = numbers_form text z h

whole_body_form : BodiesPass Whole Form
whole_body_form word at body h = bodies_form word at body h.0

one_turn : (items : List (List ℕ)) (a b : TurnLine) → IsTurnLine Whole a items → IsTurnLine Whole b items → a ≡ b
one_turn items a b h k =
    let f = turn_pass Whole Form whole_form a items h in
    let g = turn_pass Whole Form whole_form b items k in
    let p = turn_parts a items b.name b.kind k.ending k.delays f k.items_are (ending_free b.end b.n k.ending g.ending_is) in
    let e = one_ending k.ending a.end b.end a.n b.n (subst (λ (ts : List (List ℕ)). IsEnding Whole a.end a.n ts) p.ending_is h.ending_is) k.ending_is in
    let zs = same_zs h.delays k.delays a.delays b.delays p.delays_are h.delays_are k.delays_are in
    λ i. record { name = p.name_is i; kind = p.kind_is i; end = e.0 i; n = e.1 i; delays = zs i }

one_product : (laws : BodyLaws) (items : List (List ℕ)) (a b : Option Placed) → IsProduct Whole a items → IsProduct Whole b items → a ≡ b
one_product laws items None None h k = refl
one_product laws items None (Some q) h k = let e = k.items_are in absurd (cc (h, e))
one_product laws items (Some p) None h k = let e = h.items_are in absurd (cc (k, e))
one_product laws items (Some p) (Some q) h k = ap Some (one_placed laws items p q h k)

one_hand : (items : List (List ℕ)) (a b : Option Cell) → IsHand Whole a items → IsHand Whole b items → a ≡ b
one_hand items None None h k = refl
one_hand items None (Some q) h k = let e = k.items_are in absurd (cc (h, e))
one_hand items (Some p) None h k = let e = h.items_are in absurd (cc (k, e))
one_hand items (Some p) (Some q) h k = ap Some (one_pair items p q h k)

one_salvo : (laws : BodyLaws) (items : List (List ℕ)) (a b : SalvoLine) → IsSalvoLine Whole a items → IsSalvoLine Whole b items → a ≡ b
one_salvo laws items a b h k =
    let f = salvo_pass Whole Form whole_form whole_body_form a items h in
    let g = salvo_pass Whole Form whole_form whole_body_form b items k in
    let p = salvo_parts a items b.name k.lanes k.product k.hand f k.items_are (no_colons k.lanes b.lanes g.lanes_are.each) (product_free b.product k.product g.product_is) in
    let zs = same_zs h.lanes k.lanes a.lanes b.lanes p.lanes_are h.lanes_are k.lanes_are in
    let product = one_product laws k.product a.product b.product (subst (λ (ts : List (List ℕ)). IsProduct Whole a.product ts) p.product_is h.product_is) k.product_is in
    let hand = one_hand k.hand a.hand b.hand (subst (λ (ts : List (List ℕ)). IsHand Whole a.hand ts) p.hand_is h.hand_is) k.hand_is in
    λ i. record { name = p.name_is i; lanes = zs i; product = product i; hand = hand i }

one_elbow : (laws : BodyLaws) (items : List (List ℕ)) (a b : ElbowLine) → IsElbowLine Whole a items → IsElbowLine Whole b items → a ≡ b
one_elbow laws items a b h k =
    let e = h.items_are in
    let f = k.items_are in
    let name : a.name ≡ b.name = cc in
    let behind : h.behind ≡ k.behind = cc in
    let placed = one_placed laws k.behind a.placed b.placed (subst (λ (ts : List (List ℕ)). IsPlacedBody Whole a.placed ts) behind h.placed_is) k.placed_is in
    λ i. record { name = name i; placed = placed i }

one_items : (laws : BodyLaws) (items : List (List ℕ)) (s t : Statement) → keyword s ≡ keyword t → ItemsState Whole s items → ItemsState Whole t items → s ≡ t
one_items laws items (Setting a) (Setting b) w h k = ap Setting (one_setting items a b (cc w) h k)
one_items laws items (Setting a) (Hand b) w h k = absurd (no_setting items Whole a word.Hand refl w h)
one_items laws items (Setting a) (Elbow b) w h k = absurd (no_setting items Whole a word.Elbow refl w h)
one_items laws items (Setting a) (Start b) w h k = absurd (no_setting items Whole a word.Start refl w h)
one_items laws items (Hand a) (Setting b) w h k = absurd (no_setting items Whole b word.Hand refl (sym w) k)
one_items laws items (Elbow a) (Setting b) w h k = absurd (no_setting items Whole b word.Elbow refl (sym w) k)
one_items laws items (Start a) (Setting b) w h k = absurd (no_setting items Whole b word.Start refl (sym w) k)
one_items laws items (Hand a) (Hand b) w h k = ap Hand (one_word laws items a b h k)
one_items laws items (Elbow a) (Elbow b) w h k = ap Elbow (one_elbow laws items a b h k)
one_items laws items (Start a) (Start b) w h k = let e = h.items_are in let f = k.items_are in let same : a ≡ b = cc in ap Start same
one_items laws items (Turn a) (Turn b) w h k = ap Turn (one_turn items a b h k)
one_items laws items (Salvo a) (Salvo b) w h k = ap Salvo (one_salvo laws items a b h k)
one_items laws items s t w h k = absurd (cc w)

-- a line states one thing
pub one_statement : (laws : BodyLaws) (line : List ℕ) (s t : Statement) → States line s → States line t → s ≡ t
one_statement laws line s t h k =
    let e = h.words_are in
    let f = k.words_are in
    let word : spelling (keyword s) ≡ spelling (keyword t) = cc in
    let items : h.items ≡ k.items = cc in
    one_items laws k.items s t (one_keyword (keyword s) (keyword t) word) (subst (λ (ts : List (List ℕ)). ItemsState Whole s ts) items h.items_are) k.items_are
