-- Lines are cut into parts in one way.
use Rattle.std.proofs.Common.{◌≡◌, ◌≢◌, ℕ, ℤ, pos, List, [], ◌∷◌, ◌++◌, length, codes, true, Option, Some, None, refl, sym, ap, subst, arith}
use Rattle.std.proofs.lemmas.Bool.{false≢true}
use Rattle.life_cells.specs.Cells.{cell}
use Rattle.life_cells.specs.declared.cell.Cell.{Cell}
use Rattle.book_parts.specs.Limits.{IsName, begins_with_letter}
use Rattle.book_lines.specs.declared.statement.Body.{Body}
use Rattle.book_lines.specs.declared.statement.Body.TheVariants.{TooMany}
use Rattle.book_lines.specs.declared.statement.Placed.{Placed}
use Rattle.book_lines.specs.declared.statement.NamedEnd.{NamedEnd}
use Rattle.book_lines.specs.declared.statement.NamedEnd.TheVariants.{Close, Move, Emit}
use Rattle.book_lines.specs.declared.statement.ElbowLine.{ElbowLine}
use Rattle.book_lines.specs.declared.statement.TurnLine.{TurnLine}
use Rattle.book_lines.specs.declared.statement.SalvoLine.{SalvoLine}
use Rattle.book_lines.specs.Lines.{HaveNoColon}
use Rattle.book_lines.specs.Values.{Level, IsNumber, IsBodyAt}
use Rattle.book_lines.specs.Values.Level.{Form, Numbers, Bodies, Whole}
use Rattle.book_lines.specs.Forms.{IsOneNumber, IsPair, IsBody, IsPlacedBody, IsElbowLine, IsNextKind, IsEnding, IsTurnLine, IsProduct, IsHand, IsSalvoLine}
use Rattle.book_lines.specs.Cuts.{IsMove, IsEmit, IsTurnCut, IsSalvoCut}
use Rattle.book_lines.specs.declared.fault.LineFault.TheVariants as fault
use Rattle.book_lines.specs.declared.fault.LineError.{LineError}
use Rattle.book_lines.specs.declared.fault.LineError.TheVariants.{Fault, Memory}
use Rattle.book_lines.specs.Reads.{IsErrorOf}
use Rattle.book_lines.proofs.Levels.{NumbersPass, heads}
use Rattle.book_lines.specs.NumberLaws.{one_number}
use Rattle.book_lines.proofs.Pieces.{MayStand, no_colons}

-- a list is cut at its first `:` in one way
pub cut_once : (ts us vs ws : List (List ℕ)) → HaveNoColon ts → HaveNoColon us → ts ++ (codes ":" ∷ vs) ≡ us ++ (codes ":" ∷ ws) → (ts ≡ us) × (vs ≡ ws)
cut_once [] [] vs ws h k e = (refl, cc)
cut_once [] (u ∷ us) vs ws h k e = absurd (k.0 (cc))
cut_once (t ∷ ts) [] vs ws h k e = absurd (h.0 (cc))
cut_once (t ∷ ts) (u ∷ us) vs ws h k e =
    let rest : ts ++ (codes ":" ∷ vs) ≡ us ++ (codes ":" ∷ ws) = cc in
    let r = cut_once ts us vs ws h.1 k.1 rest in
    ((let same = r.0 in cc), r.1)

-- a name is no `:`
pub name_no_colon : (name : List ℕ) → IsName name → MayStand name
name_no_colon name h e = false≢true (subst (λ (t : List ℕ). begins_with_letter t ≡ true) e h.first)

-- ---- parts of lines have no `:`

pub placed_free : (placed : Placed) (items : List (List ℕ)) → IsPlacedBody Form placed items → HaveNoColon items
placed_free placed items h = subst HaveNoColon (sym h.items_are) (h.number_x, (h.number_y, (h.body_is, tt)))

pub product_free : (product : Option Placed) (items : List (List ℕ)) → IsProduct Form product items → HaveNoColon items
product_free None items h = subst HaveNoColon (sym h) ((λ e. other e), tt)
  where
    other : codes "none" ≡ codes ":" → ⊥
    other e = let n = ap length e in omega arith
product_free (Some placed) items h = placed_free placed items h

one_free : (n : ℤ) (items : List (List ℕ)) → IsOneNumber Form n items → HaveNoColon items
one_free n items h = subst HaveNoColon (sym h.items_are) (h.number, tt)

pair_free : (c : Cell) (items : List (List ℕ)) → IsPair Form c items → HaveNoColon items
pair_free c items h = subst HaveNoColon (sym h.items_are) (h.number_x, (h.number_y, tt))

next_kind_free : (kind : List ℕ) (shift n : ℤ) (items more : List (List ℕ)) → IsNextKind Form kind shift n items more → HaveNoColon more → HaveNoColon items
next_kind_free kind shift n items more h k = subst HaveNoColon (sym h.items_are) (name_no_colon kind h.name_is, (h.number_shift, (h.number_n, k)))

no_word : (word : List ℕ) → length word ≡ 4 → MayStand word
no_word word l e = let n = ap length e in omega arith

no_close : MayStand (codes "close")
no_close e = let n = ap length e in omega arith

pub ending_free : (end : NamedEnd) (n : ℤ) (items : List (List ℕ)) → IsEnding Form end n items → HaveNoColon items
ending_free Close n items h = subst HaveNoColon (sym h.1.0) (no_close, one_free n h.0 h.1.1)
ending_free (Move kind shift) n items h = subst HaveNoColon (sym h.1.0) (no_word (codes "move") refl, next_kind_free kind shift n h.0 [] h.1.1 tt)
ending_free (Emit kind shift lane j) n items h =
    subst HaveNoColon (sym h.1.1.0) (no_word (codes "emit") refl, next_kind_free kind shift n h.0 h.1.0 h.1.1.1.0 (pair_free _ h.1.0 h.1.1.1.1))

-- ---- turns

-- the parts of a turn's line
pub record SameTurn {turn : TurnLine} {items : List (List ℕ)} (h : IsTurnLine Form turn items) (name kind : List ℕ) (ending delays : List (List ℕ)) : Type 0 where
  pub name_is : turn.name ≡ name
  pub kind_is : turn.kind ≡ kind
  pub ending_is : h.ending ≡ ending
  pub delays_are : h.delays ≡ delays

pub turn_parts : (turn : TurnLine) (items : List (List ℕ)) (name kind : List ℕ) (ending delays : List (List ℕ)) (h : IsTurnLine Form turn items)
    → items ≡ name ∷ (kind ∷ (ending ++ (codes ":" ∷ delays))) → HaveNoColon ending → SameTurn h name kind ending delays
turn_parts turn items name kind ending delays h e free =
    let f = h.items_are in
    let rest : h.ending ++ (codes ":" ∷ h.delays) ≡ ending ++ (codes ":" ∷ delays) = cc in
    let r = cut_once h.ending ending h.delays delays (ending_free turn.end turn.n h.ending h.ending_is) free rest in
    record { name_is = cc; kind_is = cc; ending_is = r.0; delays_are = r.1 }

-- a line whose parts have their forms has the form of a turn
pub turn_formed : (items : List (List ℕ)) (name kind : List ℕ) (ending delays : List (List ℕ)) → IsTurnCut items name kind ending delays → (turn : TurnLine) × IsTurnLine Form turn items
turn_formed items name kind ending delays cut = (
  record { name = name; kind = kind; end = cut.ending_is.0; n = cut.ending_is.1.0; delays = cut.delays_are.0 },
  record {
    ending = ending;
    delays = delays;
    items_are = cut.items_are;
    name_is = cut.name_is;
    kind_is = cut.kind_is;
    ending_is = cut.ending_is.1.1;
    delays_are = cut.delays_are.1;
  },
)

-- ---- salvos

pub record SameSalvo {salvo : SalvoLine} {items : List (List ℕ)} (h : IsSalvoLine Form salvo items) (name : List ℕ) (lanes product hand : List (List ℕ)) : Type 0 where
  pub name_is : salvo.name ≡ name
  pub lanes_are : h.lanes ≡ lanes
  pub product_is : h.product ≡ product
  pub hand_is : h.hand ≡ hand

pub salvo_parts : (salvo : SalvoLine) (items : List (List ℕ)) (name : List ℕ) (lanes product hand : List (List ℕ)) (h : IsSalvoLine Form salvo items)
    → items ≡ name ∷ (codes ":" ∷ (lanes ++ (codes ":" ∷ (product ++ (codes ":" ∷ hand))))) → HaveNoColon lanes → HaveNoColon product → SameSalvo h name lanes product hand
salvo_parts salvo items name lanes product hand h e free free_too =
    let f = h.items_are in
    let rest : h.lanes ++ (codes ":" ∷ (h.product ++ (codes ":" ∷ h.hand))) ≡ lanes ++ (codes ":" ∷ (product ++ (codes ":" ∷ hand))) = cc in
    let r = cut_once h.lanes lanes _ _ (no_colons h.lanes salvo.lanes h.lanes_are.each) free rest in
    let s = cut_once h.product product h.hand hand (product_free salvo.product h.product h.product_is) free_too r.1 in
    record { name_is = cc; lanes_are = r.0; product_is = s.0; hand_is = s.1 }

pub salvo_formed : (items : List (List ℕ)) (name : List ℕ) (lanes product hand : List (List ℕ)) → IsSalvoCut items name lanes product hand → (salvo : SalvoLine) × IsSalvoLine Form salvo items
salvo_formed items name lanes product hand cut = (
  record { name = name; lanes = cut.lanes_are.0; product = cut.product_is.0; hand = cut.hand_is.0 },
  record {
    lanes = lanes;
    product = product;
    hand = hand;
    items_are = cut.items_are;
    name_is = cut.name_is;
    lanes_are = cut.lanes_are.1;
    product_is = cut.product_is.1;
    hand_is = cut.hand_is.1;
  },
)

-- ---- `X Y BODY`

pub placed_form : (items : List (List ℕ)) (t u v : List ℕ) → items ≡ t ∷ (u ∷ (v ∷ [])) → HaveNoColon items → (placed : Placed) × IsPlacedBody Form placed items
placed_form items t u v e h =
    let free : HaveNoColon (t ∷ (u ∷ (v ∷ []))) = subst HaveNoColon e h in (
      record { at = cell (pos 0) (pos 0); body = TooMany 0 },
      record { text_x = t; text_y = u; word = v; items_are = e; number_x = free.0; number_y = free.1.0; body_is = free.1.1.0 },
    )

-- ---- a body in its place

-- the texts of `X Y BODY` are those
pub placed_texts : (l : Level) (placed : Placed) (items : List (List ℕ)) (t u v : List ℕ) → items ≡ t ∷ (u ∷ (v ∷ [])) → (h : IsPlacedBody l placed items)
    → (h.text_x ≡ t) × ((h.text_y ≡ u) × (h.word ≡ v))
placed_texts l placed items t u v e h = let f = h.items_are in (cc, (cc, cc))

pub placed_number : (placed : Placed) (items : List (List ℕ)) (t u v : List ℕ) → items ≡ t ∷ (u ∷ (v ∷ [])) → IsPlacedBody Numbers placed items → IsNumber t placed.at.x × IsNumber u placed.at.y
placed_number placed items t u v e h =
    let texts = placed_texts Numbers placed items t u v e h in
    (subst (λ (w : List ℕ). IsNumber w placed.at.x) texts.0 h.number_x, subst (λ (w : List ℕ). IsNumber w placed.at.y) texts.1.0 h.number_y)

-- the place of a body that is read is the one
pub placed_at : (l : Level) → NumbersPass l Numbers → (placed : Placed) (items : List (List ℕ)) (t u v : List ℕ) (at : Cell) → items ≡ t ∷ (u ∷ (v ∷ [])) → IsNumber t at.x → IsNumber u at.y
    → IsPlacedBody l placed items → IsBodyAt l v at placed.body
placed_at l pass placed items t u v at e x y h =
    let texts = placed_texts l placed items t u v e h in
    let same_x = one_number t placed.at.x at.x (subst (λ (w : List ℕ). IsNumber w placed.at.x) texts.0 (pass _ _ h.number_x)) x in
    let same_y = one_number u placed.at.y at.y (subst (λ (w : List ℕ). IsNumber w placed.at.y) texts.1.0 (pass _ _ h.number_y)) y in
    let same : placed.at ≡ at = λ i. record { y = same_y i; x = same_x i } in
    subst (λ (c : Cell). IsBodyAt l v c placed.body) same (subst (λ (w : List ℕ). IsBodyAt l w placed.at placed.body) texts.1.1 h.body_is)

pub bodies_same : NumbersPass Bodies Numbers
bodies_same text z h = h

pub whole_same : NumbersPass Whole Numbers
whole_same text z h = h

-- what is wrong in the body is wrong in `X Y BODY`
pub placed_error : (items : List (List ℕ)) (t u v : List ℕ) (at : Cell) → items ≡ t ∷ (u ∷ (v ∷ [])) → HaveNoColon items → IsNumber t at.x → IsNumber u at.y
    → (e : LineError) → IsErrorOf (λ level body. IsBodyAt level v at body) e → IsErrorOf (λ level (placed : Placed). IsPlacedBody level placed items) e
placed_error items t u v at e free x y (Fault fault.Version) h = h
placed_error items t u v at e free x y (Fault fault.Word) h = h
placed_error items t u v at e free x y (Fault fault.Form) h = absurd (h (TooMany 0) (subst HaveNoColon e free).1.1.0)
placed_error items t u v at e free x y (Fault fault.Number) h = absurd (h.no_farther (TooMany 0) (subst HaveNoColon e free).1.1.0)
placed_error items t u v at e free x y (Fault fault.Body) h = record {
  value = record { at = at; body = h.value };
  so_far = record { text_x = t; text_y = u; word = v; items_are = e; number_x = x; number_y = y; body_is = h.so_far };
  no_farther = λ p k. h.no_farther p.body (placed_at Bodies bodies_same p items t u v at e x y k);
}
placed_error items t u v at e free x y (Fault fault.Empty) h = record {
  value = record { at = at; body = h.value };
  so_far = record { text_x = t; text_y = u; word = v; items_are = e; number_x = x; number_y = y; body_is = h.so_far };
  no_farther = λ p k. h.no_farther p.body (placed_at Whole whole_same p items t u v at e x y k);
}
placed_error items t u v at e free x y Memory h = tt

-- ---- lines that are one part

pub body_up : (items : List (List ℕ)) (word : List ℕ) (at : Cell) → at ≡ cell (pos 0) (pos 0) → items ≡ word ∷ [] → (l : Level) (body : Body) → IsBodyAt l word at body → IsBody l body items
body_up items word at z e l body h = record { word = word; items_are = e; body_is = subst (λ (c : Cell). IsBodyAt l word c body) z h }

pub body_down : (items : List (List ℕ)) (word : List ℕ) (at : Cell) → at ≡ cell (pos 0) (pos 0) → items ≡ word ∷ [] → (l : Level) (body : Body) → IsBody l body items → IsBodyAt l word at body
body_down items word at z e l body h =
    let f = h.items_are in
    let same : h.word ≡ word = cc in
    subst (λ (c : Cell). IsBodyAt l word c body) (sym z) (subst (λ (w : List ℕ). IsBodyAt l w (cell (pos 0) (pos 0)) body) same h.body_is)

pub elbow_up : (items : List (List ℕ)) (name : List ℕ) (behind : List (List ℕ)) → items ≡ name ∷ behind → IsName name → (l : Level) (placed : Placed) → IsPlacedBody l placed behind
    → (elbow : ElbowLine) × IsElbowLine l elbow items
elbow_up items name behind e n l placed h = (record { name = name; placed = placed }, record { behind = behind; items_are = e; name_is = n; placed_is = h })

pub elbow_down : (items : List (List ℕ)) (name : List ℕ) (behind : List (List ℕ)) → items ≡ name ∷ behind → (l : Level) (elbow : ElbowLine) → IsElbowLine l elbow items
    → (placed : Placed) × IsPlacedBody l placed behind
elbow_down items name behind e l elbow h =
    let f = h.items_are in
    let same : h.behind ≡ behind = cc in
    (elbow.placed, subst (λ (ts : List (List ℕ)). IsPlacedBody l elbow.placed ts) same h.placed_is)

pub product_up : (items : List (List ℕ)) (l : Level) (placed : Placed) → IsPlacedBody l placed items → (product : Option Placed) × IsProduct l product items
product_up items l placed h = (Some placed, h)

pub product_down : (items : List (List ℕ)) → items ≢ codes "none" ∷ [] → (l : Level) (product : Option Placed) → IsProduct l product items → (placed : Placed) × IsPlacedBody l placed items
product_down items other l None h = absurd (other h)
product_down items other l (Some placed) h = (placed, h)

pub hand_down : (items : List (List ℕ)) → items ≢ codes "none" ∷ [] → (l : Level) (hand : Option Cell) → IsHand l hand items → (c : Cell) × IsPair l c items
hand_down items other l None h = absurd (other h)
hand_down items other l (Some c) h = (c, h)

-- ---- steps of turns

-- the texts of `KIND SHIFT N`
pub next_kind_texts : (l : Level) (items : List (List ℕ)) (kind t u : List ℕ) (more : List (List ℕ)) → items ≡ kind ∷ (t ∷ (u ∷ more)) → (k : List ℕ) (shift n : ℤ) (rest : List (List ℕ)) → (h : IsNextKind l k shift n items rest)
    → (k ≡ kind) × ((h.text_shift ≡ t) × ((h.text_n ≡ u) × (rest ≡ more)))
next_kind_texts l items kind t u more e k shift n rest h = let f = h.items_are in (cc, (cc, (cc, cc)))

pub next_kind_form : (items : List (List ℕ)) (kind t u : List ℕ) (more : List (List ℕ)) → items ≡ kind ∷ (t ∷ (u ∷ more)) → IsName kind → MayStand t → MayStand u → IsNextKind Form kind (pos 0) (pos 0) items more
next_kind_form items kind t u more e n h k = record { text_shift = t; text_n = u; items_are = e; name_is = n; number_shift = h; number_n = k }

pub next_kind_stands : (items : List (List ℕ)) (kind t u : List ℕ) (more : List (List ℕ)) → items ≡ kind ∷ (t ∷ (u ∷ more)) → (k : List ℕ) (shift n : ℤ) (rest : List (List ℕ)) → IsNextKind Form k shift n items rest
    → MayStand t × MayStand u
next_kind_stands items kind t u more e k shift n rest h =
    let texts = next_kind_texts Form items kind t u more e k shift n rest h in
    (subst MayStand texts.1.0 h.number_shift, subst MayStand texts.1.1.0 h.number_n)

pub next_kind_numbers : (items : List (List ℕ)) (kind t u : List ℕ) (more : List (List ℕ)) → items ≡ kind ∷ (t ∷ (u ∷ more)) → (k : List ℕ) (shift n : ℤ) (rest : List (List ℕ)) → IsNextKind Numbers k shift n items rest
    → IsNumber t shift × IsNumber u n
next_kind_numbers items kind t u more e k shift n rest h =
    let texts = next_kind_texts Numbers items kind t u more e k shift n rest h in
    (subst (λ (w : List ℕ). IsNumber w shift) texts.1.0 h.number_shift, subst (λ (w : List ℕ). IsNumber w n) texts.1.1.0 h.number_n)

-- moves
pub move_form : (items : List (List ℕ)) (kind t u : List ℕ) (more : List (List ℕ)) → items ≡ kind ∷ (t ∷ (u ∷ more)) → IsName kind → more ≡ [] → MayStand t → MayStand u
    → (end : NamedEnd) × ((n : ℤ) × IsMove Form end n items)
move_form items kind t u more e n none h k = (Move kind (pos 0), (pos 0, subst (λ (rest : List (List ℕ)). IsNextKind Form kind (pos 0) (pos 0) items rest) none (next_kind_form items kind t u more e n h k)))

pub move_shown : (items : List (List ℕ)) (kind t u : List ℕ) (more : List (List ℕ)) → items ≡ kind ∷ (t ∷ (u ∷ more)) → (end : NamedEnd) (n : ℤ) → IsMove Form end n items
    → (more ≡ []) × (MayStand t × MayStand u)
move_shown items kind t u more e Close n h = absurd h
move_shown items kind t u more e (Move k shift) n h =
    (sym (next_kind_texts Form items kind t u more e k shift n [] h).1.1.1, next_kind_stands items kind t u more e k shift n [] h)
move_shown items kind t u more e (Emit k shift lane j) n h = absurd h

pub move_numbers : (items : List (List ℕ)) (kind t u : List ℕ) (more : List (List ℕ)) → items ≡ kind ∷ (t ∷ (u ∷ more)) → (end : NamedEnd) (n : ℤ) → IsMove Numbers end n items
    → (more ≡ []) × ((shift : ℤ) × (IsNumber t shift × IsNumber u n))
move_numbers items kind t u more e Close n h = absurd h
move_numbers items kind t u more e (Move k shift) n h =
    (sym (next_kind_texts Numbers items kind t u more e k shift n [] h).1.1.1, (shift, next_kind_numbers items kind t u more e k shift n [] h))
move_numbers items kind t u more e (Emit k shift lane j) n h = absurd h

-- throws
pub emit_form : (items : List (List ℕ)) (kind t u : List ℕ) (more : List (List ℕ)) → items ≡ kind ∷ (t ∷ (u ∷ more)) → IsName kind → ((c : Cell) × IsPair Form c more) → MayStand t → MayStand u
    → (end : NamedEnd) × ((n : ℤ) × IsEmit Form end n items)
emit_form items kind t u more e n pair h k = (Emit kind (pos 0) pair.0.x pair.0.y, (pos 0, (more, (next_kind_form items kind t u more e n h k, pair.1))))

pub emit_shown : (items : List (List ℕ)) (kind t u : List ℕ) (more : List (List ℕ)) → items ≡ kind ∷ (t ∷ (u ∷ more)) → (end : NamedEnd) (n : ℤ) → IsEmit Form end n items
    → ((c : Cell) × IsPair Form c more) × (MayStand t × MayStand u)
emit_shown items kind t u more e Close n h = absurd h
emit_shown items kind t u more e (Move k shift) n h = absurd h
emit_shown items kind t u more e (Emit k shift lane j) n h =
    let texts = next_kind_texts Form items kind t u more e k shift n h.0 h.1.0 in
    ((cell lane j, subst (λ (ts : List (List ℕ)). IsPair Form (cell lane j) ts) texts.1.1.1 h.1.1), next_kind_stands items kind t u more e k shift n h.0 h.1.0)

pub emit_numbers : (items : List (List ℕ)) (kind t u : List ℕ) (more : List (List ℕ)) → items ≡ kind ∷ (t ∷ (u ∷ more)) → (end : NamedEnd) (n : ℤ) → IsEmit Numbers end n items
    → ((c : Cell) × IsPair Numbers c more) × ((shift : ℤ) × (IsNumber t shift × IsNumber u n))
emit_numbers items kind t u more e Close n h = absurd h
emit_numbers items kind t u more e (Move k shift) n h = absurd h
emit_numbers items kind t u more e (Emit k shift lane j) n h =
    let texts = next_kind_texts Numbers items kind t u more e k shift n h.0 h.1.0 in
    ((cell lane j, subst (λ (ts : List (List ℕ)). IsPair Numbers (cell lane j) ts) texts.1.1.1 h.1.1), (shift, next_kind_numbers items kind t u more e k shift n h.0 h.1.0))

-- ---- what a turn leaves, by its word

pub close_down : (l : Level) (items behind : List (List ℕ)) → items ≡ codes "close" ∷ behind → (end : NamedEnd) (n : ℤ) → IsEnding l end n items → IsOneNumber l n behind
close_down l items behind e Close n h = let f = h.1.0 in let same : h.0 ≡ behind = cc in subst (λ (ts : List (List ℕ)). IsOneNumber l n ts) same h.1.1
close_down l items behind e (Move kind shift) n h = let f = h.1.0 in let word : codes "close" ≡ codes "move" = cc in let sizes = ap length word in absurd (omega arith)
close_down l items behind e (Emit kind shift lane j) n h = let f = h.1.1.0 in let word : codes "close" ≡ codes "emit" = cc in let sizes = ap length word in absurd (omega arith)

move_emit : codes "move" ≡ codes "emit" → ⊥
move_emit e = let first = heads 109 101 _ _ e in omega arith

pub move_down : (l : Level) (items behind : List (List ℕ)) → items ≡ codes "move" ∷ behind → (end : NamedEnd) (n : ℤ) → IsEnding l end n items → IsMove l end n behind
move_down l items behind e Close n h = let f = h.1.0 in let word : codes "close" ≡ codes "move" = cc in let sizes = ap length word in absurd (omega arith)
move_down l items behind e (Move kind shift) n h = let f = h.1.0 in let same : h.0 ≡ behind = cc in subst (λ (ts : List (List ℕ)). IsNextKind l kind shift n ts []) same h.1.1
move_down l items behind e (Emit kind shift lane j) n h = let f = h.1.1.0 in absurd (move_emit (cc))

pub move_up : (l : Level) (items behind : List (List ℕ)) → items ≡ codes "move" ∷ behind → (end : NamedEnd) (n : ℤ) → IsMove l end n behind → IsEnding l end n items
move_up l items behind e Close n h = absurd h
move_up l items behind e (Move kind shift) n h = (behind, (e, h))
move_up l items behind e (Emit kind shift lane j) n h = absurd h

pub emit_down : (l : Level) (items behind : List (List ℕ)) → items ≡ codes "emit" ∷ behind → (end : NamedEnd) (n : ℤ) → IsEnding l end n items → IsEmit l end n behind
emit_down l items behind e Close n h = let f = h.1.0 in let word : codes "close" ≡ codes "emit" = cc in let sizes = ap length word in absurd (omega arith)
emit_down l items behind e (Move kind shift) n h = let f = h.1.0 in absurd (move_emit (cc))
emit_down l items behind e (Emit kind shift lane j) n h =
    let f = h.1.1.0 in
    let same : h.0 ≡ behind = cc in
    (h.1.0, (subst (λ (ts : List (List ℕ)). IsNextKind l kind shift n ts h.1.0) same h.1.1.1.0, h.1.1.1.1))

pub emit_up : (l : Level) (items behind : List (List ℕ)) → items ≡ codes "emit" ∷ behind → (end : NamedEnd) (n : ℤ) → IsEmit l end n behind → IsEnding l end n items
emit_up l items behind e Close n h = absurd h
emit_up l items behind e (Move kind shift) n h = absurd h
emit_up l items behind e (Emit kind shift lane j) n h = (behind, (h.0, (e, (h.1.0, h.1.1))))

-- a list that begins with another word says nothing that a turn leaves
pub no_ending : (l : Level) (items : List (List ℕ)) (word : List ℕ) (behind : List (List ℕ)) → items ≡ word ∷ behind → word ≢ codes "close" → word ≢ codes "move" → word ≢ codes "emit"
    → (end : NamedEnd) (n : ℤ) → IsEnding l end n items → ⊥
no_ending l items word behind e a b d Close n h = let f = h.1.0 in a (cc)
no_ending l items word behind e a b d (Move kind shift) n h = let f = h.1.0 in b (cc)
no_ending l items word behind e a b d (Emit kind shift lane j) n h = let f = h.1.1.0 in d (cc)
