-- What is stated as far as one level looks is stated as far as another does.
use Rattle.std.proofs.Common.{◌≡◌, ◌≢◌, ℕ, ◌+◌, ℤ, List, [], ◌∷◌, ◌++◌, length, codes, suc, inl, inr, true, Option, Some, None, sym, ap, ◌∙◌, subst, arith}
use Rattle.std.specs.List.{AllZip}
use Rattle.std.specs.Str.{all_ascii_digits}
use Rattle.std.proofs.lemmas.Bool.{false≢true}
use Rattle.std.proofs.lemmas.List.{length-append, append_assoc}
use Rattle.life_plane.specs.Plane.{Plane}
use Rattle.life_cells.specs.declared.cell.Cell.{Cell}
use Rattle.rle_items.specs.declared.error.BodyError.TheVariants as refusal
use Rattle.rle_items.specs.declared.item.Tag.{Tag}
use Rattle.rle_items.specs.Spelling.{IsNone, tag_of}
use Rattle.rle_items.specs.SpellingLaws.{tag_behind}
use Rattle.rle_items.specs.Words.{WordMeans}
use Rattle.rle_items.specs.Faults.{StopsWith}
use Rattle.book_lines.specs.declared.statement.Body.{Body}
use Rattle.book_lines.specs.declared.statement.Body.TheVariants.{Drawn, TooMany}
use Rattle.book_lines.specs.declared.statement.Placed.{Placed}
use Rattle.book_lines.specs.declared.statement.SettingLine.{SettingLine}
use Rattle.book_lines.specs.declared.statement.NamedEnd.{NamedEnd}
use Rattle.book_lines.specs.declared.statement.NamedEnd.TheVariants.{Close, Move, Emit}
use Rattle.book_lines.specs.declared.statement.TurnLine.{TurnLine}
use Rattle.book_lines.specs.declared.statement.SalvoLine.{SalvoLine}
use Rattle.book_lines.specs.declared.statement.Statement.{Statement}
use Rattle.book_lines.specs.declared.statement.Statement.TheVariants.{Setting, Hand, Elbow, Start, Turn, Salvo}
use Rattle.book_lines.specs.Values.{Level, IsNumber, IsNumberAt, AreNumbersAt, Draws, IsBodyAt}
use Rattle.book_lines.specs.Values.Level.{Form, Numbers, Bodies}
use Rattle.book_lines.specs.Forms.{IsOneNumber, IsPair, IsSettingLine, IsBody, IsPlacedBody, IsNextKind, IsEnding, IsTurnLine, IsProduct, IsHand, IsSalvoLine}
use Rattle.book_lines.specs.Statements.{ItemsState, StatesAt}

-- numbers of the one level are numbers of the other
abbrev pub NumbersPass : Level → Level → Type 0
NumbersPass from to = (text : List ℕ) (z : ℤ) → IsNumberAt from text z → IsNumberAt to text z

-- and so are bodies
abbrev pub BodiesPass : Level → Level → Type 0
BodiesPass from to = (word : List ℕ) (at : Cell) (body : Body) → IsBodyAt from word at body → IsBodyAt to word at body

pub one_pass : (l m : Level) → NumbersPass l m → (z : ℤ) (items : List (List ℕ)) → IsOneNumber l z items → IsOneNumber m z items
one_pass l m f z items h = record { text = h.text; items_are = h.items_are; number = f _ _ h.number }

pub pair_pass : (l m : Level) → NumbersPass l m → (c : Cell) (items : List (List ℕ)) → IsPair l c items → IsPair m c items
pair_pass l m f c items h =
    record { text_x = h.text_x; text_y = h.text_y; items_are = h.items_are; number_x = f _ _ h.number_x; number_y = f _ _ h.number_y }

pub zip_pass : (l m : Level) → NumbersPass l m → (ts : List (List ℕ)) (zs : List ℤ) → AllZip (IsNumberAt l) ts zs → AllZip (IsNumberAt m) ts zs
zip_pass l m f [] [] h = tt
zip_pass l m f [] (z ∷ zs) h = h
zip_pass l m f (t ∷ ts) [] h = h
zip_pass l m f (t ∷ ts) (z ∷ zs) h = (f t z h.0, zip_pass l m f ts zs h.1)

pub numbers_pass : (l m : Level) → NumbersPass l m → (ts : List (List ℕ)) (zs : List ℤ) → AreNumbersAt l ts zs → AreNumbersAt m ts zs
numbers_pass l m f ts zs h = record { each = zip_pass l m f ts zs h.each; some = h.some }

pub setting_pass : (l m : Level) → NumbersPass l m → (s : SettingLine) (items : List (List ℕ)) → IsSettingLine l s items → IsSettingLine m s items
setting_pass l m f s items h = record { numbers_are = numbers_pass l m f items s.numbers h.numbers_are; count = h.count; order = h.order }

pub next_kind_pass : (l m : Level) → NumbersPass l m → (kind : List ℕ) (shift n : ℤ) (items more : List (List ℕ)) → IsNextKind l kind shift n items more → IsNextKind m kind shift n items more
next_kind_pass l m f kind shift n items more h = record {
  text_shift = h.text_shift;
  text_n = h.text_n;
  items_are = h.items_are;
  name_is = h.name_is;
  number_shift = f _ _ h.number_shift;
  number_n = f _ _ h.number_n;
}

pub ending_pass : (l m : Level) → NumbersPass l m → (end : NamedEnd) (n : ℤ) (items : List (List ℕ)) → IsEnding l end n items → IsEnding m end n items
ending_pass l m f Close n items h = (h.0, (h.1.0, one_pass l m f n h.0 h.1.1))
ending_pass l m f (Move kind shift) n items h = (h.0, (h.1.0, next_kind_pass l m f kind shift n h.0 [] h.1.1))
ending_pass l m f (Emit kind shift lane j) n items h =
    (h.0, (h.1.0, (h.1.1.0, (next_kind_pass l m f kind shift n h.0 h.1.0 h.1.1.1.0, pair_pass l m f _ h.1.0 h.1.1.1.1))))

abbrev pub turn_pass : (l m : Level) → NumbersPass l m → (turn : TurnLine) (items : List (List ℕ)) → IsTurnLine l turn items → IsTurnLine m turn items
turn_pass l m f turn items h = record {
  ending = h.ending;
  delays = h.delays;
  items_are = h.items_are;
  name_is = h.name_is;
  kind_is = h.kind_is;
  ending_is = ending_pass l m f turn.end turn.n h.ending h.ending_is;
  delays_are = numbers_pass l m f h.delays turn.delays h.delays_are;
}

pub hand_pass : (l m : Level) → NumbersPass l m → (hand : Option Cell) (items : List (List ℕ)) → IsHand l hand items → IsHand m hand items
hand_pass l m f None items h = h
hand_pass l m f (Some c) items h = pair_pass l m f c items h

pub body_pass : (l m : Level) → BodiesPass l m → (body : Body) (items : List (List ℕ)) → IsBody l body items → IsBody m body items
body_pass l m g body items h = record { word = h.word; items_are = h.items_are; body_is = g _ _ _ h.body_is }

pub placed_pass : (l m : Level) → NumbersPass l m → BodiesPass l m → (placed : Placed) (items : List (List ℕ)) → IsPlacedBody l placed items → IsPlacedBody m placed items
placed_pass l m f g placed items h = record {
  text_x = h.text_x;
  text_y = h.text_y;
  word = h.word;
  items_are = h.items_are;
  number_x = f _ _ h.number_x;
  number_y = f _ _ h.number_y;
  body_is = g _ _ _ h.body_is;
}

pub product_pass : (l m : Level) → NumbersPass l m → BodiesPass l m → (product : Option Placed) (items : List (List ℕ)) → IsProduct l product items → IsProduct m product items
product_pass l m f g None items h = h
product_pass l m f g (Some placed) items h = placed_pass l m f g placed items h

abbrev pub salvo_pass : (l m : Level) → NumbersPass l m → BodiesPass l m → (salvo : SalvoLine) (items : List (List ℕ)) → IsSalvoLine l salvo items → IsSalvoLine m salvo items
salvo_pass l m f g salvo items h = record {
  lanes = h.lanes;
  product = h.product;
  hand = h.hand;
  items_are = h.items_are;
  name_is = h.name_is;
  lanes_are = numbers_pass l m f h.lanes salvo.lanes h.lanes_are;
  product_is = product_pass l m f g salvo.product h.product h.product_is;
  hand_is = hand_pass l m f salvo.hand h.hand h.hand_is;
}

items_pass : (l m : Level) → NumbersPass l m → BodiesPass l m → (s : Statement) (items : List (List ℕ)) → ItemsState l s items → ItemsState m s items
items_pass l m f g (Setting s) items h = setting_pass l m f s items h
items_pass l m f g (Hand body) items h = body_pass l m g body items h
items_pass l m f g (Elbow elbow) items h =
    record { behind = h.behind; items_are = h.items_are; name_is = h.name_is; placed_is = placed_pass l m f g elbow.placed h.behind h.placed_is }
items_pass l m f g (Start name) items h = h
items_pass l m f g (Turn turn) items h = turn_pass l m f turn items h
items_pass l m f g (Salvo salvo) items h = salvo_pass l m f g salvo items h

pub states_pass : (l m : Level) → NumbersPass l m → BodiesPass l m → (line : List ℕ) (s : Statement) → StatesAt l line s → StatesAt m line s
states_pass l m f g line s h = record { items = h.items; words_are = h.words_are; items_are = items_pass l m f g s h.items h.items_are }

-- ---- `:` is neither a number nor a body

pub heads : (b c : ℕ) (bs cs : List ℕ) → b ∷ bs ≡ c ∷ cs → b ≡ c
heads b c bs cs e = cc

pub number_no_colon : (text : List ℕ) (z : ℤ) → IsNumber text z → text ≢ codes ":"
number_no_colon text z (inl h) e = false≢true (subst (λ (t : List ℕ). all_ascii_digits t ≡ true) e h.1.0.digits.digits)
number_no_colon text z (inr h) e = let first = heads 45 58 h.0 [] (sym h.1.1.0 ∙ e) in omega arith

pub meant_no_colon : (word : List ℕ) (s : Plane) → WordMeans word s → word ≢ codes ":"
meant_no_colon word s h e = ends h.written (sym h.whole ∙ e)
  where
    ends : (written : List ℕ) → written ++ (33 ∷ []) ≡ codes ":" → ⊥
    ends [] f = let first = heads 33 58 [] [] f in omega arith
    ends (b ∷ bs) f =
        let long : suc (length (bs ++ (33 ∷ []))) ≡ 1 = ap length f in
        let more = length-append bs (33 ∷ []) in
        omega arith

-- the last byte of a text of one
last_is : (xs : List ℕ) (tag : ℕ) (more : List ℕ) → xs ++ (tag ∷ more) ≡ codes ":" → tag ≡ 58
last_is [] tag more e = heads tag 58 more [] e
last_is (x ∷ xs) tag more e =
    let long : suc (length (xs ++ (tag ∷ more))) ≡ 1 = ap length e in
    let rest : length (xs ++ (tag ∷ more)) ≡ length xs + suc (length more) = length-append xs (tag ∷ more) in
    absurd (omega arith)

pub many_no_colon : (word : List ℕ) (count : ℕ) → StopsWith word (refusal.TooMany count) → word ≢ codes ":"
many_no_colon word count h e =
    let next = h.fault.next in
    let front : List ℕ = (next.at.past.gap ++ next.digits) ++ next.at.next.gap in
    let whole : (h.read.front ++ front) ++ (h.fault.tag ∷ h.fault.more) ≡ codes ":" =
    append_assoc h.read.front front (h.fault.tag ∷ h.fault.more) ∙ ap (λ (t : List ℕ). h.read.front ++ t) (sym (tag_behind IsNone h.rest h.fault.item h.fault.tag h.fault.more next)) ∙ sym h.read.split ∙ e in
    let tag = last_is (h.read.front ++ front) h.fault.tag h.fault.more whole in
    no_tag h.fault.item.tag (subst (λ (c : ℕ). tag_of c ≡ Some h.fault.item.tag) tag next.tag_is)
  where
    no_tag : (t : Tag) → tag_of 58 ≡ Some t → ⊥
    no_tag t f = cc f

pub drawn_no_colon : (word : List ℕ) (at : Cell) (body : Body) → Draws word at body → word ≢ codes ":"
drawn_no_colon word at (Drawn cells) h = meant_no_colon word h.1.0 h.1.1.0
drawn_no_colon word at (TooMany count) h = many_no_colon word count h

-- ---- what one level tells of another

pub numbers_form : NumbersPass Numbers Form
numbers_form text z h = number_no_colon text z h

pub bodies_form : BodiesPass Bodies Form
bodies_form word at body h = drawn_no_colon word at body h

pub bodies_numbers : BodiesPass Bodies Numbers
bodies_numbers word at body h = drawn_no_colon word at body h
