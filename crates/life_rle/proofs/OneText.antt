-- A text is refused for one reason.
use Rattle.std.proofs.Common.{◌≡◌, ◌≢◌, ℕ, ◌+◌, ◌<◌, ◌⊎◌, false, List, [], ◌∷◌, ◌++◌, length, refl, sym, ap, ◌∙◌, subst, inl, inr, arith}
use Rattle.std.specs.List.{AllByRecursion}
use Rattle.std.specs.Str.Lines.{lines}
use Rattle.life_cells.specs.declared.cell.Cell.{Cell}
use Rattle.rle_items.specs.declared.item.Item.{Item}
use Rattle.rle_items.specs.declared.error.BodyError.{BodyError}
use Rattle.rle_items.specs.declared.error.BodyError.TheVariants as item
use Rattle.rle_items.specs.Spelling.{IsWhite}
use Rattle.rle_items.specs.Reach.{IsInReach}
use Rattle.rle_items.specs.ItemFaults.{ItemsStopWith, IsForLimit as IsForItemLimit}
use Rattle.rle_items.specs.ItemLaws.{reach_of_none}
use Rattle.rle_items.specs.SpellingLaws.{white_kind}
use Rattle.rle_items.specs.OneReadingLaws.{one_items_refusal, fine_items_are_read, said_items_are_limited}
use Rattle.text_lines.specs.Lines.{first_line, behind}
use Rattle.text_lines.specs.Blanks.{IsPassedOver}
use Rattle.text_lines.specs.LineLaws.{lines_step}
use Rattle.life_rle.specs.declared.error.RleError.{RleError}
use Rattle.life_rle.specs.declared.error.RleError.TheVariants.{NoHeader, BadHeader, BadRule, BadItem, BadCount, NoEnd, TooFar, TooMany, Memory}
use Rattle.life_rle.specs.Comments.{blanked}
use Rattle.life_rle.specs.Header.{HasHeaderForm, IsHeader}
use Rattle.life_rle.specs.Text.{gives_place, IsAtHeader, HasBody, Says}
use Rattle.life_rle.specs.TextFaults.{of_items, HasBadHeader, HasBadRule, HasFarPlace, HasPlaceLine, IsFineText, BodyStopsWith, TextStopsWith, IsForLimit}
use Rattle.life_rle.proofs.Headers.{form_of_header}
use Rattle.life_rle.proofs.Lined.{one_rest, lines_split}
use Rattle.life_rle.proofs.OneMeaning.{one_head, one_body}

-- ---- the header

some_line : (rest : List ℕ) → ¬ IsPassedOver (first_line rest) → 0 < length rest
some_line [] other = absurd (other (inr tt))
some_line (b ∷ rest) other = omega arith

within_all : (P : List ℕ → Type 0) (head : List (List ℕ)) (line : List ℕ) (more : List (List ℕ)) → AllByRecursion P (head ++ (line ∷ more)) → P line
within_all P [] line more h = h.0
within_all P (l ∷ head) line more h = within_all P head line more h.1

no_header_within : (text : List ℕ) (head : List (List ℕ)) (rest : List ℕ) → AllByRecursion IsPassedOver (lines text) → IsAtHeader text head rest → ⊥
no_header_within text head rest all h =
    let whole : lines text ≡ head ++ (first_line rest ∷ lines (behind rest)) = lines_split text head rest h.lines_are ∙ ap (λ (ls : List (List ℕ)). head ++ ls) (lines_step rest (some_line rest h.other)) in
    h.other (within_all IsPassedOver head (first_line rest) (lines (behind rest)) (subst (λ (ls : List (List ℕ)). AllByRecursion IsPassedOver ls) whole all))

one_place_line : (text : List ℕ) (at there : ℕ) → HasPlaceLine text at → HasPlaceLine text there → at ≡ there
one_place_line text at there p q =
    let same = one_rest (λ line. gives_place line ≡ false) text p.before q.before p.rest q.rest p.lines_are q.lines_are p.others q.others (λ h. (let g = p.gives in cc)) (λ h. (let g = q.gives in cc)) in
    let left = p.place in
    let right = q.place in
    omega (arith, ap length same.rests)

far_or_near : (text : List ℕ) (at : ℕ) (e : BodyError) → HasFarPlace text at → BodyStopsWith text e → ⊥
far_or_near text at e p q =
    let same = one_body text p.place q.place p.body q.body p.has_body q.has_body in
    p.far (subst IsInReach (sym same.0) (reach_of_none q.place (q.stops.read.fine.near [] q.stops.items refl)))

one_body_refusal : (text : List ℕ) (e f : BodyError) → BodyStopsWith text e → BodyStopsWith text f → e ≢ item.Memory → f ≢ item.Memory → e ≡ f
one_body_refusal text e f p q some other =
    let same = one_body text p.place q.place p.body q.body p.has_body q.has_body in
    one_items_refusal IsWhite white_kind text q.place (blanked q.body) e f
    (subst (λ (body : List ℕ). ItemsStopWith IsWhite text q.place (blanked body) e) same.1 (subst (λ (place : Cell). ItemsStopWith IsWhite text place (blanked p.body) e) same.0 p.stops)) q.stops some other

-- ---- where a refusal comes from

record IsOfNoHeader (text : List ℕ) (e : RleError) : Type 0 where
  all : AllByRecursion IsPassedOver (lines text)
  is : e ≡ NoHeader

abbrev TellsHeader : List ℕ → ℕ → RleError → Type 0
TellsHeader line number e = ((e ≡ BadHeader number) × ¬ HasHeaderForm line) ⊎ ((e ≡ BadRule number) × HasHeaderForm line)

record IsOfHeader (text : List ℕ) (e : RleError) : Type 0 where
  head : List (List ℕ)
  rest : List ℕ
  at_header : IsAtHeader text head rest
  other : ¬ IsHeader (first_line rest)
  is : TellsHeader (first_line rest) (length head + 1) e

record IsOfPlace (text : List ℕ) (e : RleError) : Type 0 where
  at : ℕ
  far : HasFarPlace text at
  is : e ≡ TooFar at

record IsOfItems (text : List ℕ) (e : RleError) : Type 0 where
  fault : BodyError
  some : fault ≢ item.Memory
  stops : BodyStopsWith text fault
  is : e ≡ of_items fault

abbrev IsOf : List ℕ → RleError → Type 0
IsOf text e = IsOfNoHeader text e ⊎ (IsOfHeader text e ⊎ (IsOfPlace text e ⊎ IsOfItems text e))

of_bad_header : (text : List ℕ) (line : ℕ) → HasBadHeader text line → IsOfHeader text (BadHeader line)
of_bad_header text line h = record {
  head = h.head;
  rest = h.rest;
  at_header = h.at_header;
  other = λ header. h.other (form_of_header (first_line h.rest) header);
  is = inl (ap BadHeader h.number, h.other);
}

of_bad_rule : (text : List ℕ) (line : ℕ) → HasBadRule text line → IsOfHeader text (BadRule line)
of_bad_rule text line h = record { head = h.head; rest = h.rest; at_header = h.at_header; other = h.other; is = inr (ap BadRule h.number, h.form) }

sorted : (text : List ℕ) (e : RleError) → e ≢ Memory → TextStopsWith text e → IsOf text e
sorted text NoHeader some h = inl (record { all = h; is = refl })
sorted text (BadHeader line) some h = inr (inl (of_bad_header text line h))
sorted text (BadRule line) some h = inr (inl (of_bad_rule text line h))
sorted text (TooFar at) some (inl h) = inr (inr (inl (record { at = at; far = h; is = refl })))
sorted text (TooFar at) some (inr h) = inr (inr (inr (record { fault = item.TooFar at; some = λ e. cc; stops = h; is = refl })))
sorted text (BadItem at) some h = inr (inr (inr (record { fault = item.BadItem at; some = λ e. cc; stops = h; is = refl })))
sorted text (BadCount at) some h = inr (inr (inr (record { fault = item.BadCount at; some = λ e. cc; stops = h; is = refl })))
sorted text NoEnd some h = inr (inr (inr (record { fault = item.NoEnd; some = λ e. cc; stops = h; is = refl })))
sorted text (TooMany count) some h = inr (inr (inr (record { fault = item.TooMany count; some = λ e. cc; stops = h; is = refl })))
sorted text Memory some h = absurd (some refl)

one_header : (line : List ℕ) (number : ℕ) (e f : RleError) → TellsHeader line number e → TellsHeader line number f → e ≡ f
one_header line number e f (inl p) (inl q) = p.0 ∙ sym q.0
one_header line number e f (inl p) (inr q) = absurd (p.1 q.1)
one_header line number e f (inr p) (inl q) = absurd (q.1 p.1)
one_header line number e f (inr p) (inr q) = p.0 ∙ sym q.0

one_header_refusal : (text : List ℕ) (e f : RleError) → IsOfHeader text e → IsOfHeader text f → e ≡ f
one_header_refusal text e f p q =
    let same = one_head text p.head q.head p.rest q.rest p.at_header q.at_header in
    let is : TellsHeader (first_line q.rest) (length q.head + 1) e =
    subst (λ (bs : List ℕ). TellsHeader (first_line bs) (length q.head + 1) e) same.rests (subst (λ (ls : List (List ℕ)). TellsHeader (first_line p.rest) (length ls + 1) e) same.heads p.is) in
    one_header (first_line q.rest) (length q.head + 1) e f is q.is

header_or_body : (text : List ℕ) (e : RleError) (place : Cell) (body : List ℕ) → IsOfHeader text e → HasBody text place body → ⊥
header_or_body text e place body p q =
    let same = one_head text p.head q.head p.rest q.rest p.at_header q.at_header in
    p.other (subst (λ (bs : List ℕ). IsHeader (first_line bs)) (sym same.rests) q.header)

-- ---- the laws

same_refusal : (text : List ℕ) (e f : RleError) → e ≢ Memory → f ≢ Memory → IsOf text e → IsOf text f → e ≡ f
same_refusal text e f some other (inl p) (inl q) = p.is ∙ sym q.is
same_refusal text e f some other (inl p) (inr (inl q)) = absurd (no_header_within text q.head q.rest p.all q.at_header)
same_refusal text e f some other (inl p) (inr (inr (inl q))) = absurd (no_header_within text q.far.has_body.head q.far.has_body.rest p.all q.far.has_body.at_header)
same_refusal text e f some other (inl p) (inr (inr (inr q))) = absurd (no_header_within text q.stops.has_body.head q.stops.has_body.rest p.all q.stops.has_body.at_header)
same_refusal text e f some other (inr (inl p)) (inl q) = absurd (no_header_within text p.head p.rest q.all p.at_header)
same_refusal text e f some other (inr (inl p)) (inr (inl q)) = one_header_refusal text e f p q
same_refusal text e f some other (inr (inl p)) (inr (inr (inl q))) = absurd (header_or_body text e q.far.place q.far.body p q.far.has_body)
same_refusal text e f some other (inr (inl p)) (inr (inr (inr q))) = absurd (header_or_body text e q.stops.place q.stops.body p q.stops.has_body)
same_refusal text e f some other (inr (inr (inl p))) (inl q) = absurd (no_header_within text p.far.has_body.head p.far.has_body.rest q.all p.far.has_body.at_header)
same_refusal text e f some other (inr (inr (inl p))) (inr (inl q)) = absurd (header_or_body text f p.far.place p.far.body q p.far.has_body)
same_refusal text e f some other (inr (inr (inl p))) (inr (inr (inl q))) = p.is ∙ ap TooFar (one_place_line text p.at q.at p.far.line q.far.line) ∙ sym q.is
same_refusal text e f some other (inr (inr (inl p))) (inr (inr (inr q))) = absurd (far_or_near text p.at q.fault p.far q.stops)
same_refusal text e f some other (inr (inr (inr p))) (inl q) = absurd (no_header_within text p.stops.has_body.head p.stops.has_body.rest q.all p.stops.has_body.at_header)
same_refusal text e f some other (inr (inr (inr p))) (inr (inl q)) = absurd (header_or_body text f p.stops.place p.stops.body q p.stops.has_body)
same_refusal text e f some other (inr (inr (inr p))) (inr (inr (inl q))) = absurd (far_or_near text q.at p.fault q.far p.stops)
same_refusal text e f some other (inr (inr (inr p))) (inr (inr (inr q))) = p.is ∙ ap of_items (one_body_refusal text p.fault q.fault p.stops q.stops p.some q.some) ∙ sym q.is

pub one_text_refusal : (text : List ℕ) (e f : RleError) → TextStopsWith text e → TextStopsWith text f → e ≢ Memory → f ≢ Memory → e ≡ f
one_text_refusal text e f p q some other = same_refusal text e f some other (sorted text e some p) (sorted text f other q)

-- the reading that a text has stops at the same body
stops_at : (text : List ℕ) (e : BodyError) (place : Cell) (body : List ℕ) → HasBody text place body → BodyStopsWith text e → ItemsStopWith IsWhite text place (blanked body) e
stops_at text e place body h p =
    let same = one_body text p.place place p.body body p.has_body h in
    subst (λ (body : List ℕ). ItemsStopWith IsWhite text place (blanked body) e) same.1 (subst (λ (place : Cell). ItemsStopWith IsWhite text place (blanked p.body) e) same.0 p.stops)

no_refusal : (text : List ℕ) (e : RleError) → IsFineText text → IsOf text e → e ≢ Memory → ⊥
no_refusal text e fine (inl p) some = let h = fine.says.has_body in no_header_within text h.head h.rest p.all h.at_header
no_refusal text e fine (inr (inl p)) some = header_or_body text e fine.place fine.says.body p fine.says.has_body
no_refusal text e fine (inr (inr (inl p))) some =
    let same = one_body text p.far.place fine.place p.far.body fine.says.body p.far.has_body fine.says.has_body in
    p.far.far (subst IsInReach (sym same.0) (reach_of_none fine.place (fine.fine.near [] fine.items refl)))
no_refusal text e fine (inr (inr (inr p))) some =
    let says = fine.says in
    fine_items_are_read IsWhite white_kind text fine.place (blanked says.body) p.fault p.some (stops_at text p.fault fine.place says.body says.has_body p.stops) fine.items says.written says.gap says.ignored says.gap_is says.body_is says.items_are fine.fine

pub fine_text_or_refused : (text : List ℕ) (e : RleError) → IsFineText text → TextStopsWith text e → e ≢ Memory → ⊥
fine_text_or_refused text e fine p some = no_refusal text e fine (sorted text e some p) some

limit_of_items : (e : BodyError) → IsForItemLimit e → IsForLimit (of_items e)
limit_of_items (item.BadItem at) h = h
limit_of_items (item.BadCount at) h = h
limit_of_items item.NoEnd h = h
limit_of_items (item.TooFar at) h = tt
limit_of_items (item.TooMany count) h = tt
limit_of_items item.Memory h = tt

said_or_limited : (text : List ℕ) (place : Cell) (items : List Item) (e : RleError) → Says text place items → IsOf text e → e ≢ Memory → IsForLimit e
said_or_limited text place items e says (inl p) some = let h = says.has_body in absurd (no_header_within text h.head h.rest p.all h.at_header)
said_or_limited text place items e says (inr (inl p)) some = absurd (header_or_body text e place says.body p says.has_body)
said_or_limited text place items e says (inr (inr (inl p))) some = subst IsForLimit (sym p.is) tt
said_or_limited text place items e says (inr (inr (inr p))) some =
    subst IsForLimit (sym p.is)
    (limit_of_items p.fault
    (said_items_are_limited IsWhite white_kind text place (blanked says.body) p.fault p.some (stops_at text p.fault place says.body says.has_body p.stops) items says.written says.gap says.ignored says.gap_is says.body_is says.items_are))

limited_if_said : (text : List ℕ) (place : Cell) (items : List Item) (e : RleError) → e ≢ Memory → Says text place items → TextStopsWith text e → IsForLimit e
limited_if_said text place items e some says p = said_or_limited text place items e says (sorted text e some p) some

pub said_for_limit : (text : List ℕ) (place : Cell) (items : List Item) (e : RleError) → Says text place items → TextStopsWith text e → IsForLimit e
said_for_limit text place items NoHeader says p = limited_if_said text place items NoHeader (λ e. cc) says p
said_for_limit text place items (BadHeader line) says p = limited_if_said text place items (BadHeader line) (λ e. cc) says p
said_for_limit text place items (BadRule line) says p = limited_if_said text place items (BadRule line) (λ e. cc) says p
said_for_limit text place items (BadItem at) says p = limited_if_said text place items (BadItem at) (λ e. cc) says p
said_for_limit text place items (BadCount at) says p = limited_if_said text place items (BadCount at) (λ e. cc) says p
said_for_limit text place items NoEnd says p = limited_if_said text place items NoEnd (λ e. cc) says p
said_for_limit text place items (TooFar at) says p = tt
said_for_limit text place items (TooMany count) says p = tt
said_for_limit text place items Memory says p = tt
