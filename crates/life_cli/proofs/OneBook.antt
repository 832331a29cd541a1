-- A book that passes its tests comes out of them as one book.
use Rattle.std.specs.Prelude.{◌≡◌, ℕ, ℤ, List, [], ◌∷◌, map}
use Rattle.std.specs.List.{AllByRecursion}
use Rattle.std.proofs.Common.{refl, sym, ap, subst, ◌∙◌}
use Rattle.life_plane.specs.Plane.{Plane}
use Rattle.life_cells.specs.Cells.{Cells, alive}
use Rattle.life_cells.specs.Laws.{same_cells}
use Rattle.book_parts.specs.declared.settings.Settings.{Settings}
use Rattle.book_parts.specs.declared.kind.RawKind.{RawKind}
use Rattle.book_parts.specs.declared.turn.RawTurn.{RawTurn}
use Rattle.book_parts.specs.declared.salvo.RawSalvo.{RawSalvo}
use Rattle.book_parts.specs.Kinds.{kind_plane, next_plane}
use Rattle.book_text.specs.Book.{Said}
use Rattle.recipe_turn.specs.Checked.{Checked, IsOf}
use Rattle.recipe_hit.specs.Checked.{Struck}
use Rattle.recipe_hit.specs.Sound.{AreHits}
use Rattle.recipe_hit.specs.declared.frame.Hit.{Hit}
use Rattle.recipe_book.specs.Checked.{CheckedEntries}
use Rattle.recipe_book.specs.Entries.{AreTheSound, AreTheSoundSalvos}
use Rattle.life_cli.specs.Book.{IsStruckAt, PassesTests}

-- two lists are one where they show the same, and what shows the same is the same
same_lists : {A B : Type 0} (shown : A → B) (P : A → Type 0) (xs ys : List A) → ((x y : A) → shown x ≡ shown y → P x → P y → x ≡ y) → map shown xs ≡ map shown ys →
    AllByRecursion P xs → AllByRecursion P ys → xs ≡ ys
same_lists shown P [] [] one same h k = refl
same_lists shown P [] (y ∷ ys) one same h k = absurd (cc)
same_lists shown P (x ∷ xs) [] one same h k = absurd (cc)
same_lists shown P (x ∷ xs) (y ∷ ys) one same h k =
    let first : shown x ≡ shown y = cc in
    let others : map shown xs ≡ map shown ys = cc in
    let head : x ≡ y = one x y first h.0 k.0 in
    let rest : xs ≡ ys = same_lists shown P xs ys one others h.1 k.1 in
    cc

one_turn : (settings : Settings) (kinds : List RawKind) (a b : Checked) → a.raw ≡ b.raw → IsOf settings kinds a → IsOf settings kinds b → a ≡ b
one_turn settings kinds a b raw h k =
    let under : a.settings ≡ b.settings = h.settings_are ∙ sym k.settings_are in
    let many : a.kinds ≡ b.kinds = h.kinds_are ∙ sym k.kinds_are in
    let kind : a.kind ≡ b.kind = same_cells a.kind b.kind (h.kind_is ∙ ap (λ (t : RawTurn). kind_plane kinds t.kind) raw ∙ sym k.kind_is) in
    let next : a.next ≡ b.next = same_cells a.next b.next (h.next_is ∙ ap (λ (t : RawTurn). next_plane kinds t.end) raw ∙ sym k.next_is) in
    ap (λ (t : RawTurn). record { raw = t; settings = a.settings; kinds = a.kinds; kind = a.kind; next = a.next }) raw
    ∙ ap (λ (s : Settings). record { raw = b.raw; settings = s; kinds = a.kinds; kind = a.kind; next = a.next }) under
    ∙ ap (λ (n : ℕ). record { raw = b.raw; settings = b.settings; kinds = n; kind = a.kind; next = a.next }) many
    ∙ ap (λ (c : Cells). record { raw = b.raw; settings = b.settings; kinds = b.kinds; kind = c; next = a.next }) kind
    ∙ ap (λ (c : Cells). record { raw = b.raw; settings = b.settings; kinds = b.kinds; kind = b.kind; next = c }) next

-- the lanes of a salvo have one list of hits
abbrev pub OneHits : Type 0
OneHits = (start : Plane) (lanes : List ℤ) (hits others : List Hit) → AreHits start lanes hits → AreHits start lanes others → hits ≡ others

one_salvo : OneHits → (hand : Cells) (a b : Struck) → a.raw ≡ b.raw → IsStruckAt hand a → IsStruckAt hand b → a ≡ b
one_salvo one hand a b raw h k =
    let at : a.hand ≡ b.hand = h.hand_is ∙ sym k.hand_is in
    let hits : a.hits ≡ b.hits = one (alive hand) b.raw.lanes a.hits b.hits (subst (λ (s : RawSalvo). AreHits (alive hand) s.lanes a.hits) raw h.hits_are) k.hits_are in
    ap (λ (s : RawSalvo). record { raw = s; hand = a.hand; hits = a.hits }) raw
    ∙ ap (λ (c : Cells). record { raw = b.raw; hand = c; hits = a.hits }) at
    ∙ ap (λ (hs : List Hit). record { raw = b.raw; hand = b.hand; hits = hs }) hits

-- the sound turns of a book are one list, and so are its sound salvos
abbrev pub OneTurns : Type 0
OneTurns = (settings : Settings) (kinds : List RawKind) (turns a b : List RawTurn) → AreTheSound settings kinds turns a → AreTheSound settings kinds turns b → a ≡ b

abbrev pub OneSalvos : Type 0
OneSalvos = (hand : Plane) (salvos a b : List RawSalvo) → AreTheSoundSalvos hand salvos a → AreTheSoundSalvos hand salvos b → a ≡ b

pub one_book : OneTurns → OneSalvos → OneHits → (said : Said) (a b : CheckedEntries) → PassesTests said a → PassesTests said b → a ≡ b
one_book one_turns one_salvos one_hits said a b h k =
    let settings : a.settings ≡ b.settings = h.settings ∙ sym k.settings in
    let kinds : a.kinds ≡ b.kinds = h.kinds ∙ sym k.kinds in
    let start : a.start ≡ b.start = h.start ∙ sym k.start in
    let hand : a.hand ≡ b.hand = h.hand ∙ sym k.hand in
    let turns : a.turns ≡ b.turns = same_lists (λ (t : Checked). t.raw) (IsOf said.settings said.kinds) a.turns b.turns (one_turn said.settings said.kinds)
    (one_turns said.settings said.kinds said.turns _ _ h.turns k.turns) h.own_turns k.own_turns in
    let salvos : a.salvos ≡ b.salvos = same_lists (λ (s : Struck). s.raw) (IsStruckAt said.hand) a.salvos b.salvos (one_salvo one_hits said.hand)
    (one_salvos (alive said.hand) said.salvos _ _ h.salvos k.salvos) h.own_salvos k.own_salvos in
    ap (λ (s : Settings). record { settings = s; kinds = a.kinds; start = a.start; hand = a.hand; turns = a.turns; salvos = a.salvos }) settings
    ∙ ap (λ (ks : List RawKind). record { settings = b.settings; kinds = ks; start = a.start; hand = a.hand; turns = a.turns; salvos = a.salvos }) kinds
    ∙ ap (λ (n : ℕ). record { settings = b.settings; kinds = b.kinds; start = n; hand = a.hand; turns = a.turns; salvos = a.salvos }) start
    ∙ ap (λ (c : Cells). record { settings = b.settings; kinds = b.kinds; start = b.start; hand = c; turns = a.turns; salvos = a.salvos }) hand
    ∙ ap (λ (ts : List Checked). record { settings = b.settings; kinds = b.kinds; start = b.start; hand = b.hand; turns = ts; salvos = a.salvos }) turns
    ∙ ap (λ (ss : List Struck). record { settings = b.settings; kinds = b.kinds; start = b.start; hand = b.hand; turns = b.turns; salvos = ss }) salvos
