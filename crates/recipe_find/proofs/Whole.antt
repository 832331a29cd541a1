-- A book that was extended, with room for all, is proper.
use Rattle.std.proofs.Common.{◌≡◌, ℕ, suc, ◌<◌, ◌≤◌, ◌^◌, List, [], ◌∷◌, ◌++◌, length, map, sym, subst, inl, inr, arith}
use Rattle.std.proofs.lemmas.List.{map-append, length-take}
use Rattle.std.specs.List.{AllByRecursion}
use Rattle.life_plane.specs.ListLaws.{all_append}
use Rattle.life_cells.specs.Cells.{Cells}
use Rattle.book_parts.specs.Said.{Said}
use Rattle.book_parts.specs.Proper.{IsProperBook, IsProperTurn, IsProperSalvo, IsNoneOf, AreDistinct, entry_names}
use Rattle.book_parts.specs.declared.kind.RawKind.{RawKind}
use Rattle.book_parts.specs.declared.settings.Settings.{Settings}
use Rattle.book_parts.specs.declared.turn.RawTurn.{RawTurn}
use Rattle.book_parts.specs.declared.salvo.RawSalvo.{RawSalvo}
use Rattle.find_order.specs.Candidates.{candidates}
use Rattle.find_order.specs.declared.candidate.Candidate.{Candidate}
use Rattle.recipe_find.specs.Adding.{AddsSalvo, AddsTurn, AreAdded}
use Rattle.recipe_find.specs.Extended.{first_candidates, with_more, IsExtended}
use Rattle.recipe_find.specs.Refusals.{HasRoom, Overfills, FindingIsRefused}
use Rattle.recipe_find.specs.declared.error.FindError.{FindError}
use Rattle.recipe_find.specs.declared.error.FindError.TheVariants.{BookFull, Memory}
use Rattle.recipe_find.proofs.Distinct.{turns_named, salvos_named, found_are_named, woven}

-- what holds of whatever a candidate adds holds of all that is added
added_all : {A : Type 0} (Adds : ℕ → Candidate → A → Type 0) (P : A → Type 0) → ((n : ℕ) (c : Candidate) (e : A) → Adds n c e → P e) → (n : ℕ) (cs : List Candidate) (added : List A) → AreAdded Adds n cs added → AllByRecursion P added
added_all Adds P each n [] added h = subst (AllByRecursion P) (sym h) tt
added_all Adds P each n (c ∷ cs) added (inl h) = subst (AllByRecursion P) (sym h.1.1.1.0) (each n c h.0 h.1.0, added_all Adds P each (suc n) cs h.1.1.0 h.1.1.1.1)
added_all Adds P each n (c ∷ cs) added (inr h) = added_all Adds P each (suc n) cs added h.1

named_all : {A : Type 0} (f : A → List ℕ) (P : List ℕ → Type 0) (xs : List A) → AllByRecursion (λ x. P (f x)) xs → AllByRecursion P (map f xs)
named_all f P [] h = tt
named_all f P (x ∷ xs) h = (h.0, named_all f P xs h.1)

few_first : (book : Said) (budget : ℕ) → length (first_candidates book budget) ≤ budget
few_first book budget = let long = length-take budget (candidates book.settings (length book.kinds)) in omega arith

proper_with_more : (book : Said) (budget : ℕ) (turns : List RawTurn) (salvos : List RawSalvo) → IsProperBook book → budget < 2 ^ 32 →
    AreAdded (AddsTurn book) 1 (first_candidates book budget) turns → AreAdded (AddsSalvo book) 1 (first_candidates book budget) salvos → HasRoom (with_more book turns salvos) → IsProperBook (with_more book turns salvos)
proper_with_more book budget turns salvos p small t s room =
    let cs = first_candidates book budget in
    let few = few_first book budget in
    let named = found_are_named book 1 (2 ^ 64) cs turns salvos (omega arith) (omega arith) t s in
    let new_turns : AllByRecursion (IsNoneOf (entry_names book)) (turns_named turns) =
    named_all (λ (turn : RawTurn). turn.name) (IsNoneOf (entry_names book)) turns (added_all (AddsTurn book) (λ (turn : RawTurn). IsNoneOf (entry_names book) turn.name) (λ n c e adds. adds.name.new) 1 cs turns t) in
    let new_salvos : AllByRecursion (IsNoneOf (entry_names book)) (salvos_named salvos) =
    named_all (λ (salvo : RawSalvo). salvo.name) (IsNoneOf (entry_names book)) salvos (added_all (AddsSalvo book) (λ (salvo : RawSalvo). IsNoneOf (entry_names book) salvo.name) (λ n c e adds. adds.name.new) 1 cs salvos s) in
    let names = woven (turns_named book.turns) (turns_named turns) (salvos_named book.salvos) (salvos_named salvos) p.names named.distinct new_turns new_salvos in
    let all_turns = map-append (λ (turn : RawTurn). turn.name) book.turns turns in
    let all_salvos = map-append (λ (salvo : RawSalvo). salvo.name) book.salvos salvos in
    let all_names : entry_names (with_more book turns salvos) ≡ (turns_named book.turns ++ turns_named turns) ++ (salvos_named book.salvos ++ salvos_named salvos) = λ i. all_turns i ++ all_salvos i in
    record {
      settings = p.settings;
      hand = p.hand;
      some_kind = p.some_kind;
      few_kinds = p.few_kinds;
      kinds = p.kinds;
      kind_names = p.kind_names;
      start = p.start;
      few_turns = room.turns;
      turns = all_append (IsProperTurn (length book.kinds)) book.turns turns p.turns (added_all (AddsTurn book) (IsProperTurn (length book.kinds)) (λ n c e adds. adds.proper) 1 cs turns t);
      few_salvos = room.salvos;
      salvos = all_append IsProperSalvo book.salvos salvos p.salvos (added_all (AddsSalvo book) IsProperSalvo (λ n c e adds. adds.proper) 1 cs salvos s);
      names = subst AreDistinct (sym all_names) names;
      few_cells = room.cells;
    }

pub proper_extended : (book whole : Said) (budget : ℕ) → IsProperBook book → budget < 2 ^ 32 → IsExtended book budget whole → HasRoom whole → IsProperBook whole
proper_extended book whole budget p small h room =
    subst IsProperBook (sym h.whole_is) (proper_with_more book budget h.turns h.salvos p small h.turns_are h.salvos_are (subst HasRoom h.whole_is room))

-- the whole in the code's words
pub extended_as : (book : Said) (budget : ℕ) (settings : Settings) (hand : Cells) (kinds : List RawKind) (start : ℕ) (turns : List RawTurn) (salvos : List RawSalvo) →
    settings ≡ book.settings → hand ≡ book.hand → kinds ≡ book.kinds → start ≡ book.start → IsExtended book budget (record book { turns = turns; salvos = salvos }) →
    IsExtended book budget (record { settings = settings; hand = hand; kinds = kinds; start = start; turns = turns; salvos = salvos })
extended_as book budget settings hand kinds start turns salvos same_settings same_hand same_kinds same_start h =
    let same : record book { turns = turns; salvos = salvos } ≡ said settings hand kinds start = λ i. said (sym same_settings i) (sym same_hand i) (sym same_kinds i) (sym same_start i) in
    subst (IsExtended book budget) same h
  where
    said : Settings → Cells → List RawKind → ℕ → Said
    said a b d e = record { settings = a; hand = b; kinds = d; start = e; turns = turns; salvos = salvos }

-- a whole that is too full
pub refused : (book whole : Said) (budget : ℕ) (e : FindError) → IsExtended book budget whole → Overfills whole e → FindingIsRefused book budget e
refused book whole budget (BookFull what count) h full = record { whole = whole; extended = h; full = full }
refused book whole budget Memory h full = tt
