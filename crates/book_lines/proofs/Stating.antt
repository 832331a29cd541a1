-- Lines whose parts are cut state what the parts are.
use Rattle.std.proofs.Common.{◌≡◌, ℕ, ℤ, List, ◌∷◌, ◌++◌, codes, Option, refl, sym, ap, ◌∙◌, subst}
use Rattle.life_cells.specs.declared.cell.Cell.{Cell}
use Rattle.book_parts.specs.Limits.{IsName}
use Rattle.book_lines.specs.declared.statement.Placed.{Placed}
use Rattle.book_lines.specs.declared.statement.NamedEnd.{NamedEnd}
use Rattle.book_lines.specs.declared.statement.TurnLine.{TurnLine}
use Rattle.book_lines.specs.declared.statement.SalvoLine.{SalvoLine}
use Rattle.book_lines.specs.declared.fault.LineFault.TheVariants as fault
use Rattle.book_lines.specs.declared.fault.LineError.{LineError}
use Rattle.book_lines.specs.declared.fault.LineError.TheVariants.{Fault, Memory}
use Rattle.book_lines.specs.Values.{Level, AreNumbersAt}
use Rattle.book_lines.specs.Values.Level.{Form, Numbers, Bodies, Whole}
use Rattle.book_lines.specs.Forms.{IsEnding, IsTurnLine, IsProduct, IsHand, IsSalvoLine}
use Rattle.book_lines.specs.Faults.{StopsBetween}
use Rattle.book_lines.specs.Cuts.{IsTurnCut, IsSalvoCut}
use Rattle.book_lines.specs.Reads.{IsErrorOf}
use Rattle.book_lines.proofs.Levels.{NumbersPass, BodiesPass, ending_pass, numbers_pass, hand_pass, turn_pass, salvo_pass, numbers_form, bodies_form}
use Rattle.book_lines.proofs.Pieces.{no_colons}
use Rattle.book_lines.specs.Lines.{HaveNoColon}
use Rattle.book_lines.proofs.Cutting.{cut_once, turn_parts, turn_formed, ending_free, salvo_parts, salvo_formed, product_free}

numbers_whole : NumbersPass Numbers Whole
numbers_whole text z h = h

-- ---- turns

pub turn_stated : (items : List (List ℕ)) (name kind : List ℕ) (ending delays : List (List ℕ)) → IsTurnCut items name kind ending delays
    → (own other : List ℕ) (end : NamedEnd) (n : ℤ) (zs : List ℤ) → own ≡ name → other ≡ kind → IsEnding Numbers end n ending → AreNumbersAt Numbers delays zs
    → IsTurnLine Whole (record { name = own; kind = other; end = end; n = n; delays = zs }) items
turn_stated items name kind ending delays cut own other end n zs e f h k = record {
  ending = ending;
  delays = delays;
  items_are = cut.items_are ∙ (λ i. sym e i ∷ (sym f i ∷ (ending ++ (codes ":" ∷ delays))));
  name_is = subst IsName (sym e) cut.name_is;
  kind_is = subst IsName (sym f) cut.kind_is;
  ending_is = ending_pass Numbers Whole numbers_whole end n ending h;
  delays_are = numbers_pass Numbers Whole numbers_whole delays zs k;
}

-- the parts of a turn's line that is read as far as its numbers
pub turn_read : (items : List (List ℕ)) (name kind : List ℕ) (ending delays : List (List ℕ)) → IsTurnCut items name kind ending delays → (turn : TurnLine) → IsTurnLine Numbers turn items
    → IsEnding Numbers turn.end turn.n ending × AreNumbersAt Numbers delays turn.delays
turn_read items name kind ending delays cut turn h =
    let f = turn_pass Numbers Form numbers_form turn items h in
    let e = cut.ending_is in
    let p = turn_parts turn items name kind ending delays f cut.items_are (ending_free e.0 e.1.0 ending e.1.1) in
    (subst (λ (ts : List (List ℕ)). IsEnding Numbers turn.end turn.n ts) p.ending_is h.ending_is, subst (λ (ts : List (List ℕ)). AreNumbersAt Numbers ts turn.delays) p.delays_are h.delays_are)

pub turn_unread : (items : List (List ℕ)) (name kind : List ℕ) (ending delays : List (List ℕ)) → IsTurnCut items name kind ending delays
    → ((turn : TurnLine) → IsEnding Numbers turn.end turn.n ending → AreNumbersAt Numbers delays turn.delays → ⊥)
    → StopsBetween (λ level (turn : TurnLine). IsTurnLine level turn items) Form Numbers
turn_unread items name kind ending delays cut none =
    let form = turn_formed items name kind ending delays cut in
    record { value = form.0; so_far = form.1; no_farther = λ turn h. let parts = turn_read items name kind ending delays cut turn h in none turn parts.0 parts.1 }

-- ---- salvos

pub salvo_stated : (l : Level) → NumbersPass Numbers l → (items : List (List ℕ)) (name : List ℕ) (lanes product hand : List (List ℕ)) → IsSalvoCut items name lanes product hand
    → (own : List ℕ) (zs : List ℤ) (p : Option Placed) (h : Option Cell) → own ≡ name → AreNumbersAt Numbers lanes zs → IsProduct l p product → IsHand Numbers h hand
    → IsSalvoLine l (record { name = own; lanes = zs; product = p; hand = h }) items
salvo_stated l pass items name lanes product hand cut own zs p h e lanes_are product_is hand_is = record {
  lanes = lanes;
  product = product;
  hand = hand;
  items_are = cut.items_are ∙ (λ i. sym e i ∷ (codes ":" ∷ (lanes ++ (codes ":" ∷ (product ++ (codes ":" ∷ hand))))));
  name_is = subst IsName (sym e) cut.name_is;
  lanes_are = numbers_pass Numbers l pass lanes zs lanes_are;
  product_is = product_is;
  hand_is = hand_pass Numbers l pass h hand hand_is;
}

-- the parts of a salvo's line that is read as far as some level
pub record SalvoRead (l : Level) (lanes product hand : List (List ℕ)) (salvo : SalvoLine) : Type 0 where
  pub lanes_are : AreNumbersAt l lanes salvo.lanes
  pub product_is : IsProduct l salvo.product product
  pub hand_is : IsHand l salvo.hand hand

pub salvo_read : (l : Level) → NumbersPass l Form → BodiesPass l Form → (items : List (List ℕ)) (name : List ℕ) (lanes product hand : List (List ℕ)) → IsSalvoCut items name lanes product hand
    → (salvo : SalvoLine) → IsSalvoLine l salvo items → SalvoRead l lanes product hand salvo
salvo_read l f g items name lanes product hand cut salvo h =
    let formed = salvo_pass l Form f g salvo items h in
    let p = salvo_parts salvo items name lanes product hand formed cut.items_are (no_colons lanes cut.lanes_are.0 cut.lanes_are.1.each) (product_free cut.product_is.0 product cut.product_is.1) in
    record {
      lanes_are = subst (λ (ts : List (List ℕ)). AreNumbersAt l ts salvo.lanes) p.lanes_are h.lanes_are;
      product_is = subst (λ (ts : List (List ℕ)). IsProduct l salvo.product ts) p.product_is h.product_is;
      hand_is = subst (λ (ts : List (List ℕ)). IsHand l salvo.hand ts) p.hand_is h.hand_is;
    }

numbers_bodies_form : BodiesPass Numbers Form
numbers_bodies_form word at body h = h

bodies_number_form : NumbersPass Bodies Form
bodies_number_form text z h = numbers_form text z h

whole_number_form : NumbersPass Whole Form
whole_number_form text z h = numbers_form text z h

whole_bodies_form : BodiesPass Whole Form
whole_bodies_form word at body h = bodies_form word at body h.0

pub salvo_unread : (items : List (List ℕ)) (name : List ℕ) (lanes product hand : List (List ℕ)) → IsSalvoCut items name lanes product hand
    → ((salvo : SalvoLine) → SalvoRead Numbers lanes product hand salvo → ⊥)
    → StopsBetween (λ level (salvo : SalvoLine). IsSalvoLine level salvo items) Form Numbers
salvo_unread items name lanes product hand cut none =
    let form = salvo_formed items name lanes product hand cut in
    record { value = form.0; so_far = form.1; no_farther = λ salvo h. none salvo (salvo_read Numbers numbers_form numbers_bodies_form items name lanes product hand cut salvo h) }

same_numbers : NumbersPass Numbers Numbers
same_numbers text z h = h

numbers_bodies : NumbersPass Numbers Bodies
numbers_bodies text z h = h

-- what is wrong in the product is wrong in the salvo
pub salvo_error : (items : List (List ℕ)) (name : List ℕ) (lanes product hand : List (List ℕ)) → IsSalvoCut items name lanes product hand
    → (zs : List ℤ) (h : Option Cell) → AreNumbersAt Numbers lanes zs → IsHand Numbers h hand
    → (e : LineError) → IsErrorOf (λ level (p : Option Placed). IsProduct level p product) e → IsErrorOf (λ level (salvo : SalvoLine). IsSalvoLine level salvo items) e
salvo_error items name lanes product hand cut zs h lanes_are hand_is (Fault fault.Version) k = k
salvo_error items name lanes product hand cut zs h lanes_are hand_is (Fault fault.Word) k = k
salvo_error items name lanes product hand cut zs h lanes_are hand_is (Fault fault.Form) k = absurd (k cut.product_is.0 cut.product_is.1)
salvo_error items name lanes product hand cut zs h lanes_are hand_is (Fault fault.Number) k = salvo_unread items name lanes product hand cut (λ salvo r. k.no_farther salvo.product r.product_is)
salvo_error items name lanes product hand cut zs h lanes_are hand_is (Fault fault.Body) k = record {
  value = record { name = name; lanes = zs; product = k.value; hand = h };
  so_far = salvo_stated Numbers same_numbers items name lanes product hand cut name zs k.value h refl lanes_are k.so_far hand_is;
  no_farther = λ salvo r. k.no_farther salvo.product (salvo_read Bodies bodies_number_form bodies_form items name lanes product hand cut salvo r).product_is;
}
salvo_error items name lanes product hand cut zs h lanes_are hand_is (Fault fault.Empty) k = record {
  value = record { name = name; lanes = zs; product = k.value; hand = h };
  so_far = salvo_stated Bodies numbers_bodies items name lanes product hand cut name zs k.value h refl lanes_are k.so_far hand_is;
  no_farther = λ salvo r. k.no_farther salvo.product (salvo_read Whole whole_number_form whole_bodies_form items name lanes product hand cut salvo r).product_is;
}
salvo_error items name lanes product hand cut zs h lanes_are hand_is Memory k = tt

pub whole_numbers : NumbersPass Numbers Whole
whole_numbers text z h = h

-- ---- cutting a salvo's line

pub salvo_behind : (items : List (List ℕ)) (own colon : List ℕ) (behind rest : List (List ℕ)) → items ≡ own ∷ behind → behind ≡ colon ∷ rest → (salvo : SalvoLine) → (h : IsSalvoLine Form salvo items)
    → (colon ≡ codes ":") × (rest ≡ h.lanes ++ (codes ":" ∷ (h.product ++ (codes ":" ∷ h.hand))))
salvo_behind items own colon behind rest e f salvo h = let g = h.items_are in (cc, cc)

pub salvo_rest : (items : List (List ℕ)) (own colon : List ℕ) (behind rest lanes more : List (List ℕ)) → items ≡ own ∷ behind → behind ≡ colon ∷ rest → rest ≡ lanes ++ (codes ":" ∷ more) → HaveNoColon lanes
    → (salvo : SalvoLine) → (h : IsSalvoLine Form salvo items) → more ≡ h.product ++ (codes ":" ∷ h.hand)
salvo_rest items own colon behind rest lanes more e f cut free salvo h =
    let g = (salvo_behind items own colon behind rest e f salvo h).1 in
    sym (cut_once h.lanes lanes _ _ (no_colons h.lanes salvo.lanes h.lanes_are.each) free (sym g ∙ cut)).1

pub salvo_whole : (items : List (List ℕ)) (own colon : List ℕ) (behind rest lanes more product hand : List (List ℕ)) → items ≡ own ∷ behind → behind ≡ colon ∷ rest → colon ≡ codes ":"
    → rest ≡ lanes ++ (codes ":" ∷ more) → more ≡ product ++ (codes ":" ∷ hand)
    → items ≡ own ∷ (codes ":" ∷ (lanes ++ (codes ":" ∷ (product ++ (codes ":" ∷ hand)))))
salvo_whole items own colon behind rest lanes more product hand e f g cut cut_too =
    e ∙ ap (λ (ts : List (List ℕ)). own ∷ ts) (f ∙ (λ i. g i ∷ (cut ∙ ap (λ (ts : List (List ℕ)). lanes ++ (codes ":" ∷ ts)) cut_too) i))
