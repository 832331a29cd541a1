-- What is wrong in the form of a line: one thing at most, and nothing where the line states something.
use Rattle.std.proofs.Common.{◌≡◌, ℕ, List, refl}
use Rattle.book_lines.specs.declared.fault.LineFault.{LineFault}
use Rattle.book_lines.specs.declared.fault.LineFault.TheVariants as fault
use Rattle.book_lines.specs.declared.statement.Statement.{Statement}
use Rattle.book_lines.specs.Values.Level.{Form, Numbers, Bodies, Whole}
use Rattle.book_lines.specs.Statements.{keyword, States, StatesAt}
use Rattle.book_lines.specs.Faults.{IsLineFault}
use Rattle.book_lines.proofs.Levels.{states_pass, numbers_form, bodies_form, bodies_numbers}

-- ---- a line that states something has no fault

pub fault_none : (line : List ℕ) (s : Statement) (why : LineFault) → States line s → IsLineFault line why → ⊥
fault_none line s fault.Version h f = f.1
fault_none line s fault.Word h f = f (keyword s, (h.items, h.words_are))
fault_none line s fault.Form h f = f.1 s (states_pass Whole Form (λ t z p. numbers_form t z p) (λ w at b p. bodies_form w at b p.0) line s h)
fault_none line s fault.Number h f = f.1.no_farther s (states_pass Whole Numbers (λ t z p. p) (λ w at b p. bodies_numbers w at b p.0) line s h)
fault_none line s fault.Body h f = f.1.no_farther s (states_pass Whole Bodies (λ t z p. p) (λ w at b p. p.0) line s h)
fault_none line s fault.Empty h f = f.1.no_farther s h

-- ---- a line has one fault

to_form : (line : List ℕ) (s : Statement) → StatesAt Bodies line s → StatesAt Form line s
to_form line s h = states_pass Bodies Form (λ t z p. numbers_form t z p) (λ w at b p. bodies_form w at b p) line s h

numbers_to_form : (line : List ℕ) (s : Statement) → StatesAt Numbers line s → StatesAt Form line s
numbers_to_form line s h = states_pass Numbers Form (λ t z p. numbers_form t z p) (λ w at b p. p) line s h

to_numbers : (line : List ℕ) (s : Statement) → StatesAt Bodies line s → StatesAt Numbers line s
to_numbers line s h = states_pass Bodies Numbers (λ t z p. p) (λ w at b p. bodies_numbers w at b p) line s h

pub fault_once : (line : List ℕ) (v w : LineFault) → IsLineFault line v → IsLineFault line w → v ≡ w
fault_once line fault.Version w h k = absurd h.1
fault_once line fault.Word fault.Version h k = absurd k.1
fault_once line fault.Word fault.Word h k = refl
fault_once line fault.Word fault.Form h k = absurd (h k.0)
fault_once line fault.Word fault.Number h k = absurd (h k.0)
fault_once line fault.Word fault.Body h k = absurd (h k.0)
fault_once line fault.Word fault.Empty h k = absurd (h k.0)
fault_once line fault.Form fault.Version h k = absurd k.1
fault_once line fault.Form fault.Word h k = absurd (k h.0)
fault_once line fault.Form fault.Form h k = refl
fault_once line fault.Form fault.Number h k = absurd (h.1 k.1.value k.1.so_far)
fault_once line fault.Form fault.Body h k = absurd (h.1 k.1.value (numbers_to_form line k.1.value k.1.so_far))
fault_once line fault.Form fault.Empty h k = absurd (h.1 k.1.value (to_form line k.1.value k.1.so_far))
fault_once line fault.Number fault.Version h k = absurd k.1
fault_once line fault.Number fault.Word h k = absurd (k h.0)
fault_once line fault.Number fault.Form h k = absurd (k.1 h.1.value h.1.so_far)
fault_once line fault.Number fault.Number h k = refl
fault_once line fault.Number fault.Body h k = absurd (h.1.no_farther k.1.value k.1.so_far)
fault_once line fault.Number fault.Empty h k = absurd (h.1.no_farther k.1.value (to_numbers line k.1.value k.1.so_far))
fault_once line fault.Body fault.Version h k = absurd k.1
fault_once line fault.Body fault.Word h k = absurd (k h.0)
fault_once line fault.Body fault.Form h k = absurd (k.1 h.1.value (numbers_to_form line h.1.value h.1.so_far))
fault_once line fault.Body fault.Number h k = absurd (k.1.no_farther h.1.value h.1.so_far)
fault_once line fault.Body fault.Body h k = refl
fault_once line fault.Body fault.Empty h k = absurd (h.1.no_farther k.1.value k.1.so_far)
fault_once line fault.Empty fault.Version h k = absurd k.1
fault_once line fault.Empty fault.Word h k = absurd (k h.0)
fault_once line fault.Empty fault.Form h k = absurd (k.1 h.1.value (to_form line h.1.value h.1.so_far))
fault_once line fault.Empty fault.Number h k = absurd (k.1.no_farther h.1.value (to_numbers line h.1.value h.1.so_far))
fault_once line fault.Empty fault.Body h k = absurd (k.1.no_farther h.1.value h.1.so_far)
fault_once line fault.Empty fault.Empty h k = refl
