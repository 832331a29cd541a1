-- What words ask for: one command at most, and where they do they are not refused; and one refusal at most.
use Rattle.std.proofs.Common.{◌≡◌, ◌∙◌, ℕ, ◌+◌, cond, refl, sym, ap, ap₂, subst, List, [], ◌∷◌, length, Option, Some, None}
use Rattle.std.specs.Prelude.{codes}
use Rattle.std.specs.List.{AllZip}
use Rattle.std.specs.Str.{bytes_eq}
use Rattle.std.specs.Str.Parse.{digits_value}
use Rattle.life_words.specs.declared.command.Command.{Command}
use Rattle.life_words.specs.declared.command.Command.TheVariants.{Check, Extend, Compile, Certify, Audit, Replay, Sample}
use Rattle.life_words.specs.declared.refusal.WordsError.{WordsError}
use Rattle.life_words.specs.declared.refusal.WordsError.TheVariants.{NoCommand, Dash, UnknownCommand, WrongCount, BadNumber, Memory}
use Rattle.life_words.specs.Words.{Words, Saying, Says, BeginWith, Ask, AreRefused, AreUnknown, AreMiscounted, AreMisnumbered, IsFirstMisplaced, first_dash, texts_of, phrase_of}
use Rattle.life_words.proofs.Forms.{same_length, one_place, not_misplaced, length_said}

-- ---- one command

-- the command of a word, and the words behind it
abbrev command_in : List ℕ → List (List ℕ) → Option Command
command_in first (a ∷ []) = cond (bytes_eq first (codes "check")) (Some (Check a)) None
command_in first (a ∷ (b ∷ [])) =
    cond (bytes_eq first (codes "extend")) (Some (Extend a (digits_value 10 b)))
    (cond (bytes_eq first (codes "compile")) (Some (Compile a b))
    (cond (bytes_eq first (codes "certify")) (Some (Certify a b))
    (cond (bytes_eq first (codes "replay")) (Some (Replay a (digits_value 10 b)))
    (cond (bytes_eq first (codes "sample")) (Some (Sample (digits_value 10 a) (digits_value 10 b))) None))))
command_in first (a ∷ (b ∷ (c ∷ []))) = cond (bytes_eq first (codes "audit")) (Some (Audit a b c)) None
command_in first rest = None

-- the words that say one thing, two or three
one_said : (rest : List (List ℕ)) (s : Saying) → AllZip Says rest (s ∷ []) → (a : List ℕ) × ((rest ≡ a ∷ []) × Says a s)
one_said [] s said = absurd said
one_said (a ∷ []) s said = (a, (refl, said.0))
one_said (a ∷ (b ∷ rest)) s said = absurd said.1

two_said : (rest : List (List ℕ)) (s t : Saying) → AllZip Says rest (s ∷ (t ∷ [])) → (a b : List ℕ) × ((rest ≡ a ∷ (b ∷ [])) × (Says a s × Says b t))
two_said [] s t said = absurd said
two_said (a ∷ rest) s t said = let behind = one_said rest t said.1 in (a, behind.0, (ap (λ ws. a ∷ ws) behind.1.0, (said.0, behind.1.1)))

three_said : (rest : List (List ℕ)) (s t u : Saying) → AllZip Says rest (s ∷ (t ∷ (u ∷ []))) → (a b c : List ℕ) × ((rest ≡ a ∷ (b ∷ (c ∷ []))) × (Says a s × (Says b t × Says c u)))
three_said [] s t u said = absurd said
three_said (a ∷ rest) s t u said = let behind = two_said rest t u said.1 in (a, behind.0, behind.1, (ap (λ ws. a ∷ ws) behind.2.0, (said.0, behind.2.1)))

-- the words that say a command have it
read_back : (command : Command) (rest : List (List ℕ)) → AllZip Says rest (phrase_of command).sayings → command_in (phrase_of command).command rest ≡ Some command
read_back (Check book) rest said = let r = one_said rest _ said in ap (command_in (codes "check")) r.1.0 ∙ ap (λ w. Some (Check w)) r.1.1
read_back (Extend book budget) rest said = let r = two_said rest _ _ said in ap (command_in (codes "extend")) r.2.0 ∙ ap₂ (λ w n. Some (Extend w n)) r.2.1.0 r.2.1.1.is
read_back (Compile book target) rest said = let r = two_said rest _ _ said in ap (command_in (codes "compile")) r.2.0 ∙ ap₂ (λ v w. Some (Compile v w)) r.2.1.0 r.2.1.1
read_back (Certify book target) rest said = let r = two_said rest _ _ said in ap (command_in (codes "certify")) r.2.0 ∙ ap₂ (λ v w. Some (Certify v w)) r.2.1.0 r.2.1.1
read_back (Audit book target cert) rest said = let r = three_said rest _ _ _ said in
    ap (command_in (codes "audit")) r.3.0 ∙ (ap₂ (λ u v. Some (Audit u v r.2)) r.3.1.0 r.3.1.1.0 ∙ ap (λ w. Some (Audit book target w)) r.3.1.1.1)
read_back (Replay pattern n) rest said = let r = two_said rest _ _ said in ap (command_in (codes "replay")) r.2.0 ∙ ap₂ (λ w m. Some (Replay w m)) r.2.1.0 r.2.1.1.is
read_back (Sample count gap) rest said = let r = two_said rest _ _ said in ap (command_in (codes "sample")) r.2.0 ∙ ap₂ (λ m n. Some (Sample m n)) r.2.1.0.is r.2.1.1.is

-- ---- how words begin

-- words begin in one way
same_first : (words : Words) (a b : List ℕ) (xs ys : List (List ℕ)) → BeginWith words a xs → BeginWith words b ys → a ≡ b
same_first words a b xs ys p q = let one = p.whole in let other = q.whole in cc

same_rest : (words : Words) (a b : List ℕ) (xs ys : List (List ℕ)) → BeginWith words a xs → BeginWith words b ys → xs ≡ ys
same_rest words a b xs ys p q = let one = p.whole in let other = q.whole in cc

pub one_command : (words : Words) (a b : Command) → Ask words a → Ask words b → a ≡ b
one_command words a b p q =
    let first = same_first words _ _ p.rest q.rest p.begin q.begin in
    let rest = same_rest words _ _ p.rest q.rest p.begin q.begin in
    let same : Some a ≡ Some b = sym (read_back a p.rest p.said) ∙ (ap₂ command_in first rest ∙ read_back b q.rest q.said) in cc

-- no words, or a word that begins with a dash, and no word does
none_begin : (words : Words) (first : List ℕ) (rest : List (List ℕ)) → words ≡ [] → BeginWith words first rest → ⊥
none_begin words first rest none b = let empty = ap texts_of none in let whole = b.whole in cc

dash_begins : (words : Words) (first : List ℕ) (rest : List (List ℕ)) (before : ℕ) → first_dash words ≡ Some before → BeginWith words first rest → ⊥
dash_begins words first rest before dash b = let plain = b.plain in cc

no_dash : (words : Words) (before : ℕ) → words ≡ [] → first_dash words ≡ Some before → ⊥
no_dash words before none dash = let empty = ap first_dash none in cc

-- ---- no refusal

pub not_refused : (words : Words) (command : Command) (e : WordsError) → Ask words command → AreRefused words e → ⊥
not_refused words command NoCommand a r = none_begin words _ _ r a.begin
not_refused words command (Dash place) a r = dash_begins words _ _ r.0 r.1.0 a.begin
not_refused words command UnknownCommand a r = r.unknown command (same_first words _ _ _ _ a.begin r.begin)
not_refused words command WrongCount a r =
    let same = same_first words _ _ _ _ a.begin r.begin in
    r.other (ap length (same_rest words _ _ _ _ r.begin a.begin) ∙ (length_said a.rest (phrase_of command).sayings a.said ∙ same_length command r.command same))
not_refused words command (BadNumber place) a r =
    let same = same_first words _ _ _ _ a.begin r.begin in
    not_misplaced r.rest command r.command r.behind same (subst (λ (ws : List (List ℕ)). AllZip Says ws (phrase_of command).sayings) (same_rest words _ _ _ _ a.begin r.begin) a.said) r.misplaced
not_refused words command Memory a r = r

-- ---- one refusal

unknown_known : (words : Words) (command : Command) (rest : List (List ℕ)) → AreUnknown words → BeginWith words (phrase_of command).command rest → ⊥
unknown_known words command rest r k = r.unknown command (same_first words _ _ _ _ k r.begin)

-- as many words as it takes, and another number of them
counted_miscounted : (words : Words) (place : ℕ) → AreMiscounted words → AreMisnumbered words place → ⊥
counted_miscounted words place m n =
    m.other (ap length (same_rest words _ _ _ _ m.begin n.begin) ∙ (n.counted ∙ same_length n.command m.command (same_first words _ _ _ _ n.begin m.begin)))

one_number : (words : Words) (a b : ℕ) → AreMisnumbered words a → AreMisnumbered words b → a ≡ b
one_number words a b h k =
    let same = same_first words _ _ _ _ h.begin k.begin in
    let one = one_place k.rest h.command k.command h.behind k.behind same
    (subst (λ (ws : List (List ℕ)). IsFirstMisplaced ws (phrase_of h.command).sayings h.behind) (same_rest words _ _ _ _ h.begin k.begin) h.misplaced) k.misplaced in
    h.is ∙ (ap (λ n. n + 2) one ∙ sym k.is)

one_dash : (words : Words) (a b : ℕ) → AreRefused words (Dash a) → AreRefused words (Dash b) → a ≡ b
one_dash words a b h k = let one = h.1.0 in let other = k.1.0 in let same : h.0 ≡ k.0 = cc in h.1.1 ∙ (ap (λ n. n + 1) same ∙ sym k.1.1)

pub one_refusal : (words : Words) (e f : WordsError) → AreRefused words e → AreRefused words f → e ≡ f
one_refusal words Memory f h k = absurd h
one_refusal words NoCommand NoCommand h k = refl
one_refusal words NoCommand (Dash b) h k = absurd (no_dash words k.0 h k.1.0)
one_refusal words NoCommand UnknownCommand h k = absurd (none_begin words _ _ h k.begin)
one_refusal words NoCommand WrongCount h k = absurd (none_begin words _ _ h k.begin)
one_refusal words NoCommand (BadNumber b) h k = absurd (none_begin words _ _ h k.begin)
one_refusal words NoCommand Memory h k = absurd k
one_refusal words (Dash a) NoCommand h k = absurd (no_dash words h.0 k h.1.0)
one_refusal words (Dash a) (Dash b) h k = ap Dash (one_dash words a b h k)
one_refusal words (Dash a) UnknownCommand h k = absurd (dash_begins words _ _ h.0 h.1.0 k.begin)
one_refusal words (Dash a) WrongCount h k = absurd (dash_begins words _ _ h.0 h.1.0 k.begin)
one_refusal words (Dash a) (BadNumber b) h k = absurd (dash_begins words _ _ h.0 h.1.0 k.begin)
one_refusal words (Dash a) Memory h k = absurd k
one_refusal words UnknownCommand NoCommand h k = absurd (none_begin words _ _ k h.begin)
one_refusal words UnknownCommand (Dash b) h k = absurd (dash_begins words _ _ k.0 k.1.0 h.begin)
one_refusal words UnknownCommand UnknownCommand h k = refl
one_refusal words UnknownCommand WrongCount h k = absurd (unknown_known words k.command k.rest h k.begin)
one_refusal words UnknownCommand (BadNumber b) h k = absurd (unknown_known words k.command k.rest h k.begin)
one_refusal words UnknownCommand Memory h k = absurd k
one_refusal words WrongCount NoCommand h k = absurd (none_begin words _ _ k h.begin)
one_refusal words WrongCount (Dash b) h k = absurd (dash_begins words _ _ k.0 k.1.0 h.begin)
one_refusal words WrongCount UnknownCommand h k = absurd (unknown_known words h.command h.rest k h.begin)
one_refusal words WrongCount WrongCount h k = refl
one_refusal words WrongCount (BadNumber b) h k = absurd (counted_miscounted words b h k)
one_refusal words WrongCount Memory h k = absurd k
one_refusal words (BadNumber a) NoCommand h k = absurd (none_begin words _ _ k h.begin)
one_refusal words (BadNumber a) (Dash b) h k = absurd (dash_begins words _ _ k.0 k.1.0 h.begin)
one_refusal words (BadNumber a) UnknownCommand h k = absurd (unknown_known words h.command h.rest k h.begin)
one_refusal words (BadNumber a) WrongCount h k = absurd (counted_miscounted words a k h)
one_refusal words (BadNumber a) (BadNumber b) h k = ap BadNumber (one_number words a b h k)
one_refusal words (BadNumber a) Memory h k = absurd k
