-- What `clap` makes of a command's name and the words behind it.
use Rattle.std.proofs.Common.{◌≡◌, ◌∙◌, ◌<◌, ℕ, Bool, true, false, refl, sym, ap, List, [], ◌∷◌, ◌++◌, length, Some, append_assoc}
use Rattle.std.specs.List.{fold}
use Rattle.std.specs.Prelude.{codes, if◌then◌else◌, ◌&&◌, is_some}
use Rattle.std.proofs.Common.{append-nil}
use Rattle.clap.specs.declared.error.kind.ErrorKind.TheVariants as kind
use Rattle.std.specs.Str.{bytes_eq}
use Rattle.std.proofs.lemmas.Slice.Eq.{bytes_eq-Decides}
use Rattle.clap.specs.Kinds.{Kinds, or_else}
use Rattle.clap.specs.Faults.{fault_of, level_fault, turn_fault, walk_fault, entered_fault, defaults_fault, settle_fault, check_fault}
use Rattle.clap.specs.Walk.{Text, Row, Walk, Names, idle, nothing_held, walk, walk_from, walked, rows_after, settled, finished}
use Rattle.clap.specs.Simple.{Shape, built, entered, subcommand_of}
use Rattle.life_words.specs.CommandLine.{line_of, values_row}
use Rattle.life_words.proofs.Level.{HaveNoDash, built_rule, sub_of, or_else_none, takes_just}

same_text : (name : Text) → bytes_eq name name ≡ true
same_text name = (bytes_eq-Decides name name).1 refl

-- the name of the command, and its other names
abbrev names : Text → Names
names name = (name, []) ∷ []

-- the walk where the command was met, with these words behind it so far
abbrev met : Text → List Text → Walk
met name words = record { held = nothing_held; waiting = idle; position = 1; is_trailing = false; stopped = Some (name, words) }

name_met : (name : Text) → walked [] (names name) (walk_from nothing_held) name ≡ met name []
unfolding walked
name_met name = rw (same_text name) refl

words_behind : (name : Text) (words ws : List Text) → fold (walked [] (names name)) (met name words) ws ≡ met name (words ++ ws)
unfolding walked
words_behind name words [] = ap (met name) (sym (append-nil words))
words_behind name words (w ∷ ws) = words_behind name (words ++ w ∷ []) ws ∙ ap (met name) (append_assoc words (w ∷ []) ws)

line_walk : (name : Text) (rest : List Text) → walk [] (names name) nothing_held (name ∷ rest) ≡ met name rest
line_walk name rest = ap (λ (k : Walk). fold (walked [] (names name)) k rest) (name_met name) ∙ words_behind name [] rest

-- ---- faults

abbrev top_of : Text → ℕ → Shape
top_of name count = (built (line_of name count)).top

no_fault_name : (name : Text) (count : ℕ) → turn_fault (top_of name count) (names name) (walk_from nothing_held) name ≡ []
no_fault_name name count = rw (same_text name) (go (bytes_eq name (codes "help")) refl)
  where
    go : (b : Bool) → bytes_eq name (codes "help") ≡ b → or_else (if (bytes_eq name (codes "help") && false) then kind.DisplayHelp ∷ kind.InvalidSubcommand ∷ [] else []) [] ≡ []
    go true e = rw e refl
    go false e = rw e refl

no_fault_behind : (name : Text) (count : ℕ) (words ws : List Text) → walk_fault (top_of name count) (names name) (met name words) ws ≡ []
unfolding walk_fault walked
no_fault_behind name count words [] = refl
no_fault_behind name count words (w ∷ ws) = no_fault_behind name count (words ++ w ∷ []) ws

no_fault_line : (name : Text) (count : ℕ) (rest : List Text) → walk_fault (top_of name count) (names name) (walk_from nothing_held) (name ∷ rest) ≡ []
unfolding walk_fault
no_fault_line name count rest =
    ap (λ (k : Kinds). or_else k (walk_fault (top_of name count) (names name) (walked [] (names name) (walk_from nothing_held) name) rest)) (no_fault_name name count)
    ∙ (ap (λ (k : Walk). walk_fault (top_of name count) (names name) k rest) (name_met name) ∙ no_fault_behind name count [] rest)

-- what fails after the walk
abbrev after : Text → ℕ → Walk → Kinds
after name count k =
    let a = built (line_of name count) in
    or_else (entered_fault a k.stopped) (or_else (settle_fault a.top.rules a.top.args_override_self k.held)
    (or_else (defaults_fault (settled a.top.rules k.held).rows a.top.rules) (check_fault a.top (finished a.top.rules k.held) (is_some (entered a k.stopped)))))

-- the line fails as its subcommand does
fault_of_line : (name : Text) (count : ℕ) (rest : List Text) → fault_of (line_of name count) (name ∷ rest) ≡ level_fault (sub_of name count) [] nothing_held rest false []
unfolding defaults_fault
fault_of_line name count rest =
    ap (λ (k : Kinds). or_else k (after name count (walk [] (names name) nothing_held (name ∷ rest)))) (no_fault_line name count rest)
    ∙ (ap (after name count) (line_walk name rest)
    ∙ rw (same_text name) (or_else_none (level_fault (sub_of name count) [] nothing_held rest false [])))

-- the subcommand that is met, and its matches
subcommand_of_line : (name : Text) (count : ℕ) (rest : List Text) → subcommand_of (line_of name count) (name ∷ rest) ≡ Some (name, rows_after (built_rule count ∷ []) [] rest)
subcommand_of_line name count rest =
    ap (λ (k : Walk). entered (built (line_of name count)) k.stopped) (line_walk name rest) ∙ rw (same_text name) refl

-- The line is taken where so many words stand behind the name, and gives them; and only there.
pub record IsTakenJust (name : Text) (count : ℕ) (rest : List Text) : Type 0 where
  pub only : fault_of (line_of name count) (name ∷ rest) ≡ [] → length rest ≡ count
  pub passes : length rest ≡ count → fault_of (line_of name count) (name ∷ rest) ≡ []
  pub gives : length rest ≡ count → subcommand_of (line_of name count) (name ∷ rest) ≡ Some (name, values_row rest ∷ [])

pub taken_just : (name : Text) (count : ℕ) (rest : List Text) → 0 < count → HaveNoDash rest → IsTakenJust name count rest
taken_just name count rest some plain =
    let sub = takes_just name count rest some plain in
    let fault = fault_of_line name count rest in
    record {
      only = λ none. sub.only (sym fault ∙ none);
      passes = λ e. fault ∙ sub.passes e;
      gives = λ e. subcommand_of_line name count rest ∙ ap (λ (rows : List Row). Some (name, rows)) (sub.gives e);
    }
