-- What `clap` makes of words without dashes: the subcommand, and as many texts behind it as it takes.
use Rattle.std.proofs.Common.{◌≡◌, ◌∙◌, ◌<◌, ◌==◌, ℕ, Bool, cond, true, false, refl, sym, ap, subst, arith, List, [], ◌∷◌, ◌++◌, length, Some, None, append-nil, append_assoc}
use Rattle.std.specs.Prelude.{codes}
use Rattle.std.proofs.Common.{inl, inr, lt-ltb}
use Rattle.std.proofs.Math.Bool.{or-true}
use Rattle.std.proofs.lemmas.Bool.{cases_lt}
use Rattle.std.proofs.lemmas.Bool.Decides.{nat_tests}
use Rattle.std.specs.List.{AllByRecursion, fold}
use Rattle.clap.specs.Kinds.{Kinds, or_else, range_kinds, values_kinds}
use Rattle.clap.specs.Faults.{is_simple_and_free, level_fault, turn_fault, walk_fault, use_fault, defaults_fault, settle_fault, check_fault}
use Rattle.clap.specs.Walk.{Rule, Text, Walk, Held, Step, idle, positional, value, word_met, after_step, settled, finished, takes_several, nothing_held, walk, walk_from, walked, rows_after}
use Rattle.clap.specs.Simple.{Shape, built, is_simple, filled, with_index}
use Rattle.clap.specs.declared.builder.value_parser.ValueParser.TheVariants as vp
use Rattle.clap.specs.declared.error.kind.ErrorKind.TheVariants as kind
use Rattle.life_words.specs.Words.{has_dash}
use Rattle.life_words.specs.CommandLine.{line_of, values_rule, values_row}

-- the argument as `clap` builds it
abbrev pub built_rule : ℕ → Rule
built_rule count = with_index 1 (filled (values_rule count))

abbrev id : Text
id = codes "values"

-- no text begins with a dash
abbrev pub HaveNoDash : List Text → Type 0
HaveNoDash = AllByRecursion (λ (word : Text). has_dash word ≡ false)

-- the subcommand as `clap` builds it
abbrev pub sub_of : Text → ℕ → Shape
sub_of name count = record {
  name = name;
  aliases = [];
  rules = built_rule count ∷ [];
  is_plain = true;
  is_leaf = true;
  no_binary_name = true;
  disable_help_flag = true;
  disable_help_subcommand = true;
  disable_version_flag = false;
  propagate_version = false;
  has_version = false;
  has_long_version = false;
  args_override_self = false;
  arg_required_else_help = false;
  subcommand_required = false;
  subcommand_negates_reqs = false;
  is_built = true;
}

built_subs : (name : Text) (count : ℕ) → (built (line_of name count)).subs ≡ sub_of name count ∷ []
built_subs name count = refl

-- the command line is simple, however many texts are taken
pub simple_and_free : (name : Text) (count : ℕ) → is_simple_and_free (line_of name count) ≡ true
simple_and_free name count = go (takes_several (built_rule count)) refl
  where
    go : (b : Bool) → takes_several (built_rule count) ≡ b → is_simple_and_free (line_of name count) ≡ true
    go true e = rw e refl
    go false e = rw e refl

pub simple : (name : Text) (count : ℕ) → is_simple (line_of name count) ≡ true
simple name count = go (takes_several (built_rule count)) refl
  where
    go : (b : Bool) → takes_several (built_rule count) ≡ b → is_simple (line_of name count) ≡ true
    go true e = rw e refl
    go false e = rw e refl

-- ---- one text for the argument, and several

-- the walk where the argument has these texts so far
abbrev so_far : List Text → Walk
so_far texts = record {
  held = record { rows = []; pending = Some (id, texts); skip = 0 };
  waiting = positional;
  position = 1;
  is_trailing = false;
  stopped = None;
}

-- a word without a dash goes to an argument by its place
next_word_met : (c : List Rule) (w : Text) (h : Held) → has_dash w ≡ false → word_met c [] false positional 1 w h ≡ (h, value)
next_word_met c [] h plain = refl
next_word_met c (b ∷ bs) h plain = rw plain (rw plain refl)

first_word_met : (c : List Rule) (w : Text) (h : Held) → has_dash w ≡ false → word_met c [] false idle 1 w h ≡ (h, value)
first_word_met c [] h plain = refl
first_word_met c (b ∷ bs) h plain = rw plain (rw plain refl)

first_of_several : (count : ℕ) (w : Text) → takes_several (built_rule count) ≡ true → has_dash w ≡ false
    → walked (built_rule count ∷ []) [] (walk_from nothing_held) w ≡ so_far (w ∷ [])
unfolding walked
first_of_several count w several plain =
    let c = built_rule count ∷ [] in
    ap (λ (m : Held × Step). after_step c w (walk_from nothing_held) m.0 m.1) (first_word_met c w nothing_held plain) ∙ rw several refl

one_more : (count : ℕ) (texts : List Text) (w : Text) → takes_several (built_rule count) ≡ true → has_dash w ≡ false
    → walked (built_rule count ∷ []) [] (so_far texts) w ≡ so_far (texts ++ w ∷ [])
unfolding walked
one_more count texts w several plain =
    let c = built_rule count ∷ [] in
    ap (λ (m : Held × Step). after_step c w (so_far texts) m.0 m.1) (next_word_met c w (so_far texts).held plain) ∙ rw several refl

all_more : (count : ℕ) (texts ws : List Text) → takes_several (built_rule count) ≡ true → HaveNoDash ws
    → fold (walked (built_rule count ∷ []) []) (so_far texts) ws ≡ so_far (texts ++ ws)
all_more count texts [] several plain = ap so_far (sym (append-nil texts))
all_more count texts (w ∷ ws) several plain =
    ap (λ (k : Walk). fold (walked (built_rule count ∷ []) []) k ws) (one_more count texts w several plain.0)
    ∙ (all_more count (texts ++ w ∷ []) ws several plain.1 ∙ ap so_far (append_assoc texts (w ∷ []) ws))

walk_of_several : (count : ℕ) (w : Text) (ws : List Text) → takes_several (built_rule count) ≡ true → HaveNoDash (w ∷ ws)
    → walk (built_rule count ∷ []) [] nothing_held (w ∷ ws) ≡ so_far (w ∷ ws)
walk_of_several count w ws several plain =
    ap (λ (k : Walk). fold (walked (built_rule count ∷ []) []) k ws) (first_of_several count w several plain.0)
    ∙ all_more count (w ∷ []) ws several plain.1

-- ---- faults of the walk

no_fault_first : (name : Text) (count : ℕ) (w : Text) → has_dash w ≡ false → turn_fault (sub_of name count) [] (walk_from nothing_held) w ≡ []
no_fault_first name count [] plain = refl
no_fault_first name count (b ∷ bs) plain = rw plain (rw plain refl)

no_fault_more : (name : Text) (count : ℕ) (texts : List Text) (w : Text) → takes_several (built_rule count) ≡ true → has_dash w ≡ false
    → turn_fault (sub_of name count) [] (so_far texts) w ≡ []
no_fault_more name count texts [] several plain = rw several refl
no_fault_more name count texts (b ∷ bs) several plain = rw plain (rw plain (rw several refl))

no_fault_walk : (name : Text) (count : ℕ) (texts ws : List Text) → takes_several (built_rule count) ≡ true → HaveNoDash ws
    → walk_fault (sub_of name count) [] (so_far texts) ws ≡ []
unfolding walk_fault
no_fault_walk name count texts [] several plain = refl
no_fault_walk name count texts (w ∷ ws) several plain =
    ap (λ (k : Kinds). or_else k (walk_fault (sub_of name count) [] (walked (built_rule count ∷ []) [] (so_far texts) w) ws)) (no_fault_more name count texts w several plain.0)
    ∙ (ap (λ (k : Walk). walk_fault (sub_of name count) [] k ws) (one_more count texts w several plain.0) ∙ no_fault_walk name count (texts ++ w ∷ []) ws several plain.1)

no_fault_whole : (name : Text) (count : ℕ) (w : Text) (ws : List Text) → takes_several (built_rule count) ≡ true → HaveNoDash (w ∷ ws)
    → walk_fault (sub_of name count) [] (walk_from nothing_held) (w ∷ ws) ≡ []
unfolding walk_fault
no_fault_whole name count w ws several plain =
    ap (λ (k : Kinds). or_else k (walk_fault (sub_of name count) [] (walked (built_rule count ∷ []) [] (walk_from nothing_held) w) ws)) (no_fault_first name count w plain.0)
    ∙ (ap (λ (k : Walk). walk_fault (sub_of name count) [] k ws) (first_of_several count w several plain.0) ∙ no_fault_walk name count (w ∷ []) ws several plain.1)

-- ---- after the walk

every_text_passes : (texts : List Text) → values_kinds false vp.String texts ≡ []
every_text_passes [] = refl
every_text_passes (t ∷ ts) = every_text_passes ts

pub or_else_none : (kinds : Kinds) → or_else kinds [] ≡ kinds
or_else_none [] = refl
or_else_none (k ∷ ks) = refl

-- one use of the argument fails by the number of its texts alone
fault_of_use : (count : ℕ) (w : Text) (ws : List Text) → use_fault false (built_rule count) (w ∷ ws) [] ≡ range_kinds count count (length (w ∷ ws))
fault_of_use count w ws = ap (or_else (range_kinds count count (length (w ∷ ws)))) (every_text_passes (w ∷ ws)) ∙ or_else_none (range_kinds count count (length (w ∷ ws)))

-- the subcommand fails by that
fault_of_several : (name : Text) (count : ℕ) (w : Text) (ws : List Text) → takes_several (built_rule count) ≡ true → HaveNoDash (w ∷ ws)
    → level_fault (sub_of name count) [] nothing_held (w ∷ ws) false [] ≡ range_kinds count count (length (w ∷ ws))
unfolding defaults_fault
fault_of_several name count w ws several plain =
    let s = sub_of name count in
    let after = λ (e : Held). or_else (settle_fault s.rules false e) (or_else (defaults_fault (settled s.rules e).rows s.rules) (check_fault s (finished s.rules e) false)) in
    let none = no_fault_whole name count w ws several plain in
    let end = walk_of_several count w ws several plain in
    ap (λ (k : Kinds). or_else k (after (walk s.rules [] nothing_held (w ∷ ws)).held)) none
    ∙ (ap (λ (k : Walk). after k.held) end
    ∙ (ap (λ (k : Kinds). or_else k []) (fault_of_use count w ws) ∙ or_else_none (range_kinds count count (length (w ∷ ws)))))

rows_of_several : (count : ℕ) (w : Text) (ws : List Text) → takes_several (built_rule count) ≡ true → HaveNoDash (w ∷ ws)
    → rows_after (built_rule count ∷ []) [] (w ∷ ws) ≡ values_row (w ∷ ws) ∷ []
rows_of_several count w ws several plain = ap (λ (k : Walk). finished (built_rule count ∷ []) k.held) (walk_of_several count w ws several plain)

-- without texts the argument is missing
fault_of_none : (name : Text) (count : ℕ) → level_fault (sub_of name count) [] nothing_held [] false [] ≡ kind.MissingRequiredArgument ∷ []
unfolding defaults_fault walk_fault
fault_of_none name count = refl

-- ---- one text alone

fault_of_one : (name : Text) (w : Text) → HaveNoDash (w ∷ []) → level_fault (sub_of name 1) [] nothing_held (w ∷ []) false [] ≡ []
unfolding defaults_fault walk_fault walked
fault_of_one name [] plain = refl
fault_of_one name (b ∷ bs) (plain, _) = rw plain (rw plain refl)

rows_of_one : (w : Text) → HaveNoDash (w ∷ []) → rows_after (built_rule 1 ∷ []) [] (w ∷ []) ≡ values_row (w ∷ []) ∷ []
unfolding walked
rows_of_one [] plain = refl
rows_of_one (b ∷ bs) (plain, _) = rw plain (rw plain refl)

fault_of_many : (name : Text) (w v : Text) (ws : List Text) → HaveNoDash (w ∷ (v ∷ ws))
    → level_fault (sub_of name 1) [] nothing_held (w ∷ (v ∷ ws)) false [] ≡ kind.UnknownArgument ∷ []
unfolding defaults_fault walk_fault walked
fault_of_many name [] [] ws plain = refl
fault_of_many name [] (a ∷ cs) ws (_, (plain, _)) = rw plain (rw plain refl)
fault_of_many name (b ∷ bs) [] ws (plain, _) = rw plain (rw plain refl)
fault_of_many name (b ∷ bs) (a ∷ cs) ws (one, (two, _)) = rw one (rw one (rw two (rw two refl)))

-- ---- any number of texts

takes_several_texts : (count : ℕ) → 1 < count → takes_several (built_rule count) ≡ true
takes_several_texts count h = rw (lt-ltb 1 count h) (or-true _)

-- the number of texts is right or is not
count_is_right : (count : ℕ) → 0 < count → range_kinds count count count ≡ []
count_is_right count some =
    let one : (count == 0) ≡ false = grind (arith, nat_tests) in
    let same : (count == count) ≡ true = grind (arith, nat_tests) in
    rw (lt-ltb 0 count some, one, same) refl

right_count : (count n : ℕ) → range_kinds count count n ≡ [] → 0 < count → 0 < n → n ≡ count
right_count count n none some more =
    let one : (n == 0) ≡ false = grind (arith, nat_tests) in
    let same : (count == count) ≡ true = grind (arith, nat_tests) in
    go (count == n) refl (rw (lt-ltb 0 count some, one, same) at none)
  where
    go : (b : Bool) → (count == n) ≡ b → cond b [] (kind.WrongNumberOfValues ∷ []) ≡ [] → n ≡ count
    go true e k = grind (arith, nat_tests)
    go false e k = cc

-- The subcommand takes just so many texts, and gives them.
pub record TakesJust (name : Text) (count : ℕ) (rest : List Text) : Type 0 where
  pub only : level_fault (sub_of name count) [] nothing_held rest false [] ≡ [] → length rest ≡ count
  pub passes : length rest ≡ count → level_fault (sub_of name count) [] nothing_held rest false [] ≡ []
  pub gives : length rest ≡ count → rows_after (built_rule count ∷ []) [] rest ≡ values_row rest ∷ []

pub takes_just : (name : Text) (count : ℕ) (rest : List Text) → 0 < count → HaveNoDash rest → TakesJust name count rest
takes_just name count [] some plain = record {
  only = λ none. let missing = fault_of_none name count in cc;
  passes = λ e. absurd (omega arith);
  gives = λ e. absurd (omega arith);
}
takes_just name count (w ∷ ws) some plain = elim (cases_lt 1 count) [
  | inl several ↦
      let many = takes_several_texts count several in
      let fault = fault_of_several name count w ws many plain in
      record {
        only = λ none. right_count count (length (w ∷ ws)) (sym fault ∙ none) some (omega arith);
        passes = λ e. fault ∙ (ap (range_kinds count count) e ∙ count_is_right count some);
        gives = λ e. rows_of_several count w ws many plain;
      }
  | inr few ↦
      let one : 1 ≡ count = omega arith in
      subst (λ (n : ℕ). TakesJust name n (w ∷ ws)) one (takes_one name w ws plain)
]
  where
    takes_one : (name : Text) (w : Text) (ws : List Text) → HaveNoDash (w ∷ ws) → TakesJust name 1 (w ∷ ws)
    takes_one name w [] plain = record { only = λ none. refl; passes = λ e. fault_of_one name w plain; gives = λ e. rows_of_one w plain }
    takes_one name w (v ∷ ws) plain = record {
      only = λ none. let many = fault_of_many name w v ws plain in cc;
      passes = λ e. absurd (omega arith);
      gives = λ e. absurd (omega arith);
    }
