-- What `clap` answers to words that begin with a command's name.
use Rattle.std.proofs.Common.{◌≡◌, ◌∙◌, ◌<◌, ℕ, true, refl, sym, ap, ap₂, subst, inl, inr, List, [], ◌∷◌, length, Some}
use Rattle.std.specs.Prelude.{◌≢◌, codes, option_map, unwrap_or}
use Rattle.std.proofs.Common.{Bor, Option, None, map}
use Rattle.std.specs.Option.{IsSome}
use Rattle.clap.specs.Matches.{matched_of, raw_values}
use Rattle.clap.specs.Walk.{Row, all_of}
use Rattle.clap.proofs.WalkLemmas.{raw_values-rows}
use Rattle.clap.specs.Words.{App, HasMatchesOf, is_simple, rows_of, found_of, subcommand_of, subcommand_rows_of}
use Rattle.clap.specs.Faults.{fault_of, is_simple_and_free}
use Rattle.clap.specs.Kinds.{HasKind, IsAmong, Kinds}
use Rattle.clap.specs.Values.{kind_of}
use Rattle.clap.specs.Walk.{Text}
use Rattle.clap.specs.declared.parser.matches.ArgMatches.{ArgMatches}
use Rattle.clap.specs.declared.error.Error.{Error}
use Rattle.clap.specs.declared.error.kind.ErrorKind.TheVariants as kind
use Rattle.life_words.specs.Words.{Words, BeginWith, texts_of}
use Rattle.life_words.specs.CommandLine.{line_of, values_row}
use Rattle.life_words.proofs.Level.{HaveNoDash, simple, simple_and_free}
use Rattle.life_words.proofs.Line.{taken_just}
use Rattle.life_words.proofs.Dashes.{no_dashes}

no_dashes_behind : (words : Words) (name : Text) (rest : List Text) → BeginWith words name rest → HaveNoDash rest
no_dashes_behind words name rest begin = let all = subst HaveNoDash begin.whole (no_dashes words begin.plain) in all.1

pub read_by_clap : (a : App) (words : Words) (name : Text) (count : ℕ) (m : ArgMatches) → a ≡ line_of name count → 0 < count
    → (is_simple_and_free a ≡ true → fault_of a (texts_of words) ≡ []) → HasMatchesOf a (texts_of words) m
    → (rest : List Text) → BeginWith words name rest → (length rest ≡ count) × (subcommand_rows_of m ≡ Some (name, values_row rest ∷ []))
read_by_clap a words name count m is some kinds matches rest begin =
    let taken = taken_just name count rest some (no_dashes_behind words name rest begin) in
    let fits = taken.only (sym (ap₂ fault_of is begin.whole) ∙ kinds (ap is_simple_and_free is ∙ simple_and_free name count)) in
    (fits, (matches (ap is_simple is ∙ simple name count)).1 ∙ (ap₂ subcommand_of is begin.whole ∙ taken.gives fits))

pub refused_by_clap : (a : App) (words : Words) (name : Text) (count : ℕ) (e : Error) → a ≡ line_of name count → 0 < count
    → (is_simple_and_free a ≡ true → HasKind (fault_of a (texts_of words)) e) → (kind_of e ≡ kind.OutOfMemory → ⊥)
    → (rest : List Text) → BeginWith words name rest → length rest ≢ count
refused_by_clap a words name count e is some kinds other rest begin fits =
    let taken = taken_just name count rest some (no_dashes_behind words name rest begin) in
    let none : fault_of a (texts_of words) ≡ [] = ap₂ fault_of is begin.whole ∙ taken.passes fits in
    elim (kinds (ap is_simple_and_free is ∙ simple_and_free name count)) [
      | inl memory ↦ other memory
      | inr among ↦ subst (λ (ks : Kinds). IsAmong (kind_of e) ks) none among
    ]

-- the texts that the subcommand's argument was given
pub texts_found : (m : ArgMatches) (name : Text) (rest : List Text) (E : Type 0) (met : Option E) (one : E) (found : E → ArgMatches)
    → subcommand_rows_of m ≡ Some (name, values_row rest ∷ []) → option_map (λ p. rows_of (found_of (found p))) met ≡ option_map (λ p. p.1) (subcommand_rows_of m) → met ≡ Some one
    → option_map raw_values (matched_of (found_of (found one)) (codes "values")) ≡ Some rest
texts_found m name rest E met one found rows same is =
    let some : Some (rows_of (found_of (found one))) ≡ Some (values_row rest ∷ []) = sym (ap (option_map (λ p. rows_of (found_of (found p)))) is) ∙ (same ∙ ap (option_map (λ p. p.1)) rows) in
    raw_values-rows (found_of (found one)) (codes "values") ∙ ap (λ (o : Option (List Row)). all_of (codes "values") (unwrap_or o [])) some

-- texts behind references, where there are some
abbrev texts_behind : Bor (List (Bor Text)) → List Text
texts_behind s = map (λ (v : Bor Text). v.now) s.now

pub some_texts : (o : Option (Bor (List (Bor Text)))) (rest : List Text) → option_map texts_behind o ≡ Some rest → IsSome o
some_texts None rest e = cc
some_texts (Some s) rest e = refl

pub these_texts : (o : Option (Bor (List (Bor Text)))) (s : Bor (List (Bor Text))) (rest : List Text) → option_map texts_behind o ≡ Some rest → o ≡ Some s → texts_behind s ≡ rest
these_texts o s rest e is = let some : Some (texts_behind s) ≡ Some rest = sym (ap (option_map texts_behind) is) ∙ e in ap (λ (x : Option (List Text)). unwrap_or x []) some
