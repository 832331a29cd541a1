-- Each stage of a command is exact: it passes with one value at most, and where it passes it doesn't refuse.
use Rattle.std.specs.Prelude.{◌≡◌, ◌≢◌, ℕ, ◌+ℤ◌, ◌≤ℤ◌, List, length}
use Rattle.std.specs.declared.option.Option.TheVariants.{Some}
use Rattle.std.proofs.Common.{refl, ap, subst, inl, inr, arith}
use Rattle.life_plane.specs.Plane.{Plane, IsStill, nothing}
use Rattle.life_cells.specs.Cells.{Cells, alive}
use Rattle.life_io.specs.Texts.{HeldText}
use Rattle.life_rle.specs.Text.{Means}
use Rattle.life_rle.specs.TextFaults.{IsFineText, TextStopsWith}
use Rattle.life_rle.specs.declared.error.RleError as rle
use Rattle.life_target.specs.Targets.{IsTarget, TargetIsRefused}
use Rattle.life_target.specs.declared.refusal.TargetError as target
use Rattle.std.specs.List.{AllByRecursion}
use Rattle.book_parts.specs.Proper.{IsProperKind}
use Rattle.book_parts.specs.declared.settings.Settings.{Settings}
use Rattle.book_parts.specs.declared.limits.TheConstants.{WALL_MARGIN}
use Rattle.book_parts.specs.declared.kind.RawKind.{RawKind}
use Rattle.book_parts.specs.declared.turn.RawTurn.{RawTurn}
use Rattle.book_text.specs.Book.{Said, Says, StopsWith}
use Rattle.book_read.specs.declared.error.BookError as book
use Rattle.recipe_turn.specs.Checked.{AreValid}
use Rattle.elbow_graph.specs.States.{HasStates}
use Rattle.recipe_book.specs.Checked.{CheckedEntries, said_of}
use Rattle.recipe_find.specs.Extended.{IsExtended}
use Rattle.recipe_find.specs.Refusals.{HasRoom, FindingIsRefused}
use Rattle.recipe_find.specs.declared.error.FindError.{FindError}
use Rattle.recipe_find.specs.declared.error.FindError.TheVariants as found
use Rattle.book_parts.specs.declared.limits.TheConstants.{MOST_STATES}
use Rattle.recipe_book.specs.Entries.{AreTheSound}
use Rattle.recipe_book.specs.Refusals.{BookIsRefused}
use Rattle.recipe_book.specs.declared.refusal.BookRefusal as check
use Rattle.build_plan.specs.declared.event.Plan.{Plan}
use Rattle.build_plan.specs.declared.error.PlanError.{PlanError}
use Rattle.build_plan.specs.declared.error.PlanError.TheVariants as stop
use Rattle.build_plan.specs.Plan.{IsPlan}
use Rattle.build_plan.specs.Stops.{PlanStops}
use Rattle.life_cli.specs.declared.status.Which.{Which}
use Rattle.life_cli.specs.declared.status.Status.{Status}
use Rattle.life_cli.specs.declared.status.Status.TheVariants.{TooLong, BadRle, BadBookText, BadTarget, BadBook, NoPlan, StreamLong, BookFull}
use Rattle.life_sample.specs.Sample.{IsSample}
use Rattle.life_words.specs.declared.command.Command.{Command}
use Rattle.life_words.specs.declared.command.Command.TheVariants.{Check, Extend, Compile, Certify, Audit, Replay, Sample}
use Rattle.life_cli.specs.Exact.{IsExact, AreExact}
use Rattle.life_cli.specs.Book.{ReadsAsBook, PassesTests, TestsRefuse}
use Rattle.life_cli.specs.Inputs.{IsHeld, Holds, FetchRefuses, IsUnread, BookTextStops, ReadsAsPattern, PatternTextStops}
use Rattle.life_cli.specs.Extended.{ComesTo, FinderRefuses}
use Rattle.life_cli.specs.Compiled.{TargetRefuses, HasPlan, PlanRefuses}
use Rattle.life_cli.specs.Commands.{IsUnknown, stages_of}
use Rattle.life_cli.proofs.OneBook.{OneTurns, OneSalvos, OneHits, one_book}

-- the laws of the parts: a text says one book and means one plane, one that is read has no refusal, and neither has a target or a book that passes
-- its tests; such a book is one, and so is a sample; and where a book has a plan, planning doesn't stop
pub record PartsAreExact : Type 0 where
  pub one_book : (text : List ℕ) (a b : Said) → Says text a → Says text b → a ≡ b
  pub book_read : (text : List ℕ) (said : Said) (e : book.BookError) → Says text said → (said.settings.wall +ℤ WALL_MARGIN) ≤ℤ said.settings.reach → StopsWith text e → e ≡ book.TheVariants.Memory
  pub one_plane : (text : List ℕ) (s t : Plane) → Means text s → Means text t → s ≡ t
  pub pattern_read : (text : List ℕ) (e : rle.RleError) → IsFineText text → TextStopsWith text e → e ≢ rle.TheVariants.Memory → ⊥
  pub target_taken : (s : Plane) (e : target.TargetError) → IsTarget s → TargetIsRefused s e → e ≡ target.TheVariants.Memory
  pub one_turns : OneTurns
  pub one_salvos : OneSalvos
  pub one_hits : OneHits
  pub book_taken : (settings : Settings) (hand : Cells) (kinds : List RawKind) (start : ℕ) (turns sound : List RawTurn) (count : ℕ) (e : check.BookRefusal) →
      AreValid settings kinds → IsStill (alive hand) → AreTheSound settings kinds turns sound → HasStates sound start settings.span MOST_STATES count →
      BookIsRefused settings hand kinds start turns e → e ≡ check.TheVariants.Memory
  pub one_whole : (book a b : Said) (budget : ℕ) → AllByRecursion IsProperKind book.kinds → AreValid book.settings book.kinds → IsExtended book budget a → IsExtended book budget b → a ≡ b
  pub not_full : (book whole : Said) (budget : ℕ) (e : FindError) → AllByRecursion IsProperKind book.kinds → AreValid book.settings book.kinds → IsExtended book budget whole → HasRoom whole →
      FindingIsRefused book budget e → e ≡ found.Memory
  pub one_sample : (count gap : ℕ) (book other : Said) → IsSample count gap book → IsSample count gap other → book ≡ other
  pub no_stop : (book : CheckedEntries) (target : Plane) (plan : Plan) (e : PlanError) → IsPlan book target plan → PlanStops book target e → e ≡ stop.Memory

-- ---- texts

-- one text has a name
one_text : (texts : List HeldText) (name a b : List ℕ) → IsHeld (Some texts) name a → IsHeld (Some texts) name b → a ≡ b
one_text texts name a b h k = let p = h.held in let q = k.held in cc

not_long : (texts : List HeldText) (name text : List ℕ) (which : Which) (status : Status) → IsHeld (Some texts) name text → FetchRefuses (Some texts) name which status → ⊥
not_long texts name text which (TooLong other) h (same, l) =
    let p = h.held in let q = l.held in
    let one : text ≡ l.text = cc in
    let n : length text ≡ length l.text = ap length one in
    let short = h.short in
    let long = l.long in
    absurd (omega arith)
not_long texts name text which other h r = absurd r

-- the stage of a text is exact where its reading is
input_is_exact : {Value : Type 0} (Reads : List ℕ → Value → Type 0) (Stops : List ℕ → Status → Type 0) (texts : List HeldText) (name : List ℕ) (which : Which) →
    ((text : List ℕ) → IsExact Value (Reads text) (Stops text)) → IsExact Value (Holds Value Reads (Some texts) name) (IsUnread Stops (Some texts) name which)
input_is_exact {Value} Reads Stops texts name which exact = record {
  one = λ a b h k. (exact h.text).one a b h.reads (subst (λ (t : List ℕ). Reads t b) (one_text texts name k.text h.text k.held h.held) k.reads);
  apart = λ value status h r. apart value status h r;
}
  where
    apart : (value : Value) (status : Status) → Holds Value Reads (Some texts) name value → IsUnread Stops (Some texts) name which status → ⊥
    apart value status h (inl long) = not_long texts name h.text which status h.held long
    apart value status h (inr (text, (k, stops))) = (exact h.text).apart value status h.reads (subst (λ (t : List ℕ). Stops t status) (one_text texts name text h.text k h.held) stops)

book_is_exact : PartsAreExact → (text : List ℕ) → IsExact Said (ReadsAsBook text) (BookTextStops text)
book_is_exact x text = record { one = λ a b h k. x.one_book text a b h.says k.says; apart = λ said status h r. apart said status h r }
  where
    apart : (said : Said) (status : Status) → ReadsAsBook text said → BookTextStops text status → ⊥
    apart said (BadBookText e) h r = r.0 (x.book_read text said e h.says h.wide r.1)
    apart said other h r = absurd r

pattern_is_exact : PartsAreExact → (which : Which) (text : List ℕ) → IsExact Plane (ReadsAsPattern text) (PatternTextStops which text)
pattern_is_exact x which text = record { one = λ s t h k. x.one_plane text s t h.means k.means; apart = λ s status h r. apart s status h r }
  where
    apart : (s : Plane) (status : Status) → ReadsAsPattern text s → PatternTextStops which text status → ⊥
    apart s (BadRle other e) h r = x.pattern_read text e h.fine r.1.1 r.1.0
    apart s other h r = absurd r

-- ---- tests

-- a stage without a value has one
test_is_exact : (Holds : Type 0) (Refuses : Status → Type 0) → ((status : Status) → Holds → Refuses status → ⊥) → IsExact (Unit {0}) (λ _. Holds) Refuses
test_is_exact Holds Refuses apart = record { one = λ a b h k. refl; apart = λ u status h r. apart status h r }

target_apart : PartsAreExact → (s : Plane) (status : Status) → IsTarget s → TargetRefuses s status → ⊥
target_apart x s (BadTarget e) is r = r.0 (x.target_taken s e is r.1)
target_apart x s other is r = absurd r

tests_are_exact : PartsAreExact → (said : Said) → IsExact CheckedEntries (PassesTests said) (TestsRefuse said)
tests_are_exact x said = record { one = λ a b h k. one_book x.one_turns x.one_salvos x.one_hits said a b h k; apart = λ book status h r. apart book status h r }
  where
    apart : (book : CheckedEntries) (status : Status) → PassesTests said book → TestsRefuse said status → ⊥
    apart book (BadBook e) h r = r.0 (x.book_taken said.settings said.hand said.kinds said.start said.turns _ h.count e h.valid h.still h.turns h.states r.1)
    apart book other h r = absurd r

plan_apart : PartsAreExact → (book : CheckedEntries) (target : Plane) (status : Status) → HasPlan book target → PlanRefuses book target status → ⊥
plan_apart x book target (NoPlan (stop.NoRecipe island at)) h r = let is = x.no_stop book target h.0 (stop.NoRecipe island at) h.1 r in cc
plan_apart x book target (NoPlan (stop.NoClosing kind shift)) h r = let is = x.no_stop book target h.0 (stop.NoClosing kind shift) h.1 r in cc
plan_apart x book target (StreamLong count) h r = let is = x.no_stop book target h.0 (stop.StreamLong count) h.1 r in cc
plan_apart x book target other h r = absurd r

finder_is_exact : PartsAreExact → (book : CheckedEntries) (budget : ℕ) → IsExact Said (ComesTo book budget) (FinderRefuses book budget)
finder_is_exact x book budget = record {
  one = λ a b h k. x.one_whole (said_of book) a b budget h.kinds h.valid h.extended k.extended;
  apart = λ whole status h r. apart whole status h r;
}
  where
    apart : (whole : Said) (status : Status) → ComesTo book budget whole → FinderRefuses book budget status → ⊥
    apart whole (BookFull what count) h r = let is = x.not_full (said_of book) whole budget (found.BookFull what count) h.kinds h.valid h.extended h.room r in cc
    apart whole other h r = absurd r

-- ---- commands

pub commands_are_exact : PartsAreExact → (texts : List HeldText) (command : Command) → AreExact (stages_of (Some texts) command)
commands_are_exact x texts (Check book) =
    (input_is_exact ReadsAsBook BookTextStops texts book _ (book_is_exact x), λ said. (tests_are_exact x said, λ checked. tt))
commands_are_exact x texts (Extend book n) =
    (input_is_exact ReadsAsBook BookTextStops texts book _ (book_is_exact x), λ said. (tests_are_exact x said, λ checked. (finder_is_exact x checked n, λ whole. tt)))
commands_are_exact x texts (Compile book target) = (
  input_is_exact ReadsAsBook BookTextStops texts book _ (book_is_exact x),
  λ said. (
    input_is_exact ReadsAsPattern (PatternTextStops _) texts target _ (pattern_is_exact x _),
    λ s. (
      test_is_exact (IsTarget s) (TargetRefuses s) (target_apart x s),
      λ _. (tests_are_exact x said, λ checked. (test_is_exact (HasPlan checked s) (PlanRefuses checked s) (plan_apart x checked s), λ _. tt)),
    ),
  ),
)
commands_are_exact x texts (Replay pattern n) = (input_is_exact ReadsAsPattern (PatternTextStops _) texts pattern _ (pattern_is_exact x _), λ s. tt)
commands_are_exact x texts (Certify book target) = (test_is_exact ⊥ IsUnknown (λ status h r. h), λ _. tt)
commands_are_exact x texts (Audit book target cert) = (test_is_exact ⊥ IsUnknown (λ status h r. h), λ _. tt)
commands_are_exact x texts (Sample count gap) = (
  record { one = λ a b h k. x.one_sample count gap a b h k; apart = λ said status h r. r },
  λ said. (
    test_is_exact (IsTarget nothing) (TargetRefuses nothing) (target_apart x nothing),
    λ _. (tests_are_exact x said, λ checked. (test_is_exact (HasPlan checked nothing) (PlanRefuses checked nothing) (plan_apart x checked nothing), λ _. tt)),
  ),
)
