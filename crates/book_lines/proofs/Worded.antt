-- What the items behind a first word state, by that word.
use Rattle.std.proofs.Common.{◌≡◌, ◌≢◌, ℕ, List, [], length, refl, ap, ◌∙◌, arith}
use Rattle.book_lines.specs.declared.book_word.BookWord.{BookWord}
use Rattle.book_lines.specs.declared.book_word.BookWord.TheVariants as word
use Rattle.book_lines.specs.declared.keyword.Keyword.TheVariants as first
use Rattle.book_lines.specs.declared.statement.Body.{Body}
use Rattle.book_lines.specs.declared.statement.SettingLine.{SettingLine}
use Rattle.book_lines.specs.declared.statement.ElbowLine.{ElbowLine}
use Rattle.book_lines.specs.declared.statement.TurnLine.{TurnLine}
use Rattle.book_lines.specs.declared.statement.SalvoLine.{SalvoLine}
use Rattle.book_lines.specs.declared.statement.Statement.{Statement}
use Rattle.book_lines.specs.declared.statement.Statement.TheVariants.{Setting, Hand, Elbow, Start, Turn, Salvo}
use Rattle.book_lines.specs.Limits.{limits}
use Rattle.book_lines.specs.Values.{Level}
use Rattle.book_lines.specs.Forms.{IsSettingLine, IsBody, IsElbowLine, IsOneName, IsTurnLine, IsSalvoLine}
use Rattle.book_lines.specs.Cuts.{StatesAs}

same_book : (v w : BookWord) → first.Book v ≡ first.Book w → v ≡ w
same_book v w e = cc e

-- a word without limits is no setting's
pub no_setting : (items : List (List ℕ)) (l : Level) (v : SettingLine) (w : BookWord) → limits w ≡ [] → first.Book v.word ≡ first.Book w → IsSettingLine l v items → ⊥
no_setting items l v w none e h =
    let count = h.count in
    let some = h.numbers_are.some in
    let no_limit : length (limits v.word) ≡ 0 = ap (λ (u : BookWord). length (limits u)) (same_book v.word w e) ∙ ap length none in
    omega arith

pub as_setting : (items : List (List ℕ)) (w : BookWord) → w ≢ word.Hand → w ≢ word.Elbow → w ≢ word.Start → (l : Level) (s : Statement) → StatesAs (first.Book w) items l s
    → (v : SettingLine) × ((v.word ≡ w) × IsSettingLine l v items)
as_setting items w a b c l (Setting v) h = (v, (same_book v.word w h.0, h.1))
as_setting items w a b c l (Hand v) h = absurd (a (cc h.0))
as_setting items w a b c l (Elbow v) h = absurd (b (cc h.0))
as_setting items w a b c l (Start v) h = absurd (c (cc h.0))
as_setting items w a b c l (Turn v) h = absurd (cc h.0)
as_setting items w a b c l (Salvo v) h = absurd (cc h.0)

pub as_hand : (items : List (List ℕ)) (l : Level) (s : Statement) → StatesAs (first.Book word.Hand) items l s → (v : Body) × IsBody l v items
as_hand items l (Hand v) h = (v, h.1)
as_hand items l (Setting v) h = absurd (no_setting items l v word.Hand refl h.0 h.1)
as_hand items l other h = absurd (cc h.0)

pub as_elbow : (items : List (List ℕ)) (l : Level) (s : Statement) → StatesAs (first.Book word.Elbow) items l s → (v : ElbowLine) × IsElbowLine l v items
as_elbow items l (Elbow v) h = (v, h.1)
as_elbow items l (Setting v) h = absurd (no_setting items l v word.Elbow refl h.0 h.1)
as_elbow items l other h = absurd (cc h.0)

pub as_start : (items : List (List ℕ)) (l : Level) (s : Statement) → StatesAs (first.Book word.Start) items l s → (v : List ℕ) × IsOneName v items
as_start items l (Start v) h = (v, h.1)
as_start items l (Setting v) h = absurd (no_setting items l v word.Start refl h.0 h.1)
as_start items l other h = absurd (cc h.0)

pub as_turn : (items : List (List ℕ)) (l : Level) (s : Statement) → StatesAs first.Turn items l s → (v : TurnLine) × IsTurnLine l v items
as_turn items l (Turn v) h = (v, h.1)
as_turn items l other h = absurd (cc h.0)

pub as_salvo : (items : List (List ℕ)) (l : Level) (s : Statement) → StatesAs first.Salvo items l s → (v : SalvoLine) × IsSalvoLine l v items
as_salvo items l (Salvo v) h = (v, h.1)
as_salvo items l other h = absurd (cc h.0)
