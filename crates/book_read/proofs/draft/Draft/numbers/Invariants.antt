use Rattle.std.proofs.Common.{◌≡◌, drop}
use Rattle.book_read.specs.Drafted.{numbers_of}
use Rattle.book_read.proofs.draft.Draft.numbers.Given as goal

-- none of the settings so far has the word
abbrev pub invariant-loop-setting : goal.invariant-loop-setting
invariant-loop-setting l = numbers_of l.self.settings.items l.word ≡ numbers_of (drop l.setting-index l.setting-items) l.word
