-- What standard error gains from a line that was put, in part or whole, or not at all.
use Rattle.std.specs.Prelude.{◌≡◌, ℕ, List, [], ◌∷◌, ◌++◌, length, take}
use Rattle.std.specs.Io.KnownBytes.{append_known}
use Rattle.std.specs.declared.option.Option.{Option}
use Rattle.std.specs.declared.option.Option.TheVariants.{Some, None}
use Rattle.std.proofs.Common.{refl, sym, ap, ◌∙◌, inl, inr}
use Rattle.std.proofs.Math.Seq.{take-length}
use Rattle.life_io.specs.Counts.{Rose}
use Rattle.life_io.specs.Sinks.{AppendsPrefix}
use Rattle.life_cli.specs.declared.status.Status.{Status}
use Rattle.life_cli.specs.declared.status.Status.TheVariants.{Done, WriteFault, Memory}
use Rattle.life_cli.specs.ErrorLines.{error_line, Gains, HasLine, without_line}

take_all : (xs : List ℕ) → take (length xs) xs ≡ xs
take_all xs = take-length xs

nothing_more : (known : Option (List ℕ)) → append_known known [] ≡ known
nothing_more None = refl
nothing_more (Some xs) = ap Some (none_behind xs)
  where
    none_behind : (xs : List ℕ) → xs ++ [] ≡ xs
    none_behind [] = refl
    none_behind (x ∷ xs) = ap (λ ys. x ∷ ys) (none_behind xs)

-- the whole line is a first part of itself, and nothing is one too
whole : (old new : Option (List ℕ)) (line : List ℕ) → new ≡ append_known old line → AppendsPrefix old new line
whole old new line e = record { prefix = line; begins = take_all line; appended = e }

none : (old new : Option (List ℕ)) (line : List ℕ) → new ≡ old → AppendsPrefix old new line
none old new line e = record { prefix = []; begins = refl; appended = e ∙ sym (nothing_more old) }

pub gains_line : (status : Status) (old new : Option (List ℕ)) (before now : ℕ) → HasLine status → new ≡ append_known old (error_line status) → Gains old new before now status
gains_line Done old new before now h e = absurd (h.0 refl)
gains_line Memory old new before now h e = absurd (h.1 refl)
gains_line WriteFault old new before now h e = whole old new (error_line WriteFault) e
gains_line other old new before now h e = inl e

pub gains_part : (status : Status) (old new : Option (List ℕ)) (before now : ℕ) → HasLine status → Rose before now → AppendsPrefix old new (error_line status) → Gains old new before now status
gains_part Done old new before now h r a = absurd (h.0 refl)
gains_part Memory old new before now h r a = absurd (h.1 refl)
gains_part WriteFault old new before now h r a = a
gains_part other old new before now h r a = inr (r, a)

pub gains_none : (status : Status) (old new : Option (List ℕ)) (before now : ℕ) → new ≡ old → Gains old new before now (without_line status)
gains_none WriteFault old new before now e = none old new (error_line WriteFault) e
gains_none other old new before now e = e
