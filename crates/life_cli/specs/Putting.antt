-- Why the answer was not put, or not all of it.
use Rattle.std.specs.Prelude.{◌≡◌, ℕ, List}
use Rattle.std.specs.declared.option.Option.{Option}
use Rattle.life_io.specs.Counts.{Rose}
use Rattle.life_io.specs.Sinks.{AppendsPrefix}
use Rattle.life_cli.specs.declared.status.Status.{Status}
use Rattle.life_cli.specs.declared.status.Status.TheVariants.{WriteFault, Memory}

-- a text was not put, or not all of it; the sink's counts of faults stand before and now
abbrev pub PuttingRefuses : Option (List ℕ) → Option (List ℕ) → List ℕ → ℕ → ℕ → Status → Type 0
PuttingRefuses old new bytes before now WriteFault = Rose before now × AppendsPrefix old new bytes
PuttingRefuses old new bytes before now Memory = new ≡ old
PuttingRefuses old new bytes before now other = ⊥
