use Rattle.std.proofs.Common.{◌<◌, ◌^◌, take}
use Rattle.rle_items.specs.Numbers.{value}
use Rattle.life_rle.specs.Told.{TellsSize}
use Rattle.life_rle.proofs.place.size_of.Given as goal

-- the digits so far are told
abbrev pub invariant-loop-digit : goal.invariant-loop-digit
invariant-loop-digit l = record { told : TellsSize (value (take l.digit-index l.digits)) l.size; small : l.size < 2 ^ 45 }
