-- What a buffer gains from a source whose bytes may be known.
use Rattle.std.specs.Prelude.{◌≡◌, ℕ, List, ◌++◌}
use Rattle.std.specs.Io.{StartsWith}
use Rattle.std.specs.Io.KnownBytes.{Appends, Consumes}
use Rattle.std.specs.declared.option.Option.{Option}

-- the buffer gained a piece, which the source lost from its front
pub record HasTaken (known left : Option (List ℕ)) (before now : List ℕ) : Type 0 where
  pub piece : List ℕ
  pub appended : now ≡ before ++ piece
  pub taken : Consumes known left piece

-- known bytes grew by a first part of these, perhaps none of them or all
pub record GainsPrefix (before now : Option (List ℕ)) (bytes : List ℕ) : Type 0 where
  pub prefix : List ℕ
  pub begins : StartsWith bytes prefix
  pub appended : Appends before now prefix

-- known bytes grew by what these have before the rest
pub record GainsUpTo (before now : Option (List ℕ)) (bytes rest : List ℕ) : Type 0 where
  pub prefix : List ℕ
  pub split : bytes ≡ prefix ++ rest
  pub appended : Appends before now prefix
