-- Texts that are kept under names.
use Rattle.std.specs.Prelude.{ℕ, List, IsSome, IsSomeAnd}
use Rattle.std.specs.List.{find}
use Rattle.std.specs.Option.{option_map}
use Rattle.std.specs.declared.option.Option.{Option}
use Rattle.std.specs.Str.{bytes_eq}

-- a text under its name, both as bytes
pub record HeldText : Type 0 where
  pub name : List ℕ
  pub text : List ℕ

-- the text of a name, if one is held: of two under one name the first is meant
abbrev pub text_of : List HeldText → List ℕ → Option (List ℕ)
text_of texts name =
    option_map (λ (t : HeldText). t.text) (find (λ (t : HeldText). bytes_eq t.name name) texts)

-- the texts are told, and one of them has this name
abbrev pub Holds : Option (List HeldText) → List ℕ → Type 0
Holds told name = IsSomeAnd told (λ texts. IsSome (text_of texts name))
