-- Whether two keys are one.
use Rattle.std.specs.Prelude.{◌&&◌, Bool, nat_eq}
use Rattle.std.specs.Option.{option_eq}
use Rattle.std.specs.Ordering.{int_eq}
use Rattle.elbow_graph.specs.declared.table.TurnKey.{TurnKey}

-- the kinds and the lanes are the same
abbrev pub key_eq : TurnKey → TurnKey → Bool
key_eq a b = nat_eq a.kind b.kind && option_eq int_eq a.lane b.lane
