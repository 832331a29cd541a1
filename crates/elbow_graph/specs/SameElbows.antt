-- Elbows that compare as equal are the same.
use Rattle.std.specs.Prelude.{◌&&◌, Bool, nat_eq}
use Rattle.std.specs.Ordering.{int_eq}
use Rattle.elbow_graph.specs.declared.elbow.Elbow.{Elbow}

-- the kinds and the shifts are the same
abbrev pub elbow_eq : Elbow → Elbow → Bool
elbow_eq a b = nat_eq a.kind b.kind && int_eq a.shift b.shift
