-- A piece that is written part by part.
use Rattle.std.proofs.Common.{◌≡◌, ℕ, List, ◌++◌, take, drop, append_assoc, arith}
use Rattle.std.specs.Io.KnownBytes.{Appends}
use Rattle.std.specs.declared.option.Option.{Option}
use Rattle.std.specs.declared.option.Option.TheVariants.{None, Some}
use Rattle.std.proofs.lemmas.Grind.{common_steps}
use Rattle.life_io.specs.Taken.{GainsUpTo}

Appends-append : (a b c : Option (List ℕ)) (p q : List ℕ) → Appends a b p → Appends b c q → Appends a c (p ++ q)
Appends-append None b c p q u v = tt
Appends-append (Some xs) None c p q u v = absurd u
Appends-append (Some xs) (Some ys) None p q u v = absurd v
Appends-append (Some xs) (Some ys) (Some zs) p q u v = rw (v, u) (append_assoc xs p q)

split_on : (bytes prefix rest : List ℕ) (n : ℕ) → bytes ≡ prefix ++ rest → bytes ≡ (prefix ++ take n rest) ++ drop n rest
split_on bytes prefix rest n e = grind (arith, common_steps)

pub gains_more : {a b c : Option (List ℕ)} {bytes rest : List ℕ} (n : ℕ) (next : List ℕ) → GainsUpTo a b bytes rest → Appends b c (take n rest) → next ≡ drop n rest → GainsUpTo a c bytes next
gains_more {a} {b} {c} {bytes} {rest} n next g h e = record {
  prefix = g.prefix ++ take n rest;
  split = rw e (split_on bytes g.prefix rest n g.split);
  appended = Appends-append a b c g.prefix (take n rest) g.appended h;
}
