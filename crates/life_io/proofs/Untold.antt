-- What a buffer gained is a text or its start, where no texts are told.
use Rattle.std.proofs.Common.{◌≡◌, ℕ, ◌+◌, ◌≤◌, List, ◌++◌, length, drop, None, arith}
use Rattle.std.specs.Io.{StartsWith}
use Rattle.std.proofs.lemmas.Grind.{common_steps}
use Rattle.life_io.specs.Depots.{AppendsText, AppendsStart}

gained : (before now : List ℕ) → StartsWith now before → now ≡ before ++ drop (length before) now
gained before now h = grind (arith, common_steps)

pub text_of_untold : (name : List ℕ) (limit : ℕ) (before now : List ℕ) → StartsWith now before → length now ≤ length before + limit → AppendsText None name limit before now
text_of_untold name limit before now h n = record {
  text = drop (length before) now;
  appended = gained before now h;
  within = grind (arith, common_steps);
  named = tt;
}

pub start_of_untold : (name : List ℕ) (limit : ℕ) (before now : List ℕ) → StartsWith now before → length now ≡ length before + (limit + 1) → AppendsStart None name limit before now
start_of_untold name limit before now h n = record {
  start = drop (length before) now;
  appended = gained before now h;
  size = grind (arith, common_steps);
  named = tt;
}
