use Rattle.life_tiles.proofs.tests.patterns_evolve.Given as goal

-- the ledger of the blank that the test makes
abbrev pub ghosts-step_once : goal.ghosts-step_once
ghosts-step_once g a = record { name = a.blank.name; parts = a.blank.parts }
