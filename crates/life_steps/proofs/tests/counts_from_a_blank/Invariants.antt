use Rattle.life_steps.proofs.tests.counts_from_a_blank.Given as goal

-- the ledger of the blank that the test makes
abbrev pub ghosts-with_counter : goal.ghosts-with_counter
ghosts-with_counter a = record { name = a.blank.name; parts = a.blank.parts }
