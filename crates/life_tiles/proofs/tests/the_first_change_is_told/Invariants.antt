use Rattle.life_tiles.proofs.tests.the_first_change_is_told.Given as goal

-- the ledger of each blank that the test makes
abbrev pub ghosts-change_of : goal.ghosts-change_of
ghosts-change_of g a = record { name = a.blank.name; parts = a.blank.parts }
