use Rattle.life_cases.proofs.main.Given as goal

-- the ledger of the blank that main makes
abbrev pub ghosts-run : goal.ghosts-run
ghosts-run a = record { name = a.blank.name; parts = a.blank.parts }
