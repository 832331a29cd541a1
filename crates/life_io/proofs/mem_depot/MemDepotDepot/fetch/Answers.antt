use Rattle.std.proofs.Common.{◌⊎◌, ◌↔◌, inl, inr}
use Rattle.life_io.proofs.mem_depot.MemDepotDepot.fetch.Goals as goal

-- a cause may be named by what it is equal to
same_cause : {R D C N : Type 0} → (R ↔ (D ⊎ N)) → (D ↔ C) → R ↔ (C ⊎ N)
same_cause f d = (
  λ r. elim (f.0 r) [ inl x ↦ inl (d.0 x) | inr y ↦ inr y ],
  λ s. f.1 (elim s [ inl x ↦ inl (d.1 x) | inr y ↦ inr y ]),
)

pub returns-clause-fails : goal.returns-clause-fails
returns-clause-fails c =
    let due = rw (c.deref.ensures.value, c.saturating_add-self-inside.ensures) at c.is_due-is_due.ensures in
    let failed = rw c.deref-2.ensures.value at c.append_unless-outcome.ensures.failed in
    rw (← c.self.view_is) (same_cause failed due)
