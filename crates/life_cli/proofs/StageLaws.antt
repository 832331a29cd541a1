-- Laws of stages: a stage that stops, a stage before those behind it, and what passes doesn't refuse.
use Rattle.std.specs.Prelude.{Vec}
use Rattle.std.specs.declared.alloc.Global.{Global}
use Rattle.std.specs.declared.result.Result.{Result}
use Rattle.std.specs.Result.{IsErrAnd}
use Rattle.std.proofs.Common.{◌≡◌, ℕ, ◌+◌, ◌≤◌, List, IfOk, IfErr, Ok, Err, sym, subst, inl, inr, arith}
use Rattle.life_cli.specs.declared.status.Status.{Status}
use Rattle.life_cli.specs.declared.status.Status.TheVariants.{Done, ReadFault, WriteFault, Memory}
use Rattle.life_cli.specs.Stages.{Stages, Give, Refuse, Pass, CountWithin, HasCause, EndWith}
use Rattle.life_cli.specs.Stages.Stages.{Answer, Stage}
use Rattle.life_cli.specs.Exact.{AreExact}

-- ---- causes

-- a cause for which another is one
pub cause_of : {F G : Type 0} (W V : Status → Type 0) → (F → G) → ((status : Status) → W status → V status) → (status : Status) → HasCause F W status → HasCause G V status
cause_of W V f w Memory h = tt
cause_of W V f w ReadFault h = f h
cause_of W V f w Done h = absurd h
cause_of W V f w WriteFault h = absurd h
cause_of W V f w other h = w other h

-- a stage without texts has no fault of reading
pub no_fault : {T : Type 0} (W : Status → Type 0) (result : Result T Status) → IfErr result (λ status. HasCause ⊥ W status) → result ≡ Err ReadFault → ⊥
no_fault {T} W result h e = subst (λ (r : Result T Status). IfErr r (λ status. HasCause ⊥ W status)) e h

-- ---- counts

pub none_counted : (stages : Stages) (n : ℕ) → CountWithin stages n n
none_counted (Answer most Is) n = omega arith
none_counted (Stage Value Passes Refuses most next) n = inl (omega arith)

later_count : (stages : Stages) (a b now : ℕ) → a ≤ b → CountWithin stages a now → CountWithin stages b now
later_count (Answer most Is) a b now le h = omega arith
later_count (Stage Value Passes Refuses most next) a b now le (inl h) = inl (omega arith)
later_count (Stage Value Passes Refuses most next) a b now le (inr h) = inr (h.0, (h.1.0, later_count (next h.0) (a + most) (b + most) now (omega arith) h.1.1))

-- ---- how stages end

-- the answer was made
pub answered : (most : ℕ) (Is : List ℕ → Type 0) (F : Type 0) (before now : ℕ) (bytes : Vec ℕ Global) → Is bytes.items → now ≤ before + most → EndWith (Answer most Is) F before now (Ok bytes)
answered most Is F before now bytes is few = record { ok = is; err = tt; counted = few }

-- the first stage refuses
pub stops : {Value : Type 0} {Passes : Value → Type 0} {Refuses : Status → Type 0} {most : ℕ} {next : Value → Stages} {F G : Type 0} {before now : ℕ} (status : Status) →
    (F → G) → HasCause F Refuses status → now ≤ before + most → EndWith (Stage Value Passes Refuses most next) G before now (Err status)
stops {Value} {Passes} {Refuses} {most} {next} status f cause few =
    record { ok = tt; err = cause_of Refuses (Refuse (Stage Value Passes Refuses most next)) f (λ s r. inl r) status cause; counted = inl few }

-- so does what `?` hands on
pub hands_on : {Value : Type 0} {Passes : Value → Type 0} {Refuses : Status → Type 0} {most : ℕ} {next : Value → Stages} {F G : Type 0} {before now : ℕ} (result : Result (Vec ℕ Global) Status) (status : Status) →
    IsErrAnd result (λ s. s ≡ status) → (F → G) → HasCause F Refuses status → now ≤ before + most → EndWith (Stage Value Passes Refuses most next) G before now result
hands_on (Ok bytes) status h f cause few = absurd h
hands_on {Refuses = Refuses} {F = F} (Err s) status h f cause few = stops s f (subst (λ (e : Status). HasCause F Refuses e) (sym h) cause) few

-- the first stage passes
pub behind : {Value : Type 0} {Passes : Value → Type 0} {Refuses : Status → Type 0} {most : ℕ} {next : Value → Stages} {F G : Type 0} {before mid now : ℕ} {result : Result (Vec ℕ Global) Status} (value : Value) →
    (F → G) → Passes value → EndWith (next value) F mid now result → mid ≤ before + most → EndWith (Stage Value Passes Refuses most next) G before now result
behind {Value} {Passes} {Refuses} {most} {next} {F} {G} {before} {mid} {now} {result} value f passes end few = record {
  ok = given result end.ok;
  err = refused result end.err;
  counted = inr (value, (passes, later_count (next value) mid (before + most) now few end.counted));
}
  where
    given : (r : Result (Vec ℕ Global) Status) → IfOk r (λ bytes. Give (next value) bytes.items) → IfOk r (λ bytes. Give (Stage Value Passes Refuses most next) bytes.items)
    given (Ok bytes) h = (value, (passes, h))
    given (Err status) h = tt

    refused : (r : Result (Vec ℕ Global) Status) → IfErr r (λ status. HasCause F (Refuse (next value)) status) → IfErr r (λ status. HasCause G (Refuse (Stage Value Passes Refuses most next)) status)
    refused (Ok bytes) h = tt
    refused (Err status) h = cause_of (Refuse (next value)) (Refuse (Stage Value Passes Refuses most next)) f (λ s r. inr (value, (passes, r))) status h

-- stages without texts have no fault of reading
pub no_text : (stages : Stages) (F : Type 0) (before now : ℕ) (result : Result (Vec ℕ Global) Status) → EndWith stages ⊥ before now result → EndWith stages F before now result
no_text stages F before now result end = record { ok = end.ok; err = caused result end.err; counted = end.counted }
  where
    caused : (r : Result (Vec ℕ Global) Status) → IfErr r (λ status. HasCause ⊥ (Refuse stages) status) → IfErr r (λ status. HasCause F (Refuse stages) status)
    caused (Ok bytes) h = tt
    caused (Err status) h = cause_of (Refuse stages) (Refuse stages) (λ f. absurd f) (λ s r. r) status h

-- ---- exact stages

pub passing_stages : (stages : Stages) (status : Status) → AreExact stages → Pass stages → Refuse stages status → ⊥
passing_stages (Answer most Is) status exact passes refuses = refuses
passing_stages (Stage Value Passes Refuses most next) status exact passes (inl refuses) = exact.0.apart passes.0 status passes.1.0 refuses
passing_stages (Stage Value Passes Refuses most next) status exact passes (inr later) =
    passing_stages (next passes.0) status (exact.1 passes.0) passes.1.1
    (subst (λ (value : Value). Refuse (next value) status) (exact.0.one later.0 passes.0 later.1.0 passes.1.0) later.1.1)
