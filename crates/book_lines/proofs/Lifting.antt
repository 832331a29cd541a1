-- What is wrong in a part is wrong in the whole.
use Rattle.std.proofs.Common.{◌≡◌, sym, subst, Result, Ok, Err, MatchResult, IsOkAnd, IsErrAnd, IfOk, Option, Some, None}
use Rattle.book_lines.specs.declared.fault.LineFault.{LineFault}
use Rattle.book_lines.specs.declared.fault.LineFault.TheVariants as fault
use Rattle.book_lines.specs.declared.fault.LineError.{LineError}
use Rattle.book_lines.specs.declared.fault.LineError.TheVariants.{Fault, Memory}
use Rattle.book_lines.specs.Values.{Level}
use Rattle.book_lines.specs.Values.Level.{Form, Numbers, Bodies, Whole}
use Rattle.book_lines.specs.Faults.{StopsBetween, IsFaultOf}
use Rattle.book_lines.specs.Reads.{Reads, IsErrorOf, ReadsOrErrs}

pub lift_stop : {V W : Type 0} (G : Level → V → Type 0) (F : Level → W → Type 0) (l m : Level) → ((v : V) → G l v → (w : W) × F l w) → ((w : W) → F m w → (v : V) × G m v)
    → StopsBetween G l m → StopsBetween F l m
lift_stop G F l m up down h =
    let w = up h.value h.so_far in
    record { value = w.0; so_far = w.1; no_farther = λ x k. let v = down x k in h.no_farther v.0 v.1 }

pub lift_fault : {V W : Type 0} (G : Level → V → Type 0) (F : Level → W → Type 0) → ((l : Level) (v : V) → G l v → (w : W) × F l w) → ((l : Level) (w : W) → F l w → (v : V) × G l v)
    → (why : LineFault) → IsFaultOf G why → IsFaultOf F why
lift_fault G F up down fault.Version h = h
lift_fault G F up down fault.Word h = h
lift_fault G F up down fault.Form h = λ w k. let v = down Form w k in h v.0 v.1
lift_fault G F up down fault.Number h = lift_stop G F Form Numbers (up Form) (down Numbers) h
lift_fault G F up down fault.Body h = lift_stop G F Numbers Bodies (up Numbers) (down Bodies) h
lift_fault G F up down fault.Empty h = lift_stop G F Bodies Whole (up Bodies) (down Whole) h

pub lift_error : {V W : Type 0} (G : Level → V → Type 0) (F : Level → W → Type 0) → ((l : Level) (v : V) → G l v → (w : W) × F l w) → ((l : Level) (w : W) → F l w → (v : V) × G l v)
    → (e : LineError) → IsErrorOf G e → IsErrorOf F e
lift_error G F up down (Fault why) h = lift_fault G F up down why h
lift_error G F up down Memory h = tt

-- with the same values
pub carry : {V : Type 0} (G F : Level → V → Type 0) → ((l : Level) (v : V) → G l v → F l v) → ((l : Level) (v : V) → F l v → G l v) → (r : Result V LineError) → ReadsOrErrs G r → ReadsOrErrs F r
carry G F up down (Ok v) h = up Whole v h
carry G F up down (Err e) h = lift_error G F (λ l v k. (v, up l v k)) (λ l v k. (v, down l v k)) e h

-- with values that are made of others
pub carry_map : {V W : Type 0} (G : Level → V → Type 0) (F : Level → W → Type 0) (make : V → W) → ((l : Level) (v : V) → G l v → F l (make v)) → ((l : Level) (w : W) → F l w → (v : V) × G l v)
    → (P : V → W → Type 0) (r : Result V LineError) (q : Result W LineError) → MatchResult r (λ x. IsOkAnd q (P x)) (λ e. q ≡ Err e) → ((x : V) (y : W) → P x y → y ≡ make x) → ReadsOrErrs G r → ReadsOrErrs F q
carry_map G F make up down P (Ok v) (Ok w) m learn h = subst (F Whole) (sym (learn v w m)) (up Whole v h)
carry_map G F make up down P (Ok v) (Err e) m learn h = absurd m
carry_map G F make up down P (Err e) q m learn h = subst (λ (x : Result _ LineError). ReadsOrErrs F x) (sym m) (lift_error G F (λ l v k. (make v, up l v k)) down e h)

-- an error that is passed on
pub err_reads : {V : Type 0} (F : Level → V → Type 0) (r : Result V LineError) (e : LineError) → IsErrAnd r (λ y. y ≡ e) → IsErrorOf F e → ReadsOrErrs F r
err_reads F (Ok v) e m h = absurd m
err_reads F (Err y) e m h = subst (λ (x : LineError). IsErrorOf F x) (sym m) h

-- answers that may be none
pub reads_pass : {V : Type 0} (G F : V → Type 0) → ((v : V) → G v → F v) → ((v : V) → F v → G v) → (o : Option V) → Reads G o → Reads F o
reads_pass G F up down None h = λ v k. h v (down v k)
reads_pass G F up down (Some v) h = up v h

pub ok_reads_pass : {V E : Type 0} (G F : V → Type 0) → ((v : V) → G v → F v) → ((v : V) → F v → G v) → (r : Result (Option V) E) → IfOk r (λ o. Reads G o) → IfOk r (λ o. Reads F o)
ok_reads_pass G F up down (Ok o) h = reads_pass G F up down o h
ok_reads_pass G F up down (Err e) h = h
