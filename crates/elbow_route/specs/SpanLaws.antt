-- The elbow that a list leaves which serves a lane is within the span.
use Rattle.std.specs.Prelude.{◌≡◌, ℕ, ℤ, ◌+ℤ◌, List, [], ◌∷◌}
use Rattle.std.proofs.Common.{refl, sym, ap, subst, inl, inr}
use Rattle.book_parts.specs.declared.turn.RawTurn.{RawTurn}
use Rattle.book_parts.specs.declared.turn.TurnEnd.{TurnEnd}
use Rattle.book_parts.specs.declared.turn.TurnEnd.TheVariants.{Close, Move, Emit}
use Rattle.elbow_graph.specs.declared.elbow.Elbow.{Elbow}
use Rattle.elbow_graph.specs.declared.exit.Exit.{Exit}
use Rattle.elbow_graph.specs.declared.goal.Goal.TheVariants.{Anywhere, Lane}
use Rattle.elbow_graph.specs.Elbows.{elbow, leaves}
use Rattle.elbow_graph.specs.Exits.{exits_of}
use Rattle.elbow_graph.specs.Goals.{MayPass, IsEnd}
use Rattle.elbow_graph.specs.Numbered.{IsNumbered}
use Rattle.elbow_route.specs.Lists.{ServesBy, LeavesInSpan}
use Rattle.elbow_route.specs.ShortnessLaws.{passes_anywhere}

-- the throw that ends a list, as one that leads on
thrown : (turns : List RawTurn) (span lane : ℤ) (from : Elbow) (k : ℕ) (exit : Exit) → IsNumbered (exits_of turns) k exit → exit.kind ≡ from.kind → (end : TurnEnd) → exit.end ≡ end → IsEnd (Lane lane) span end from.shift →
    LeavesInSpan turns span from (k ∷ [])
thrown turns span lane from k exit numbered kind Close is end = absurd end
thrown turns span lane from k exit numbered kind (Move next advance) is end = absurd end
thrown turns span lane from k exit numbered kind (Emit next advance on j) is end = record {
  after = elbow next (from.shift +ℤ advance);
  leads = (
    elbow next (from.shift +ℤ advance),
    (
      record {
        exit = exit;
        numbered = numbered;
        may = subst (MayPass Anywhere) (sym is) tt;
        leads = record { kind = kind; leaves_it = ap (λ (e : TurnEnd). leaves e from.shift) is; near = end.1 };
      },
      refl,
    ),
  );
  near = end.1;
}

pub leaves_in_span : (turns : List RawTurn) (span lane : ℤ) (from : Elbow) (list : List ℕ) → ServesBy turns span lane from list → LeavesInSpan turns span from list
leaves_in_span turns span lane from [] serves = absurd serves
leaves_in_span turns span lane from (k ∷ ks) (inl last) =
    let one = thrown turns span lane from k last.0.exit last.0.numbered last.0.kind last.0.exit.end refl last.0.end in
    subst (λ (js : List ℕ). LeavesInSpan turns span from (k ∷ js)) (sym last.1) one
leaves_in_span turns span lane from (k ∷ ks) (inr on) =
    let rest = leaves_in_span turns span lane on.0 ks on.1.1 in
    record { after = rest.after; leads = (on.0, (passes_anywhere (exits_of turns) span (Lane lane) k from on.0 on.1.0, rest.leads)); near = rest.near }
