-- How the gliders of a stream come on, and where they lie on the way.
use Rattle.std.specs.Prelude.{◌≡◌, ℕ, zero, suc, ◌+◌, true, ◌⊎◌, ℤ, pos, ◌+ℤ◌, ◌-ℤ◌, ◌*ℤ◌, ◌≤ℤ◌, List, [], ◌∷◌}
use Rattle.std.proofs.Common.{refl, ap, ◌∙◌, arith, inl, inr}
use Rattle.std.proofs.lemmas.Int.{ints}
use Rattle.std.proofs.lemmas.Bool.{or_cases}
use Rattle.life_plane.specs.Plane.{Plane, step, run, union, shift, nothing}
use Rattle.life_plane.specs.Apart.{Apart}
use Rattle.life_plane.specs.EvolveLaws.{run_union}
use Rattle.life_plane.specs.Tracks.{gap, stream_glider}
use Rattle.life_plane.specs.TrackLaws.{run_stream, stream_moved, stream_range}
use Rattle.life_plane.specs.Strips.{Each}
use Rattle.life_plane.specs.StripLaws.{apart_symmetric}
use Rattle.life_scene.specs.Stream.{coming, Spaced, Before}

-- cells whose v is at most half of this, and at least half of this
pub record Ahead (twice x y : ℤ) : Type 0 where
  pub v : (pos 2 *ℤ (x +ℤ y)) ≤ℤ twice

pub record Behind (twice x y : ℤ) : Type 0 where
  pub v : twice ≤ℤ (pos 2 *ℤ (x +ℤ y))

pub record NarrowLane (x y : ℤ) : Type 0 where
  pub u : (x -ℤ y) ≤ℤ pos 1

pub apart_by_twice_v : (limit : ℤ) (s t : Plane) → Each (Ahead limit) s → Each (Behind (limit +ℤ pos 9)) t → Apart s t
apart_by_twice_v limit s t hs ht = record {
  far = λ x y a b p q w.
      let low = (hs x y p).v in let high = (ht a b q).v in let r = w.right in let l = w.left in let d = w.below in let u = w.above in omega (arith, ints);
}

pub nothing_lives : {P : Type 0} (x y : ℤ) → nothing x y ≡ true → P
nothing_lives x y h = cc

pub coming_ahead : (j : ℤ) (low : ℕ) (ds : List ℕ) → Spaced low ds → Each (Ahead ((j -ℤ pos low) +ℤ pos 8)) (coming j ds)
coming_ahead j low [] h x y p = nothing_lives x y p
coming_ahead j low (d ∷ ds) h x y p = by_part (or_cases _ _ p) (coming_ahead j (d + gap) ds h.1 x y)
  where
    by_part : (stream_glider (j -ℤ pos d) x y ≡ true) ⊎ (coming j ds x y ≡ true) → (coming j ds x y ≡ true → Ahead ((j -ℤ pos (d + gap)) +ℤ pos 8) x y) → Ahead ((j -ℤ pos low) +ℤ pos 8) x y
    by_part (inl q) rest = let r = stream_range _ x y q in let a = r.ahead in let first = h.0 in record { v = omega (arith, ints) }
    by_part (inr q) rest = let r = rest q in let a = r.v in let first = h.0 in record { v = omega (arith, ints) }

pub coming_behind : (j : ℤ) (n : ℕ) (ds : List ℕ) → Before n ds → Each (Behind ((j -ℤ pos n) +ℤ pos 21)) (coming j ds)
coming_behind j n [] h x y p = nothing_lives x y p
coming_behind j n (d ∷ ds) h x y p = by_part (or_cases _ _ p) (coming_behind j n ds h.1 x y)
  where
    by_part : (stream_glider (j -ℤ pos d) x y ≡ true) ⊎ (coming j ds x y ≡ true) → (coming j ds x y ≡ true → Behind ((j -ℤ pos n) +ℤ pos 21) x y) → Behind ((j -ℤ pos n) +ℤ pos 21) x y
    by_part (inl q) rest = let r = stream_range _ x y q in let b = r.behind in let first = h.0 in record { v = omega (arith, ints) }
    by_part (inr q) rest = rest q

pub coming_narrow : (j : ℤ) (ds : List ℕ) → Each NarrowLane (coming j ds)
coming_narrow j [] x y p = nothing_lives x y p
coming_narrow j (d ∷ ds) x y p = by_part (or_cases _ _ p) (coming_narrow j ds x y)
  where
    by_part : (stream_glider (j -ℤ pos d) x y ≡ true) ⊎ (coming j ds x y ≡ true) → (coming j ds x y ≡ true → NarrowLane x y) → NarrowLane x y
    by_part (inl q) rest = record { u = (stream_range _ x y q).right }
    by_part (inr q) rest = rest q

-- one glider of the stream, by twice its v
glider_behind : (j : ℤ) → Each (Behind (j +ℤ pos 1)) (stream_glider j)
glider_behind j x y p = record { v = (stream_range j x y p).behind }

pub step_nothing : step nothing ≡ nothing
unfolding step
step_nothing = refl

pub run_nothing : (n : ℕ) → run n nothing ≡ nothing
run_nothing zero = refl
run_nothing (suc n) = ap step (run_nothing n) ∙ step_nothing

-- a glider and those that come at least a gap behind it
glider_apart : (j : ℤ) (d : ℕ) (ds : List ℕ) → Spaced (d + gap) ds → Apart (stream_glider (j -ℤ pos d)) (coming j ds)
glider_apart j d ds h = apart_symmetric (apart_by_twice_v ((j -ℤ pos (d + gap)) +ℤ pos 8) (coming j ds) (stream_glider (j -ℤ pos d)) (coming_ahead j (d + gap) ds h)
    (λ x y p. let b = (glider_behind (j -ℤ pos d) x y p).v in record { v = omega (arith, ints) }))

-- a generation moves each glider one index on
pub run_coming : (n : ℕ) (j : ℤ) (low : ℕ) (ds : List ℕ) → Spaced low ds → run n (coming j ds) ≡ coming (j +ℤ pos n) ds
run_coming n j low [] h = run_nothing n
run_coming n j low (d ∷ ds) h =
    run_union n _ _ (record { each = λ k l. keep k (run_coming k j (d + gap) ds h.1) })
    ∙ ap (λ s. union s (run n (coming j ds))) (run_stream n (j -ℤ pos d) ∙ ap stream_glider (let e : (j -ℤ pos d) +ℤ pos n ≡ (j +ℤ pos n) -ℤ pos d = omega (arith, ints) in e))
    ∙ ap (union (stream_glider ((j +ℤ pos n) -ℤ pos d))) (run_coming n j (d + gap) ds h.1)
  where
    keep : (k : ℕ) → run k (coming j ds) ≡ coming (j +ℤ pos k) ds → Apart (run k (stream_glider (j -ℤ pos d))) (run k (coming j ds))
    keep k e =
        let g : run k (stream_glider (j -ℤ pos d)) ≡ stream_glider ((j +ℤ pos k) -ℤ pos d) = run_stream k (j -ℤ pos d) ∙ ap stream_glider (let e : (j -ℤ pos d) +ℤ pos k ≡ (j +ℤ pos k) -ℤ pos d = omega (arith, ints) in e) in
        rw (g, e) (glider_apart (j +ℤ pos k) d ds h.1)

-- a move along the diagonal changes the index by four a cell
pub coming_moved : (a j : ℤ) (ds : List ℕ) → shift a a (coming j ds) ≡ coming (j +ℤ pos 4 *ℤ a) ds
coming_moved a j [] = refl
coming_moved a j (d ∷ ds) =
    ap (λ s. union s (shift a a (coming j ds))) (stream_moved a (j -ℤ pos d) ∙ ap stream_glider (let e : (j -ℤ pos d) +ℤ pos 4 *ℤ a ≡ (j +ℤ pos 4 *ℤ a) -ℤ pos d = omega (arith, ints) in e))
    ∙ ap (union (stream_glider ((j +ℤ pos 4 *ℤ a) -ℤ pos d))) (coming_moved a j ds)
