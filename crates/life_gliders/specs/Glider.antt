-- The tracks of gliders: the stream travels south-east, a salvo north-east on its lane.
use Rattle.std.specs.Prelude.{ℕ, ℤ, pos, neg_ℤ, ◌≤ℤ◌}
use Rattle.life_plane.specs.Plane.{Plane}
use Rattle.life_plane.specs.Tracks.{stream_glider}
use Rattle.life_plane.specs.Salvo.{salvo_glider}
use Rattle.life_gliders.specs.declared.track.Track.{Track}
use Rattle.life_gliders.specs.declared.track.Track.TheVariants.{Stream, Salvo}

-- the glider of this index on a track
abbrev pub glider : Track → ℤ → Plane
glider Stream j = stream_glider j
glider (Salvo lane) j = salvo_glider lane j

-- a salvo's lane lies from -n to n
abbrev pub IsLaneAtMost : ℕ → Track → Type 0
IsLaneAtMost n Stream = Unit {0}
IsLaneAtMost n (Salvo lane) = (neg_ℤ (pos n) ≤ℤ lane) × (lane ≤ℤ pos n)
