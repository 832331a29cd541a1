-- The gliders of a turn, each for itself.
use Rattle.std.specs.Prelude.{ℤ, ◌-ℤ◌}
use Rattle.life_plane.specs.Plane.{Plane}
use Rattle.life_plane.specs.Tracks.{stream_glider}
use Rattle.book_parts.specs.declared.settings.Settings.{Settings}

-- the glider of one delay at a time
abbrev pub own : Settings → ℤ → ℤ → Plane
own settings t delay = stream_glider ((t -ℤ settings.approach) -ℤ delay)
