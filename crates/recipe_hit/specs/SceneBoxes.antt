-- Bounds as boxes of a scene.
use Rattle.life_scene.specs.Hits as scene
use Rattle.life_cells.specs.declared.bounds.Bounds.{Bounds}

-- bounds as a box of the scene
abbrev pub as_box : Bounds → scene.Box
as_box b = record { left = b.left; top = b.top; right = b.right; bottom = b.bottom }
