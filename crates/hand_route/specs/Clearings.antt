-- Where a salvo is clear of what is built.
use Rattle.std.specs.Prelude.{List}
use Rattle.std.specs.List.{AllByRecursion}
use Rattle.life_plane.specs.Plane.{Plane}
use Rattle.life_plane.specs.Strips.{Each}
use Rattle.life_cells.specs.declared.cell.Cell.{Cell}
use Rattle.book_parts.specs.declared.settings.Settings.{Settings}
use Rattle.recipe_hit.specs.Checked.{Struck}
use Rattle.recipe_hit.specs.declared.frame.Hit.{Hit}
use Rattle.lane_clear.specs.Clear.{AreBeyond, IsAside, IsOffBounds, IsClear}
use Rattle.lane_clear.specs.Frames.{moved_frame}

-- each hit of the salvo is clear of what is built, where the hand stands at this place before the salvo
abbrev pub IsSalvoClear : Settings → Plane → Struck → Cell → Type 0
IsSalvoClear settings built salvo place = AllByRecursion (λ (hit : Hit). IsClear settings built (moved_frame place hit.frame)) salvo.hits

-- the parts of it, each of all hits: their bounds are beyond the reach, what is built is aside of their flights, and off their bounds
abbrev pub AreAllBeyond : Settings → Cell → List Hit → Type 0
AreAllBeyond settings place hits = AllByRecursion (λ (hit : Hit). AreBeyond settings (moved_frame place hit.frame).bounds) hits

abbrev pub AreAllAside : Plane → Cell → List Hit → Type 0
AreAllAside built place hits = AllByRecursion (λ (hit : Hit). Each (IsAside (moved_frame place hit.frame)) built) hits

abbrev pub AreAllOff : Plane → Cell → List Hit → Type 0
AreAllOff built place hits = AllByRecursion (λ (hit : Hit). Each (IsOffBounds (moved_frame place hit.frame).bounds) built) hits
