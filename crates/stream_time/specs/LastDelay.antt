-- How late the last turn of a plan is.
use Rattle.std.specs.Prelude.{◌≡◌, ℕ, ℤ, pos, ◌+ℤ◌, ◌-ℤ◌, ◌*ℤ◌, List, [], ◌∷◌, ◌++◌}
use Rattle.book_parts.specs.declared.settings.Settings.{Settings}
use Rattle.event_times.specs.TimedTurns.{Timed}
use Rattle.plan_facts.specs.Happenings.{Happening}
use Rattle.plan_facts.specs.Happenings.Happening.{Turns}
use Rattle.build_plan.specs.declared.event.Event.{Event}
use Rattle.build_plan.specs.declared.event.Event.TheVariants.{Turn}

-- how late a turn's first glider is: in generation 0 it is the stream's glider whose index is the negative of this
abbrev pub delay_of : Settings → Timed → ℤ
delay_of settings m = (pos m.start +ℤ settings.approach) -ℤ pos 4 *ℤ m.shift

-- a turn comes last, and its first glider is so late
pub record IsLastDelay (settings : Settings) (happenings : List Happening) (delay : ℕ) : Type 0 where
  pub before : List Happening
  pub last : Timed
  pub last_is : happenings ≡ before ++ Turns last ∷ []
  pub late : pos delay ≡ delay_of settings last

-- the last of these events is a turn
pub record EndInTurn (events : List Event) : Type 0 where
  pub before : List Event
  pub number : ℕ
  pub shift : ℤ
  pub is : events ≡ before ++ Turn number shift ∷ []
