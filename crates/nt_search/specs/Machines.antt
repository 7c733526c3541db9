-- Machines that took the turns of a free run.
use Rattle.std.specs.Prelude.{Err, List, Ok, length, ℕ, ◌<◌, ◌∷◌, ◌≡◌}
use Rattle.nt_event.specs.declared.events.Event.{Event}
use Rattle.nt_event.specs.declared.events.ScheduleKind.{ScheduleKind}
use Rattle.nt_event.specs.declared.events.Turn.{Turn}
use Rattle.nt_event.specs.declared.scripts.Script.{Script}
use Rattle.nt_plain.specs.States.{view_of}
use Rattle.nt_cpus.specs.Following.{AreAfter}
use Rattle.nt_alike.specs.Free.{IsFreeRun, free_step}
use Rattle.nt_expect.specs.declared.expectations.Watched.{Watched}
use Rattle.nt_shade_dpcs.specs.Shade.{IsShade}
use Rattle.nt_search.specs.declared.machine.Machine.{Machine}
use Rattle.nt_shows.specs.Tells.{AreCame}

-- the machine is as this free run of the script leaves it
pub record Stands (s : Script) (limit : ℕ) (watched : List Watched) (past : List Event) (m : Machine) : Type 0 where
  pub script : m.script.now ≡ s
  pub of : m.processors.script ≡ s
  pub limit_is : m.processors.limit ≡ limit
  pub after : AreAfter past m.processors m.floor.script (view_of m.floor)
  pub free : IsFreeRun s past
  pub dpcs : IsShade s past m.dpcs
  pub came : AreCame watched past m.came.items
  pub took : m.took ≡ length past

-- it is as some free run leaves it, after which no processor is cut
pub record IsUncut (watched : List Watched) (m : Machine) : Type 0 where
  pub past : List Event
  pub stands : Stands m.script.now m.processors.limit watched past m
  pub short : length past < m.processors.limit

-- after this past the turn gives the event, and the machine made it
pub record IsTaken (s : Script) (limit : ℕ) (watched : List Watched) (turn : Turn) (past : List Event) (e : Event)
    (m : Machine) : Type 0 where
  pub gives : free_step s turn past ≡ Ok e
  pub stands : Stands s limit watched (e ∷ past) m

-- after this past the turn is refused, and the machine stands there still
pub record IsRefused (s : Script) (limit : ℕ) (watched : List Watched) (turn : Turn) (past : List Event) (m : Machine) :
    Type 0 where
  pub kind : ScheduleKind
  pub refused : free_step s turn past ≡ Err kind
  pub stands : Stands s limit watched past m
