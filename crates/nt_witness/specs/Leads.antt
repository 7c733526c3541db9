-- Turns that lead from one history to another.
use Rattle.std.specs.Prelude.{List, Ok, [], ◌∷◌, ◌≡◌}
use Rattle.nt_event.specs.declared.events.Event.{Event}
use Rattle.nt_event.specs.declared.events.Turn.{Turn}
use Rattle.nt_event.specs.declared.scripts.Script.{Script}
use Rattle.nt_alike.specs.Free.{free_step}

-- taken one after another from this past on, the turns lead to the history
abbrev pub Lead : Script → List Turn → List Event → List Event → Type 0
Lead s [] past h = past ≡ h
Lead s (t ∷ turns) past h = (e : Event) × (free_step s t past ≡ Ok e) × Lead s turns (e ∷ past) h
