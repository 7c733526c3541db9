-- The turns of events that name things of a script.
use Rattle.std.proofs.Common.{◌≡◌, true, List, [], ◌∷◌, map, refl}
use Rattle.std.specs.Prelude.{◌&&◌}
use Rattle.std.proofs.lemmas.Bool.{and_from, and_parts}
use Rattle.nt_event.specs.declared.events.Event.{Event}
use Rattle.nt_event.specs.declared.events.What.{What}
use Rattle.nt_event.specs.declared.events.What.TheVariants.{Switch}
use Rattle.nt_event.specs.declared.numbers.CpuNo.{CpuNo}
use Rattle.nt_event.specs.declared.scripts.Script.{Script}
use Rattle.nt_event.specs.Script.{has_cpu, has_thread, where_given}
use Rattle.nt_event.specs.Step.{turn_at, turn_of}
use Rattle.nt_log.specs.Schedules.{turn_fits, turns_fit}
use Rattle.nt_event.specs.Fitting.{event_fits, events_fit, what_fits}

-- the turn of an action that fits a script fits the script
turn_fit : (s : Script) (p : CpuNo) (w : What) → what_fits s w ≡ true → turn_fits s (turn_at p w) ≡ true
turn_fit s p (Switch t status) h = h
turn_fit s p w h = refl

-- the turns of events that fit the script fit it too
pub turns_of_fit : (s : Script) (events : List Event) → events_fit s events ≡ true → turns_fit s (map turn_of events) ≡ true
turns_of_fit s [] h = refl
turns_of_fit s (e ∷ es) h =
    let p = and_parts (event_fits s e) (events_fit s es) h in
    let q = and_parts (has_cpu s e.cpu && where_given (has_thread s) e.thread) (what_fits s e.what) p.0 in
    and_from (turn_fits s (turn_of e)) (turns_fit s (map turn_of es)) (turn_fit s e.cpu e.what q.1) (turns_of_fit s es p.1)
