-- What stands in lanes without numbers moves as the history does.
use Rattle.std.proofs.Common.{ap, arith, sym, ◌∙◌}
use Rattle.std.proofs.lemmas.List.{length-map}
use Rattle.std.proofs.lemmas.Grind.{common_steps}
use Rattle.std.specs.Prelude.{IsTrue, List, [], length, map, ℕ, ◌∷◌, ◌≡◌, ◌≤◌}
use Rattle.nt_event.specs.declared.events.Event.{Event}
use Rattle.nt_event.specs.declared.numbers.CpuNo.{CpuNo}
use Rattle.nt_event.specs.declared.numbers.DpcNo.{DpcNo}
use Rattle.nt_event.specs.declared.events.What.{What}
use Rattle.nt_event.specs.declared.scripts.Script.{Script}
use Rattle.nt_event.specs.Lanes.{lanes_at}
use Rattle.nt_event.specs.Lists.{table}
use Rattle.nt_event.specs.Numbers.{cpu, dpc}
use Rattle.nt_event.specs.Objects.{ObjectState, object_after, object_in, object_of, objects_at, start_object}
use Rattle.nt_event.specs.Queues.{QueueState, queue_after, queue_of, start_queue}
use Rattle.nt_event.specs.Script.{fits}
use Rattle.nt_event.proofs.Moves.{object_moves, queue_moves}
use Rattle.nt_event.proofs.Tables.{length-table_from, table-same}
use Rattle.nt_event.proofs.Written.{read_map}
use Rattle.nt_alike.specs.Bare.{bare_object, bare_queue, bare_what}
use Rattle.nt_alike.proofs.Frames.{map_table}
use Rattle.nt_alike.proofs.Parts.{object_bare, object_read, queue_bare}
use Rattle.nt_dpc_lanes.specs.Changes.{change_of}
use Rattle.nt_dpc_lanes.specs.declared.changes.Change.{Change}
use Rattle.nt_states.specs.DpcLanes.{queue_in}
use Rattle.nt_shade_dpcs.specs.Changed.{object_changed, objects_changed, queue_changed, queues_changed}
use Rattle.nt_shade_dpcs.specs.declared.shade.ShadeDpcs.{ShadeDpcs}
use Rattle.nt_shade_dpcs.specs.Shade.{IsShade}
use Rattle.nt_shade_dpcs.specs.Shades.{object_said, queue_said}
use Rattle.nt_shade_dpcs.proofs.Changing.{object_follows, queue_follows, same_change}

-- ---- objects

-- an event leaves of a DPC object without numbers what its change leaves of it
object_step : (d : DpcNo) (n : ℕ) (by : CpuNo) (w : What) (o : ObjectState) →
    bare_object (object_after d n by w o) ≡ object_changed d by (change_of w) (bare_object o)
object_step d n by w o =
    object_bare d n by w o ∙ object_follows d by (bare_what w) (bare_object o)
    ∙ ap (λ (c : Change). object_changed d by c (bare_object o)) (same_change w)

-- after each history there are as many objects without numbers as the script has DPC objects
pub objects_count : (s : Script) (past : List Event) → length (map bare_object (objects_at s past)) ≡ length s.dpcs
objects_count s past = length-map (objects_at s past) bare_object ∙ length-table_from 0 (length s.dpcs) (λ d. object_of (dpc d) past)

-- the objects without numbers after one more event are those before it, changed as the event changes them
pub objects_follow : (s : Script) (e : Event) (past : List Event) → map bare_object (objects_at s (e ∷ past))
    ≡ objects_changed e.cpu (change_of e.what) (map bare_object (objects_at s past))
objects_follow s e past =
    let olds : List ObjectState = objects_at s past in
    ap (map bare_object) (object_moves s e past)
    ∙ map_table bare_object (length s.dpcs) (λ d. object_after (dpc d) (length past) e.cpu e.what (object_in olds (dpc d)))
    ∙ table-same (length s.dpcs) (λ d. bare_object (object_after (dpc d) (length past) e.cpu e.what (object_in olds (dpc d))))
    (λ d. object_changed (dpc d) e.cpu (change_of e.what) (object_in (map bare_object olds) (dpc d)))
    (λ d h. object_step (dpc d) (length past) e.cpu e.what (object_in olds (dpc d))
    ∙ ap (object_changed (dpc d) e.cpu (change_of e.what)) (sym (object_read olds (dpc d))))
    ∙ ap (λ (n : ℕ). table n (λ d. object_changed (dpc d) e.cpu (change_of e.what) (object_in (map bare_object olds) (dpc d))))
    (sym (objects_count s past))

-- ---- queues

-- an event leaves of a DPC queue without numbers what its change leaves of it
queue_step : (s : Script) (p : CpuNo) (n : ℕ) (by : CpuNo) (w : What) (objects : List ObjectState) (q : QueueState) →
    bare_queue (queue_after s p n by w objects q) ≡ queue_changed s (map bare_object objects) p by (change_of w) (bare_queue q)
queue_step s p n by w objects q =
    queue_bare s p n by w objects q ∙ queue_follows s (map bare_object objects) p by (bare_what w) (bare_queue q)
    ∙ ap (λ (c : Change). queue_changed s (map bare_object objects) p by c (bare_queue q)) (same_change w)

-- after each history there are as many queues without numbers as the script has processors
pub queues_count : (s : Script) (past : List Event) → length (map bare_queue (lanes_at s past).queues) ≡ s.cpus
queues_count s past = length-map (lanes_at s past).queues bare_queue ∙ length-table_from 0 s.cpus (λ p. queue_of s (cpu p) past)

-- the queues without numbers after one more event are those before it, changed as the event changes them
pub queues_follow : (s : Script) (e : Event) (past : List Event) → map bare_queue (lanes_at s (e ∷ past)).queues
    ≡ queues_changed s (map bare_object (objects_at s past)) e.cpu (change_of e.what) (map bare_queue (lanes_at s past).queues)
queues_follow s e past =
    let objects : List ObjectState = objects_at s past in
    let olds : List QueueState = (lanes_at s past).queues in
    ap (map bare_queue) (queue_moves s e past)
    ∙ map_table bare_queue s.cpus (λ p. queue_after s (cpu p) (length past) e.cpu e.what objects (queue_in olds (cpu p)))
    ∙ table-same s.cpus (λ p. bare_queue (queue_after s (cpu p) (length past) e.cpu e.what objects (queue_in olds (cpu p))))
    (λ p. queue_changed s (map bare_object objects) (cpu p) e.cpu (change_of e.what) (queue_in (map bare_queue olds) (cpu p)))
    (λ p h. queue_step s (cpu p) (length past) e.cpu e.what objects (queue_in olds (cpu p))
    ∙ ap (queue_changed s (map bare_object objects) (cpu p) e.cpu (change_of e.what)) (sym (read_map bare_queue olds p start_queue)))
    ∙ ap (λ (n : ℕ). table n (λ p. queue_changed s (map bare_object objects) (cpu p) e.cpu (change_of e.what) (queue_in (map bare_queue olds) (cpu p))))
    (sym (queues_count s past))

-- ---- where nothing has happened yet, and how many there are

-- before any event each DPC object of the script is as it starts
pub objects_start : (s : Script) → map bare_object (objects_at s []) ≡ table (length s.dpcs) (λ d. start_object)
objects_start s = map_table bare_object (length s.dpcs) (λ d. start_object)

-- before any event each processor's DPC queue is as it starts
pub queues_start : (s : Script) → map bare_queue (lanes_at s []).queues ≡ table s.cpus (λ p. start_queue)
queues_start s = map_table bare_queue s.cpus (λ p. start_queue)

module _ (s : Script) (past : List Event) (x : ShadeDpcs) (is : IsShade s past x) where
  -- a shade has as many objects as the script has DPC objects
  pub objects_size : length x.objects.items ≡ length s.dpcs
  objects_size = sym (length-map x.objects.items object_said) ∙ ap length is.objects ∙ objects_count s past

  -- a shade has as many DPC queues as the script has processors
  pub queues_size : length x.queues.items ≡ s.cpus
  queues_size = sym (length-map x.queues.items queue_said) ∙ ap length is.queues ∙ queues_count s past

-- what the script's limits say of them
pub few_objects : (s : Script) → IsTrue (fits s) → length s.dpcs ≤ 256
few_objects s h = grind (arith, common_steps)

-- a script that fits has at most 64 processors, so at most as many queues
pub few_queues : (s : Script) → IsTrue (fits s) → s.cpus ≤ 64
few_queues s h = grind (arith, common_steps)
