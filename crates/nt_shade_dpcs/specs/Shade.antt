-- The shade of a history: what stands in its lanes but those of threads, without the numbers of events.
use Rattle.std.specs.Prelude.{List, Option, length, map, ℕ, ◌≡◌}
use Rattle.nt_event.specs.declared.events.Event.{Event}
use Rattle.nt_event.specs.declared.scripts.Script.{Script}
use Rattle.nt_event.specs.Lanes.{lanes_at}
use Rattle.nt_event.specs.Regions.{stand_at}
use Rattle.nt_alike.specs.Bare.{bare_object, bare_queue}
use Rattle.nt_shade_dpcs.specs.declared.shade.ShadeDpcs.{ShadeDpcs}
use Rattle.nt_shade_dpcs.specs.Keys.{again_due}
use Rattle.nt_shade_dpcs.specs.Shades.{lock_said, object_said, queue_said}
use Rattle.nt_shade_dpcs.specs.Timers.{AreTimers}

pub record IsShade (s : Script) (past : List Event) (x : ShadeDpcs) : Type 0 where
  pub objects : map object_said x.objects.items ≡ map bare_object (lanes_at s past).objects
  pub queues : map queue_said x.queues.items ≡ map bare_queue (lanes_at s past).queues
  pub locks : map lock_said x.locks.items ≡ (lanes_at s past).locks
  pub timers : AreTimers s (length past) (lanes_at s past).timers x.timers

-- when a wait that the event takes up again is due
abbrev pub due_again : Script → Event → List Event → Option ℕ
due_again s e past = again_due (stand_at s e.cpu past) e.what
