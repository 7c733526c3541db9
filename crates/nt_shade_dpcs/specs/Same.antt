-- Shades that say the same. The histories whose shades they are have the same in these lanes but for numbers, and set
-- what is due at one time in the same order.
use Rattle.std.specs.Prelude.{List, Some, map, nat_lt, true, ◌≡◌}
use Rattle.nt_event.specs.declared.commands.TimerKey.{TimerKey}
use Rattle.nt_event.specs.declared.events.Event.{Event}
use Rattle.nt_event.specs.declared.inserts.Setting.{Setting}
use Rattle.nt_event.specs.declared.scripts.Script.{Script}
use Rattle.nt_event.specs.Fitting.{key_fits}
use Rattle.nt_event.specs.Lanes.{lanes_at}
use Rattle.nt_timer.specs.Settings.{setting_at}
use Rattle.nt_alike.specs.Bare.{bare_object, bare_queue, bare_timers}
use Rattle.nt_shade_dpcs.specs.declared.shade.ShadeDpcs.{ShadeDpcs}
use Rattle.nt_shade_dpcs.specs.Shade.{IsShade}
use Rattle.nt_shade_dpcs.specs.Shades.{lock_said, object_said, queue_said}

pub record SayTheSame (x y : ShadeDpcs) : Type 0 where
  pub objects : map object_said x.objects.items ≡ map object_said y.objects.items
  pub queues : map queue_said x.queues.items ≡ map queue_said y.queues.items
  pub locks : map lock_said x.locks.items ≡ map lock_said y.locks.items
  pub now : x.timers.now ≡ y.timers.now
  pub keys : x.timers.keys.items ≡ y.timers.keys.items

-- what stands in these lanes is the same but for numbers; of each two keys of the script that are set and due at one
-- time, the same one was set first
pub record HaveTheSame (s : Script) (h k : List Event) : Type 0 where
  pub objects : map bare_object (lanes_at s h).objects ≡ map bare_object (lanes_at s k).objects
  pub queues : map bare_queue (lanes_at s h).queues ≡ map bare_queue (lanes_at s k).queues
  pub locks : (lanes_at s h).locks ≡ (lanes_at s k).locks
  pub timers : bare_timers (lanes_at s h).timers ≡ bare_timers (lanes_at s k).timers
  pub order : (a b : TimerKey) (i j m n : Setting) → key_fits s a ≡ true → key_fits s b ≡ true →
      setting_at a (lanes_at s h).timers ≡ Some i → setting_at b (lanes_at s h).timers ≡ Some j →
      setting_at a (lanes_at s k).timers ≡ Some m → setting_at b (lanes_at s k).timers ≡ Some n →
      i.due ≡ j.due → nat_lt i.number j.number ≡ nat_lt m.number n.number

abbrev pub SameShadesTellSameLanes : Type 0
SameShadesTellSameLanes = (s : Script) (h k : List Event) (x y : ShadeDpcs) → IsShade s h x → IsShade s k y →
    SayTheSame x y → HaveTheSame s h k
