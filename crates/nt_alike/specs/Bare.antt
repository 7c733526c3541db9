-- States and events without the numbers of events: each number is 0. What is left decides what may happen next, but for
-- which of two set timers comes first that are due at one time.
use Rattle.std.specs.Prelude.{None, [], if◌then◌else◌, map, option_map}
use Rattle.nt_event.specs.declared.events.Event.{Event}
use Rattle.nt_event.specs.declared.events.What.{What}
use Rattle.nt_event.specs.declared.events.What.TheVariants as what
use Rattle.nt_event.specs.Frame.{Frame}
use Rattle.nt_event.specs.declared.inserts.Insert.{Insert}
use Rattle.nt_event.specs.declared.inserts.Pick.{Pick}
use Rattle.nt_event.specs.declared.inserts.Setting.{Setting}
use Rattle.nt_event.specs.declared.inserts.Standing.{Standing}
use Rattle.nt_event.specs.declared.jobs.Stand.{Stand}
use Rattle.nt_event.specs.declared.threads.Doing.{Doing}
use Rattle.nt_event.specs.declared.threads.Doing.TheVariants.{Blocked as IsBlocked, Gone as IsGone, Ready as IsReady}
use Rattle.nt_event.specs.declared.threads.Doing.TheVariants.{Running as IsRunning}
use Rattle.nt_event.specs.declared.threads.Waiting.{Waiting}
use Rattle.nt_event.specs.Apcs.{ApcQueues}
use Rattle.nt_event.specs.Frames.{Frames}
use Rattle.nt_event.specs.Jobs.{is_due}
use Rattle.nt_event.specs.Lanes.{Lanes}
use Rattle.nt_event.specs.Lists.{table}
use Rattle.nt_event.specs.Own.{Own}
use Rattle.nt_event.specs.Objects.{ObjectState}
use Rattle.nt_event.specs.Queues.{QueueState}
use Rattle.nt_event.specs.Threads.{ThreadFacts}
use Rattle.nt_event.specs.Timers.{Timers}

-- ---- events

-- without the names of frames and the numbers of inserts, settings and APCs; a Look without its values
abbrev pub bare_what : What → What
bare_what (what.Call f c y) = what.Call 0 c y
bare_what (what.Look r) = what.Look (record { value = [] })
bare_what (what.Begin b from) = what.Begin b 0
bare_what (what.Normal f) = what.Normal 0
bare_what (what.End f) = what.End 0
bare_what (what.Expire key from) = what.Expire key 0
bare_what (what.Fire d y) = what.Fire d y
bare_what (what.Clean class) = what.Clean class
bare_what (what.Switch t status) = what.Switch t status
bare_what (what.Rewait f y) = what.Rewait 0 y
bare_what (what.Flush a from) = what.Flush a 0
bare_what (what.Gone t) = what.Gone t
bare_what (what.Free f k) = what.Free 0 k
bare_what what.Rest = what.Rest

abbrev pub bare_event : Event → Event
bare_event e = record e { what = bare_what e.what }

-- ---- what stands in lanes

-- the queue in which the pending insert of a DPC object stands, without the insert's number
abbrev pub bare_standing : Standing → Standing
bare_standing x = record x { number = 0 }

abbrev pub bare_object : ObjectState → ObjectState
bare_object o = record o { standing = option_map bare_standing o.standing }

abbrev pub bare_insert : Insert → Insert
bare_insert x = record x { number = 0 }

-- the inserts keep their order
abbrev pub bare_queue : QueueState → QueueState
bare_queue q = record q { pending = map bare_insert q.pending }

abbrev pub bare_pick : Pick → Pick
bare_pick x = record x { number = 0 }

abbrev pub bare_apcs : ApcQueues → ApcQueues
bare_apcs q = record q { pending = map bare_pick q.pending }

-- a wait without the number of the event that blocked
abbrev pub bare_waiting : Waiting → Waiting
bare_waiting w = record w { event = 0 }

abbrev pub bare_doing : Doing → Doing
bare_doing (IsReady level status) = IsReady level status
bare_doing IsRunning = IsRunning
bare_doing (IsBlocked w) = IsBlocked (bare_waiting w)
bare_doing IsGone = IsGone

abbrev pub bare_facts : ThreadFacts → ThreadFacts
bare_facts x = record x { doing = bare_doing x.doing; apcs = bare_apcs x.apcs }

-- a set key keeps its due time and its period, and loses the number of the event that set it
abbrev pub bare_setting : Setting → Setting
bare_setting x = record x { number = 0 }

abbrev pub bare_timers : Timers → Timers
bare_timers x =
    record x { timers = map (option_map bare_setting) x.timers; delays = map (option_map bare_setting) x.delays }

-- all lanes but the timers, which stay as they are; locks have no numbers: who holds one, and who spins on it
abbrev pub bare_but_timers : Lanes → Lanes
bare_but_timers l =
    record l {
      objects = map bare_object l.objects;
      queues = map bare_queue l.queues;
      threads = map bare_facts l.threads;
    }

-- all that stands in lanes
abbrev pub bare_lanes : Lanes → Lanes
bare_lanes l = record (bare_but_timers l) { timers = bare_timers l.timers }

-- ---- what a processor keeps

-- a frame without its name; the locks that it holds, the one on which it spins and the levels kept with them stay
abbrev pub bare_frame : Frame → Frame
bare_frame f = record f { name = 0 }

abbrev pub bare_frames : Frames → Frames
bare_frames x =
    record { own = map bare_frame x.own; running = x.running; threads = map (map bare_frame) x.threads }

-- where a processor stands, without the name of its innermost frame
abbrev pub bare_stand : Stand → Stand
bare_stand st = record st { frame = 0 }

-- of what was seen and served only which of the 16 classes are due; neither how many events were made, which the turn
-- limit alone asks, nor which thread was taken last, which the choice of the next one alone asks
abbrev pub bare_own : Own → Own
bare_own x =
    record {
      made = 0;
      frames = bare_frames x.frames;
      seen = table 16 (λ c. if is_due x c then 1 else 0);
      served = table 16 (λ c. 0);
      rested = x.rested;
      took = None;
      fire = x.fire;
      sweep = x.sweep;
    }
