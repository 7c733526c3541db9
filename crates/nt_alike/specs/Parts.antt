-- What an event leaves of each part, asks for and touches, and what a job gives, but for numbers, is told by the bare
-- event and the bare states. These are the steps on which alike histories go on alike.
use Rattle.std.specs.Prelude.{List, map, option_map, true, ℕ, ◌==◌, ◌≡◌}
use Rattle.nt_event.specs.declared.commands.TimerKey.TheVariants as keys
use Rattle.nt_event.specs.declared.events.Event.{Event}
use Rattle.nt_event.specs.declared.events.What.{What}
use Rattle.nt_event.specs.declared.events.What.TheVariants as what
use Rattle.nt_event.specs.declared.jobs.Job.{Job}
use Rattle.nt_event.specs.declared.jobs.Stand.{Stand}
use Rattle.nt_event.specs.declared.numbers.CpuNo.{CpuNo}
use Rattle.nt_event.specs.declared.numbers.DpcNo.{DpcNo}
use Rattle.nt_event.specs.declared.numbers.ThreadNo.{ThreadNo}
use Rattle.nt_event.specs.declared.scripts.Script.{Script}
use Rattle.nt_event.specs.Jobs.{job_event}
use Rattle.nt_event.specs.Lanes.{Lanes, facts_at, what_lanes}
use Rattle.nt_event.specs.Objects.{ObjectState, object_after}
use Rattle.nt_event.specs.Queues.{QueueState, queue_after}
use Rattle.nt_event.specs.Requests.{what_asks}
use Rattle.nt_event.specs.Threads.{ThreadFacts, ends_by_expiry, waits_as}
use Rattle.nt_event.specs.Waits.{facts_after}
use Rattle.nt_alike.specs.Bare.{bare_but_timers, bare_event, bare_facts, bare_object, bare_queue, bare_stand, bare_what}

abbrev pub ObjectsAreBare : Type 0
ObjectsAreBare = (d : DpcNo) (n : ℕ) (by : CpuNo) (w : What) (o : ObjectState) →
    bare_object (object_after d n by w o) ≡ object_after d 0 by (bare_what w) (bare_object o)

abbrev pub QueuesAreBare : Type 0
QueuesAreBare = (s : Script) (p : CpuNo) (n : ℕ) (by : CpuNo) (w : What) (objects : List ObjectState) (q : QueueState) →
    bare_queue (queue_after s p n by w objects q)
    ≡ queue_after s p 0 by (bare_what w) (map bare_object objects) (bare_queue q)

-- an expiry of the thread's delay is that of its present wait, if that wait is a delay; in every run it is
abbrev pub IsTimely : ThreadNo → What → ThreadFacts → Type 0
IsTimely t (what.Expire (keys.Delay u) from) x =
    (u.0 == t.0) ≡ true → ends_by_expiry from x ≡ waits_as (λ w. w.delay) x
IsTimely t (what.Expire (keys.Timer u) from) x = Unit {0}
IsTimely t (what.Call f c y) x = Unit {0}
IsTimely t (what.Look r) x = Unit {0}
IsTimely t (what.Begin b from) x = Unit {0}
IsTimely t (what.Normal f) x = Unit {0}
IsTimely t (what.End f) x = Unit {0}
IsTimely t (what.Fire d y) x = Unit {0}
IsTimely t (what.Clean class) x = Unit {0}
IsTimely t (what.Switch u status) x = Unit {0}
IsTimely t (what.Rewait f y) x = Unit {0}
IsTimely t (what.Flush a from) x = Unit {0}
IsTimely t (what.Gone u) x = Unit {0}
IsTimely t (what.Free f k) x = Unit {0}
IsTimely t what.Rest x = Unit {0}

abbrev pub FactsAreBare : Type 0
FactsAreBare = (s : Script) (t : ThreadNo) (n : ℕ) (st : Stand) (e : Event) (x : ThreadFacts) → IsTimely t e.what x →
    bare_facts (facts_after s t n st e x) ≡ facts_after s t 0 (bare_stand st) (bare_event e) (bare_facts x)

-- the timers stand in these as they are, since which of them is due first may rest on their numbers
abbrev pub JobsAreBare : Type 0
JobsAreBare = (s : Script) (st : Stand) (l : Lanes) (j : Job) →
    option_map bare_what (job_event s st l j)
    ≡ option_map bare_what (job_event s (bare_stand st) (bare_but_timers l) j)

abbrev pub AsksAreBare : Type 0
AsksAreBare = (s : Script) (st : Stand) (w : What) (l : Lanes) → ((t : ThreadNo) → IsTimely t w (facts_at l t)) →
    what_asks s st w l ≡ what_asks s (bare_stand st) (bare_what w) (bare_but_timers l)

abbrev pub LanesAreBare : Type 0
LanesAreBare = (s : Script) (st : Stand) (w : What) (l : Lanes) →
    what_lanes s st w l ≡ what_lanes s (bare_stand st) (bare_what w) (bare_but_timers l)
