-- What holds of the threads of held lanes where an event is made.
use Rattle.std.specs.Prelude.{IfSome, List, None, Option, get_or, true, ◌≡◌}
use Rattle.nt_event.specs.declared.events.What.{What}
use Rattle.nt_event.specs.declared.jobs.Job.{Job}
use Rattle.nt_event.specs.declared.jobs.Job.TheVariants as job
use Rattle.nt_event.specs.declared.jobs.Stand.{Stand}
use Rattle.nt_event.specs.declared.scripts.Script.{Script}
use Rattle.nt_event.specs.Threads.{ThreadFacts, start_facts}
use Rattle.nt_states.specs.ThreadFits.{RunsHere, named_thread}
use Rattle.nt_lane_record.specs.Held.{GroupState}

-- where a group is held and the event names no thread, its maker runs there
abbrev pub MakerRuns : Script → Option GroupState → Stand → What → Type 0
MakerRuns s group st w = IfSome group (λ g. named_thread s w ≡ None → IfSome st.thread (RunsHere g.threads st))

-- the thread of a Rundown leaves
abbrev pub Leaves : List ThreadFacts → Stand → Job → Type 0
Leaves threads st (job.Call c) = Unit {0}
Leaves threads st (job.Fire d) = Unit {0}
Leaves threads st (job.Free k) = Unit {0}
Leaves threads st job.Drain = Unit {0}
Leaves threads st job.Apcs = Unit {0}
Leaves threads st job.Threaded = Unit {0}
Leaves threads st job.Idle = Unit {0}
Leaves threads st (job.Pick last) = Unit {0}
Leaves threads st (job.Switch t) = Unit {0}
Leaves threads st job.Rewait = Unit {0}
Leaves threads st job.ToUser = Unit {0}
Leaves threads st job.UserEnd = Unit {0}
Leaves threads st job.Leave = Unit {0}
Leaves threads st job.Rundown = IfSome st.thread (λ t. (get_or threads t.0 start_facts).leaving ≡ true)
