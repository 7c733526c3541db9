-- Why a try made no event.
use Rattle.std.proofs.Common.{refl, subst, sym, ◌≡◌}
use Rattle.nt_event.specs.declared.jobs.Job.{Job}
use Rattle.nt_event.specs.declared.jobs.Job.TheVariants as job
use Rattle.nt_event.specs.declared.jobs.Stand.{Stand}
use Rattle.nt_event.specs.declared.scripts.Script.{Script}
use Rattle.nt_event.specs.declared.acts.ActRefusal.{ActRefusal}
use Rattle.nt_event.specs.declared.acts.ActRefusal.TheVariants.{NoMemory}
use Rattle.nt_event.specs.Acts.{Found, IsRefused}
use Rattle.nt_mark.specs.declared.view.View.{View}
use Rattle.nt_states.specs.Reads.{job_lanes}
use Rattle.nt_lane.specs.declared.planning.Plan.{Plan}
use Rattle.nt_lane.specs.Decided.{IsNoEvent}
use Rattle.nt_lane.specs.Locks.{AreKnownBy, AreLanes, AreLongest, HeldLanes, found_in, states_of}
use Rattle.nt_lane.specs.Plans.{IsPlan}
use Rattle.nt_lane.specs.Tries.{IsNotDone}
use Rattle.nt_lane_record.specs.Passes.{Learns}
use Rattle.nt_lane.proofs.Founding.{all_shown}

-- no memory was found
memory : (s : Script) (f : Found) (st : Stand) (j : Job) → IsRefused s f st j NoMemory
memory s f st job.Idle = tt
memory s f st (job.Switch t) = tt
memory s f st (job.Call c) = tt
memory s f st (job.Fire d) = tt
memory s f st (job.Free k) = tt
memory s f st job.Drain = tt
memory s f st job.Apcs = tt
memory s f st job.Threaded = tt
memory s f st (job.Pick last) = tt
memory s f st job.Rewait = tt
memory s f st job.ToUser = tt
memory s f st job.UserEnd = tt
memory s f st job.Leave = tt
memory s f st job.Rundown = tt

-- the pass met the held lanes, and they took in what it knows after that
module _ (s : Script) (h : HeldLanes) (st : Stand) (j : Job) (u v w : View) (there : AreLanes s h) (known : AreKnownBy h v) (learns : Learns u v)
    (same : w ≡ v) (longest : AreLongest h w) where
  all_known : AreKnownBy h w
  all_known = subst (λ (x : View). AreKnownBy h x) (sym same) known

  all_learned : Learns u w
  all_learned = subst (λ (x : View). Learns u x) (sym same) learns

  -- if there is no event for a reason in the held states, the act is not done for that reason
  pub no_event : (r : ActRefusal) → IsNoEvent (states_of s h) st j r → IsNotDone s st j u w r
  no_event r why = record {
    found = found_in s h;
    shown = all_shown s h there w all_known longest (job_lanes s st j) why.can.held;
    cause = why.cause (found_in s h) refl;
    learns = all_learned;
  }

  -- if an event was planned, being out of memory is a reason for which the act is not done
  pub no_memory : (p : Plan) → IsPlan (states_of s h) st j p → IsNotDone s st j u w NoMemory
  no_memory p plan = record {
    found = found_in s h;
    shown = all_shown s h there w all_known longest (job_lanes s st j) plan.decided.can.held;
    cause = memory s (found_in s h) st j;
    learns = all_learned;
  }
