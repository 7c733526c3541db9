-- What an act is to make in the states of held lanes.
use Rattle.std.specs.Prelude.{All, IfSome, ◌<◌, ◌^◌, ◌≡◌}
use Rattle.nt_event.specs.declared.jobs.Job.{Job}
use Rattle.nt_event.specs.declared.jobs.Stand.{Stand}
use Rattle.nt_event.specs.Acting.{acted_event}
use Rattle.nt_event.specs.Frames.{due_of}
use Rattle.nt_event.specs.Lanes.{what_lanes}
use Rattle.nt_event.specs.Requests.{what_asks}
use Rattle.nt_event.specs.Acts.{KindsFit}
use Rattle.nt_states.specs.LaneLists.{AskFits, LaneFits}
use Rattle.nt_states.specs.Reads.{AreHeld}
use Rattle.nt_lane.specs.Answers.{BothAgree, HeldStates, IsHeld, held_lanes}
use Rattle.nt_lane.specs.Decided.{IsEvent, IsNoEvent}
use Rattle.nt_lane.specs.Leaving.{Leaves, MakerRuns}
use Rattle.nt_lane.specs.declared.planning.Plan.{Plan}
use Rattle.nt_lane.specs.declared.planning.Planned.{Planned}
use Rattle.nt_lane.specs.declared.planning.Planned.TheVariants as planned

-- the event is the job's, and each lane that it touches is held
pub record IsPlan (h : HeldStates) (st : Stand) (j : Job) (p : Plan) : Type 0 where
  pub decided : IsEvent h st j p.event.what
  pub event : p.event ≡ acted_event st (held_lanes h) p.event.what
  pub due : p.due ≡ due_of p.event.what (held_lanes h).timers.now
  pub due_fits : IfSome p.due (λ due. due < 2 ^ 51)
  pub lanes : p.lanes ≡ what_lanes h.script st p.event.what (held_lanes h)
  pub lanes_named : All (LaneFits h.script) p.lanes
  pub held : AreHeld (IsHeld h) p.lanes
  pub asks : p.asks ≡ what_asks h.script st p.event.what (held_lanes h)
  pub asks_named : All (AskFits h.script) p.asks
  pub kinds : KindsFit h.script (held_lanes h)
  pub runs : MakerRuns h.script h.group st p.event.what
  pub agree : BothAgree h.object h.queue
  pub leaves : Leaves (held_lanes h).threads st j

abbrev pub IsPlanned : HeldStates → Stand → Job → Planned → Type 0
IsPlanned h st j (planned.Event p) = IsPlan h st j p
IsPlanned h st j (planned.Refused r) = IsNoEvent h st j r
IsPlanned h st j (planned.Again n) = Unit {0}
