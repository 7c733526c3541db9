-- What holds of the history of a task, and of a task whose turns are refused.
use Rattle.std.proofs.Common.{◌≡◌, ℕ, Err, Ok, Result, Some, ap, subst}
use Rattle.std.specs.Prelude.{IfErr, IfOk, reverse, true}
use Rattle.nt_core.proofs.Replaying.{replays_run}
use Rattle.nt_core.specs.declared.refusals.ScheduleRefusal.{ScheduleRefusal}
use Rattle.nt_core.specs.Refusals.{IsReplayRefused}
use Rattle.nt_core.specs.declared.refusals.ScheduleRefusal.TheVariants.{Bad, NoMemory}
use Rattle.nt_event.specs.declared.events.History.{History}
use Rattle.nt_event.specs.declared.events.ScheduleKind.{ScheduleKind}
use Rattle.nt_event.specs.Fitting.{events_fit}
use Rattle.nt_event.specs.Robin.{is_settled}
use Rattle.nt_event.specs.Step.{IsRun}
use Rattle.nt_laws.proofs.Named.RunFits.{run_fits}
use Rattle.nt_log.specs.declared.schedules.Schedule.{Schedule}
use Rattle.nt_script.specs.declared.walk.Input.{Input}
use Rattle.nt_top.specs.declared.task.Task.{Task}
use Rattle.nt_top.specs.declared.task.Task.TheVariants as task
use Rattle.nt_top.specs.Outcome.{IsRunOf, refused_in, refused_turn}
use Rattle.nt_top.specs.Tasks.{IsSoundTask, input_of, limit_of}

-- the history of a task is a settled run of its script, with its limit
pub record IsSettledRun (t : Task) (h : History) : Type 0 where
  pub turns : h.turns ≡ limit_of t
  pub run : IsRun (input_of t).script (limit_of t) (reverse h.events)
  pub settled : is_settled (input_of t).script (limit_of t) (reverse h.events) ≡ true

-- the history of a task is a settled run of the task's script, with its limit
pub run_of : (t : Task) (h : History) → IsRunOf t h → IsSettledRun t h
run_of (task.Run input turns) h r = record { turns = r.turns; run = r.run; settled = r.settled }
run_of (task.Live input turns) h r = record { turns = r.turns; run = r.run; settled = r.settled }
run_of (task.Replay input schedule) h r =
    let i = replays_run input.script schedule.turns schedule.list (reverse h.events) r.run in
    record { turns = r.turns; run = i.run; settled = i.settled }
run_of (task.Check input history) h r = absurd r
run_of (task.Migrate input) h r = absurd r
run_of (task.Verify input) h r = absurd r
run_of (task.Shrink input schedule goal) h r = absurd r
run_of (task.Audit input turns workers) h r = absurd r

-- the events of a task's history name things of its script
pub events_of : (t : Task) (h : History) → IsSoundTask t → IsRunOf t h → events_fit (input_of t).script h.events ≡ true
events_of t h s r = run_fits (input_of t).script (limit_of t) h.events s.sound.fits (run_of t h r).run

-- the events of the history that is made for a sound task fit its script
pub fit_made : (t : Task) (r : Result History ScheduleRefusal) → IsSoundTask t → IfOk r (IsRunOf t) →
    IfOk r (λ h. events_fit (input_of t).script h.events ≡ true)
fit_made t (Ok h) s k = events_of t h s k
fit_made t (Err e) s k = tt

-- a robin run is refused for want of memory alone
pub never_bad : (input : Input) (turns : ℕ) (r : Result History ScheduleRefusal) → IfErr r (λ e. e ≡ NoMemory) → (at : ℕ) (kind : ScheduleKind) → r
    ≡ Err (Bad at kind) → refused_turn (task.Run input turns) ≡ Some (record { at = at; kind = kind })
never_bad input turns r h at kind e = go (subst (λ (x : Result History ScheduleRefusal). IfErr x (λ e. e ≡ NoMemory)) e h)
  where
    go : ◌≡◌ {A = ScheduleRefusal} (Bad at kind) NoMemory → refused_turn (task.Run input turns) ≡ Some (record { at = at; kind = kind })
    go k = cc

-- why the turns of a schedule are refused
pub replay_bad : (input : Input) (schedule : Schedule) (r : Result History ScheduleRefusal) →
    IfErr r (IsReplayRefused input.script schedule.turns schedule.list) → (at : ℕ) (kind : ScheduleKind) → r ≡ Err (Bad at kind) →
    refused_turn (task.Replay input schedule) ≡ Some (record { at = at; kind = kind })
replay_bad input schedule r h at kind e =
    ap refused_in (subst (λ (x : Result History ScheduleRefusal). IfErr x (IsReplayRefused input.script schedule.turns schedule.list)) e h)
