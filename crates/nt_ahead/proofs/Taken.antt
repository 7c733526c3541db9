-- What is known of a turn that may be taken.
use Rattle.std.proofs.lemmas.Bool.{ltb-true}
use Rattle.std.specs.Prelude.{Bool, List, Ok, Some, false, length, nat_lt, not, refl, true, ◌<◌, ◌≡◌}
use Rattle.nt_event.specs.declared.events.Event.{Event}
use Rattle.nt_event.specs.declared.events.Rises.{Rises}
use Rattle.nt_event.specs.declared.events.ScheduleKind.TheVariants.{BadChoice, BadLook, NoSuchCpu}
use Rattle.nt_event.specs.declared.events.Turn.{Turn}
use Rattle.nt_event.specs.declared.events.Turn.TheVariants.{Look as LookTurn, Switch as SwitchTurn}
use Rattle.nt_event.specs.declared.events.What.TheVariants.{Look}
use Rattle.nt_event.specs.declared.jobs.Job.TheVariants.{Switch as SwitchJob}
use Rattle.nt_event.specs.declared.numbers.CpuNo.{CpuNo}
use Rattle.nt_event.specs.declared.numbers.ThreadNo.{ThreadNo}
use Rattle.nt_event.specs.declared.scripts.Script.{Script}
use Rattle.nt_event.specs.Jobs.{job_event, may_switch, may_take, switch_event}
use Rattle.nt_event.specs.Lanes.{lanes_at}
use Rattle.nt_event.specs.Lists.{when}
use Rattle.nt_event.specs.Own.{own_of, stand_in}
use Rattle.nt_event.specs.Step.{cpu_at, is_good_look, uncut_step}
use Rattle.nt_event.proofs.Options.{both, when_gives}
use Rattle.nt_runs.proofs.Steps.{event_gives, refused_gives}
use Rattle.nt_ahead.specs.Turns.{MayTake}

module _ (s : Script) (past : List Event) where
  not_refused : (turn : Turn) (m : MayTake s past turn) → (not (nat_lt (cpu_at turn).0 s.cpus) ≡ false) ×
      (uncut_step s turn (own_of s (cpu_at turn) past) (lanes_at s past) past ≡ Ok m.event)
  not_refused turn m =
      refused_gives (not (nat_lt (cpu_at turn).0 s.cpus)) NoSuchCpu (uncut_step s turn (own_of s (cpu_at turn) past) (lanes_at s past) past) m.event m.gives

  -- it is of a processor of the script
  pub taken_cpu : (turn : Turn) → MayTake s past turn → (cpu_at turn).0 < s.cpus
  taken_cpu turn m = ltb-true (cpu_at turn).0 s.cpus (yes (nat_lt (cpu_at turn).0 s.cpus) (not_refused turn m).0)
    where
      yes : (b : Bool) → not b ≡ false → b ≡ true
      yes true h = refl
      yes false h = cc

  -- a Switch takes a thread of the script
  pub taken_thread : (p : CpuNo) (t : ThreadNo) → MayTake s past (SwitchTurn p t) → t.0 < length s.threads
  taken_thread p t m =
      let x = own_of s p past in
      let l = lanes_at s past in
      let u = (not_refused (SwitchTurn p t) m).1 in
      let e = event_gives s p x BadChoice (when (may_switch x) (job_event s (stand_in p x) l (SwitchJob t))) m.event u in
      let a = when_gives (may_switch x) (when (may_take s p t l) (Some (switch_event t l))) e.0 e.1 in
      let b = when_gives (may_take s p t l) (Some (switch_event t l)) e.0 a.1 in
      ltb-true t.0 (length s.threads) (both _ _ b.0).0

  -- a Look is a good one
  pub taken_look : (p : CpuNo) (r : Rises) → MayTake s past (LookTurn p r) → is_good_look s p r.value (own_of s p past) past ≡ true
  taken_look p r m =
      let x = own_of s p past in
      let u = (not_refused (LookTurn p r) m).1 in
      let e = event_gives s p x BadLook (when (is_good_look s p r.value x past) (Some (Look r))) m.event u in
      (when_gives (is_good_look s p r.value x past) (Some (Look r)) e.0 e.1).0
