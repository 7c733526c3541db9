-- One processor of a run: what a turn gives is the step, and everything moves on as the history does.
use Rattle.std.proofs.Common.{ap, arith, inl, inr, sym, ◌∙◌}
use Rattle.std.proofs.lemmas.Bool.Decides.{nat_tests}
use Rattle.std.proofs.lemmas.List.Elements.{All-from_get_or}
use Rattle.std.specs.List.{list_any}
use Rattle.std.specs.Prelude.{Bool, Err, List, None, Ok, Option, Result, Some, [], false, if◌then◌else◌, length, nat_lt, not, option_and_then, option_map, refl}
use Rattle.std.specs.Prelude.{suc, true, ℕ, ◌&&◌, ◌<◌, ◌==◌, ◌||◌, ◌∷◌, ◌≡◌, ◌≤◌}
use Rattle.nt_event.specs.declared.events.Event.{Event}
use Rattle.nt_event.specs.declared.events.Rises.{Rises}
use Rattle.nt_event.specs.declared.events.ScheduleKind.{ScheduleKind}
use Rattle.nt_event.specs.declared.events.ScheduleKind.TheVariants.{BadChoice as BadChoiceKind, BadLook as BadLookKind, NoSuchCpu}
use Rattle.nt_event.specs.declared.events.ScheduleKind.TheVariants.{NothingToDo as NothingToDoKind}
use Rattle.nt_event.specs.declared.events.Turn.{Turn}
use Rattle.nt_event.specs.declared.events.Turn.TheVariants.{Look as LookTurn, Next, Switch as SwitchTurn}
use Rattle.nt_event.specs.declared.events.What.{What}
use Rattle.nt_event.specs.declared.events.What.TheVariants.{Look}
use Rattle.nt_event.specs.Frame.{Frame}
use Rattle.nt_event.specs.declared.jobs.Job.{Job}
use Rattle.nt_event.specs.declared.jobs.Job.TheVariants.{Switch as SwitchJob}
use Rattle.nt_event.specs.declared.jobs.Task.{Task}
use Rattle.nt_event.specs.declared.jobs.Task.TheVariants.{Alone, Shared}
use Rattle.nt_event.specs.declared.numbers.CpuNo.{CpuNo}
use Rattle.nt_event.specs.declared.numbers.ThreadNo.{ThreadNo}
use Rattle.nt_event.specs.declared.scripts.Script.{Script}
use Rattle.nt_event.specs.Acting.{IsDue, acted_event}
use Rattle.nt_event.specs.Frames.{frames_of, own_frames, thread_frames}
use Rattle.nt_event.specs.Jobs.{job_event, may_switch, task, task_event}
use Rattle.nt_event.specs.Lanes.{lanes_at}
use Rattle.nt_event.specs.Own.{Own, own_of}
use Rattle.nt_event.specs.Regions.{stand_at}
use Rattle.nt_event.specs.Requests.{seen}
use Rattle.nt_event.specs.Script.{has_thread}
use Rattle.nt_event.specs.Step.{IsRun, cpu_at, event_or, good_rises, is_cut, is_good_look, refused_if, step, uncut_step, was_asked}
use Rattle.nt_event.specs.Numbers.{thread}
use Rattle.nt_event.specs.Lists.{value_at, when}
use Rattle.nt_runs.proofs.Shared.{events_agree}
use Rattle.nt_runs.proofs.Allowed.{jobs_allowed, processors_stand}
use Rattle.nt_runs.proofs.Names.{AllBelow, all_named}
use Rattle.nt_runs.proofs.Settled.{asked_below, seen_below}
use Rattle.nt_event.proofs.Tables.{get_or-table, length-table_from}
use Rattle.nt_floor.specs.Views.{HasWord, View}
use Rattle.nt_frame.specs.Nesting.{AreNamedBelow, next_name}
use Rattle.nt_cpu.specs.Runs.{Follows, asked_rises, is_asked, state_of}
use Rattle.nt_cpu.specs.Turns.{Serves, StandsIn, event_or_refusal, kind_of_refusal, rise_above, rises, task_makes, turn_gives, turn_refusal, turn_task}
use Rattle.nt_cpu.specs.declared.turn.TurnRefusal.{TurnRefusal}
use Rattle.nt_cpu.specs.declared.turn.TurnRefusal.TheVariants.{BadChoice, BadLook, NothingToDo}
use Rattle.nt_cpu.proofs.AloneMoves.{have_states}

-- ---- conditions

-- the next name is at most a bound that all frame names are below
next_below : (n : ℕ) (fs : List Frame) → AllBelow n fs → next_name fs ≤ n
next_below n [] h = omega arith
next_below n (f ∷ fs) h = let b = h.0 in omega arith

-- the processor's frames are named below the number of the next event
pub named_below : (s : Script) (p : CpuNo) (past : List Event) → AreNamedBelow (length past) (frames_of s p past)
named_below s p past = (
  next_below (length past) (own_frames p past) (all_named s p (thread 0) past).own,
  All-from_get_or (λ fs. next_name fs ≤ length past) _ []
      (λ i b. let k : i < length s.threads = omega (arith, length-table_from {A = List Frame} 0 (length s.threads) (λ t. thread_frames s p (thread t) past)) in
      rw (get_or-table {A = List Frame} (length s.threads) i (λ t. thread_frames s p (thread t) past) [] k)
      (next_below (length past) (thread_frames s p (thread i) past) (all_named s p (thread i) past).thread)),
)

-- in a run each processor stands in the states of the lanes
pub stands_run : (s : Script) (limit : ℕ) (p : CpuNo) (past : List Event) → IsRun s limit past → StandsIn (state_of s p limit past) (lanes_at s past)
stands_run s limit p past r = record {
  lanes = have_states s past;
  standing = processors_stand s limit p past r;
  jobs = λ job d. jobs_allowed s limit p job past r d;
}

-- in a run a floor that follows it serves each processor
pub serves_run : (s : Script) (limit : ℕ) (p : CpuNo) (past : List Event) (v : View) → IsRun s limit past → p.0 < s.cpus → Follows s past v →
    (is_cut limit (own_of s p past) ≡ false → 1 ≤ v.drawable) → Serves (state_of s p limit past) v
serves_run s limit p past v r b f l = record {
  cpus = f.cpus;
  drawable = l;
  known = λ k h. let e = f.value p k (word k h) in let q = seen_below s limit p k past r in let g = saw k h in omega arith;
  below = λ k h. let q = seen_below s limit p k past r in let a = asked_below s p k past in let n = f.next in let g = saw k h in omega arith;
  named = rw f.next (named_below s p past);
  stands = rw f.states (stands_run s limit p past r);
  values = λ a q k h. let e = f.value q k h in let x = asked_below s q k past in let n = f.next in omega arith;
}
  where
    word : (k : ℕ) → k < 16 → HasWord v p k
    word k h = let c = f.cpus in (omega arith, h)

    saw : (k : ℕ) → k < 16 → value_at (own_of s p past).seen k ≡ seen s p k past
    saw k h = get_or-table 16 k (λ k. seen s p k past) 0 h

-- ---- looks

-- two guarded tests joined by and are the test of both together
split : (z a w g h : Bool) → ((z || (a && w)) && (g && h)) ≡ (((z || a) && g) && ((z || w) && h))
split true a w g h = refl
split false true true g h = refl
split false true false true h = refl
split false true false false h = refl
split false false w g h = refl

-- values that rise well are those above what was seen, and that were asked for
good_split : (s : Script) (p : CpuNo) (k : ℕ) (vs : List ℕ) (x : Own) (past : List Event) → good_rises s p k vs x past
    ≡ (rise_above k vs x.seen && asked_rises s p k vs past)
good_split s p k [] x past = refl
good_split s p k (v ∷ vs) x past =
    ap (λ (b : Bool). ((v == 0) || (nat_lt (value_at x.seen k) v && was_asked s p k v past)) && b) (good_split s p (suc k) vs x past)
    ∙ split (v == 0) (nat_lt (value_at x.seen k) v) (was_asked s p k v past) (rise_above (suc k) vs x.seen) (asked_rises s p (suc k) vs past)

-- and with true changes nothing
and_true : (b : Bool) → (b && true) ≡ b
and_true true = refl
and_true false = refl

-- and with false is false
and_false : (b : Bool) → (b && false) ≡ false
and_false true = refl
and_false false = refl

-- where its values were asked for, a look is good exactly where they rise
pub rises_good : (s : Script) (p : CpuNo) (r : Rises) (x : Own) (past : List Event) → asked_rises s p 0 r.value past ≡ true → is_good_look s p r.value x past
    ≡ rises r.value x.seen
rises_good s p r x past h =
    ap (λ (b : Bool). list_any (λ v. nat_lt 0 v) r.value && b)
    (good_split s p 0 r.value x past ∙ (ap (λ (b : Bool). rise_above 0 r.value x.seen && b) h ∙ and_true (rise_above 0 r.value x.seen)))

-- where one was not, it is bad
pub unasked_bad : (s : Script) (p : CpuNo) (r : Rises) (x : Own) (past : List Event) → asked_rises s p 0 r.value past ≡ false → is_good_look s p r.value x past
    ≡ false
unasked_bad s p r x past h =
    ap (λ (b : Bool). list_any (λ v. nat_lt 0 v) r.value && b)
    (good_split s p 0 r.value x past ∙ (ap (λ (b : Bool). rise_above 0 r.value x.seen && b) h ∙ and_false (rise_above 0 r.value x.seen)))
    ∙ and_false (list_any (λ v. nat_lt 0 v) r.value)

-- ---- turns are steps

abbrev pub as_step : Result Event TurnRefusal → Result Event ScheduleKind
as_step (Ok e) = Ok e
as_step (Err r) = Err (kind_of_refusal r)

-- a job under lanes gives the event that the frames give
job_steps : (s : Script) (limit : ℕ) (p : CpuNo) (job : Job) (k : TurnRefusal) (past : List Event) → IsRun s limit past → IsDue s p (own_of s p past) job →
    as_step (event_or_refusal k (option_map (acted_event (stand_at s p past) (lanes_at s past)) (job_event s (stand_at s p past) (lanes_at s past) job)))
    ≡ event_or s p (own_of s p past) (kind_of_refusal k) (job_event s (stand_at s p past) (lanes_at s past) job)
job_steps s limit p job k past r d = go (job_event s (stand_at s p past) (lanes_at s past) job) refl
  where
    go : (o : Option What) → job_event s (stand_at s p past) (lanes_at s past) job ≡ o →
        as_step (event_or_refusal k (option_map (acted_event (stand_at s p past) (lanes_at s past)) o)) ≡ event_or s p (own_of s p past) (kind_of_refusal k) o
    go None e = refl
    go (Some w) e = ap (λ (x : Event). Ok x) (sym (events_agree s limit p job w past r d e))

-- a turn for the next task gives the event of that task, or a refusal that there is nothing to do
next_steps : (s : Script) (limit : ℕ) (p : CpuNo) (past : List Event) → IsRun s limit past →
    as_step (event_or_refusal NothingToDo (option_and_then (task_makes s p (own_of s p past) (lanes_at s past)) (task s p (own_of s p past))))
    ≡ event_or s p (own_of s p past) NothingToDoKind (option_and_then (task_event s (stand_at s p past) (lanes_at s past)) (task s p (own_of s p past)))
next_steps s limit p past r = go (task s p (own_of s p past)) refl
  where
    go : (o : Option Task) → task s p (own_of s p past) ≡ o →
        as_step (event_or_refusal NothingToDo (option_and_then (task_makes s p (own_of s p past) (lanes_at s past)) o))
        ≡ event_or s p (own_of s p past) NothingToDoKind (option_and_then (task_event s (stand_at s p past) (lanes_at s past)) o)
    go None e = refl
    go (Some (Alone w)) e = refl
    go (Some (Shared job)) e = job_steps s limit p job NothingToDo past r (inl e)

-- a turn for a look gives the look if its values are good, or a refusal as a bad look
look_steps : (s : Script) (p : CpuNo) (r : Rises) (past : List Event) → asked_rises s p 0 r.value past ≡ true →
    as_step (event_or_refusal BadLook (option_and_then (task_makes s p (own_of s p past) (lanes_at s past))
    (when (rises r.value (own_of s p past).seen) (Some (Alone (Look r))))))
    ≡ event_or s p (own_of s p past) BadLookKind (when (is_good_look s p r.value (own_of s p past) past) (Some (Look r)))
look_steps s p r past h =
    go (rises r.value (own_of s p past).seen)
    ∙ ap (λ (b : Bool). event_or s p (own_of s p past) BadLookKind (when b (Some (Look r)))) (sym (rises_good s p r (own_of s p past) past h))
  where
    go : (b : Bool) → as_step (event_or_refusal BadLook (option_and_then (task_makes s p (own_of s p past) (lanes_at s past))
        (when b (Some (Alone (Look r)))))) ≡ event_or s p (own_of s p past) BadLookKind (when b (Some (Look r)))
    go true = refl
    go false = refl

-- a turn for a given switch gives the switch if the processor may switch, or a refusal as a bad choice
switch_steps : (s : Script) (limit : ℕ) (p : CpuNo) (t : ThreadNo) (past : List Event) → IsRun s limit past →
    as_step (event_or_refusal BadChoice (option_and_then (task_makes s p (own_of s p past) (lanes_at s past))
    (when (may_switch (own_of s p past) && has_thread s t) (Some (Shared (SwitchJob t))))))
    ≡ event_or s p (own_of s p past) BadChoiceKind (when (may_switch (own_of s p past)) (job_event s (stand_at s p past) (lanes_at s past) (SwitchJob t)))
switch_steps s limit p t past r =
    go (may_switch (own_of s p past)) refl (has_thread s t) refl
  where
    go : (b : Bool) → may_switch (own_of s p past) ≡ b → (h : Bool) → has_thread s t ≡ h →
        as_step (event_or_refusal BadChoice (option_and_then (task_makes s p (own_of s p past) (lanes_at s past))
        (when (b && h) (Some (Shared (SwitchJob t)))))) ≡ event_or s p (own_of s p past) BadChoiceKind
        (when b (job_event s (stand_at s p past) (lanes_at s past) (SwitchJob t)))
    go true m true h = job_steps s limit p (SwitchJob t) BadChoice past r (inr (refl, m))
    go true m false h = rw h refl
    go false m h q = refl

-- what the turn gives of a processor in a run is the step
pub turn_is_step : (s : Script) (limit : ℕ) (t : Turn) (past : List Event) → IsRun s limit past → (cpu_at t).0 < s.cpus → is_asked s t past ≡ true →
    as_step (turn_gives (state_of s (cpu_at t) limit past) (lanes_at s past) t) ≡ step s limit t past
turn_is_step s limit t past r b a =
    uncut t a (is_cut limit (own_of s (cpu_at t) past)) refl
    ∙ ap (λ (n : Bool). refused_if (not n) NoSuchCpu (refused_if (is_cut limit (own_of s (cpu_at t) past)) NothingToDoKind
    (uncut_step s t (own_of s (cpu_at t) past) (lanes_at s past) past))) (sym here)
  where
    here : nat_lt (cpu_at t).0 s.cpus ≡ true
    here = grind (arith, nat_tests)

    given : (t : Turn) → is_asked s t past ≡ true → as_step
        (event_or_refusal (turn_refusal t) (option_and_then (task_makes s (cpu_at t) (own_of s (cpu_at t) past) (lanes_at s past))
        (turn_task s (cpu_at t) (own_of s (cpu_at t) past) t))) ≡ uncut_step s t (own_of s (cpu_at t) past) (lanes_at s past) past
    given (Next p) a = next_steps s limit p past r
    given (LookTurn p q) a = look_steps s p q past a
    given (SwitchTurn p u) a = switch_steps s limit p u past r

    uncut : (t : Turn) → is_asked s t past ≡ true → (c : Bool) → is_cut limit (own_of s (cpu_at t) past) ≡ c →
        as_step (if c then Err NothingToDo else event_or_refusal (turn_refusal t)
        (option_and_then (task_makes s (cpu_at t) (own_of s (cpu_at t) past) (lanes_at s past)) (turn_task s (cpu_at t) (own_of s (cpu_at t) past) t)))
        ≡ refused_if c NothingToDoKind (uncut_step s t (own_of s (cpu_at t) past) (lanes_at s past) past)
    uncut t a true e = refl
    uncut t a false e = given t a
