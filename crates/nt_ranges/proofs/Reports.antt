-- The history of a run, and its schedule, are plain.
use Rattle.std.proofs.Common.{arith, subst, sym}
use Rattle.std.proofs.Math.Nat.{mul-le-mul}
use Rattle.std.proofs.lemmas.Bool.{eqb-false, eqb-true, leb-true, ltb-true}
use Rattle.std.proofs.lemmas.List.{length-map, length-reverse}
use Rattle.std.specs.List.{AllByRecursion}
use Rattle.std.specs.Prelude.{Bool, false, if◌then◌else◌, length, nat_le, refl, reverse, true, ℕ, ◌&&◌, ◌*◌, ◌<◌, ◌==◌, ◌≡◌, ◌≤◌}
use Rattle.nt_event.specs.declared.limits.TheConstants.{EVENTS, TURNS}
use Rattle.nt_event.specs.declared.events.Event.{Event}
use Rattle.nt_event.specs.declared.events.History.{History}
use Rattle.nt_event.specs.declared.events.What.{What}
use Rattle.nt_event.specs.declared.events.What.TheVariants.{Look, Switch}
use Rattle.nt_event.specs.declared.numbers.CpuNo.{CpuNo}
use Rattle.nt_event.specs.Fitting.{what_fits}
use Rattle.nt_event.specs.Script.{has_cpu, has_thread, where_given}
use Rattle.nt_event.specs.Step.{cpu_at, turn_at, turn_of}
use Rattle.nt_event.proofs.Options.{both}
use Rattle.nt_runs.proofs.Steps.{cpu_at-turn_at}
use Rattle.nt_laws.proofs.Counts.{run_bounded}
use Rattle.nt_script.specs.declared.walk.Input.{Input}
use Rattle.nt_log.proofs.OneRow.{all_map}
use Rattle.nt_script.specs.Sound.{IsSound}
use Rattle.nt_script.proofs.Fit.{most_64}
use Rattle.nt_log.specs.Schedules.{TurnIsPlain, schedule_of, turn_bound, IsPlain as ScheduleIsPlain}
use Rattle.nt_print.specs.Conditions.{EventIsPlain, WhatInRange, IsPlain as HistoryIsPlain}
use Rattle.nt_ranges.specs.Looks.{LookIsWhole}
use Rattle.nt_ranges.specs.Plain.{IsRunOf}
use Rattle.nt_ranges.proofs.Events.{events_are_plain}
use Rattle.nt_ranges.proofs.NamedClasses.{MayNameLocks}
use Rattle.nt_ranges.proofs.Lists.{all_in_order, all_reversed}

-- at most 8 processors make at most 20,000 events each, and at most 64 at most 2,500
pub few_turns : (cpus turns : ℕ) → cpus ≤ 64 → turns ≤ turn_bound cpus → cpus * turns ≤ EVENTS
few_turns cpus turns most h = go (nat_le cpus 8) refl h
  where
    go : (b : Bool) → nat_le cpus 8 ≡ b → turns ≤ (if b then TURNS else 2500) → cpus * turns ≤ EVENTS
    go true few h =
        let bound : cpus * turns ≤ 8 * TURNS = mul-le-mul (leb-true cpus 8 few) h in omega (arith, bound)
    go false many h = let bound : cpus * turns ≤ 64 * 2500 = mul-le-mul most h in omega (arith, bound)

-- a sound input has at most 64 processors
pub few_cpus : (input : Input) → IsSound input → input.script.cpus ≤ 64
few_cpus input sound = most_64 input.version input.script.cpus sound.cpus

-- a run of an input has at most as many events as the bound of events
pub few_events : (input : Input) (h : History) → IsRunOf input h → length (reverse h.events) ≤ EVENTS
few_events input h r =
    let most = few_turns input.script.cpus h.turns (few_cpus input r.sound) r.limit.1 in
    let bound : length (reverse h.events) ≤ input.script.cpus * h.turns = run_bounded input.script h.turns (reverse h.events) r.run in
    omega (arith, most, bound)

-- in a sound input a script may name locks only if its version has them
may_name : (input : Input) → IsSound input → MayNameLocks input.version input.script
may_name input sound k h = go (input.version == 1) refl
  where
    go : (b : Bool) → (input.version == 1) ≡ b → input.version ≡ 2
    go true e =
        let none = sound.no_locks (eqb-true input.version 1 e) in
        let there = ltb-true k.0 input.script.locks h in
        absurd (omega (arith, none, there))
    go false e = let bounds = sound.version in let other = eqb-false input.version 1 e in omega (arith, bounds, other)

-- a run of an input is a plain history, so it has a report
pub a_run_has_a_report : (input : Input) (h : History) → IsRunOf input h → HistoryIsPlain input h
a_run_has_a_report input h r =
    let few = few_events input h r in
    let same = length-reverse h.events in
    record {
      events = all_in_order (EventIsPlain input) h.events
          (events_are_plain input h.turns (reverse h.events) r.sound.fits (may_name input r.sound) r.sound.ranges few
          (all_reversed (λ (e : Event). LookIsWhole e.what) h.events r.looks) r.run);
      few = omega (arith, few, same);
      limit = r.limit;
    }

-- ---- the schedule

-- the processor of a plain event is one of the script's
pub of_processor : (input : Input) (e : Event) → EventIsPlain input e → e.cpu.0 < input.script.cpus
of_processor input e h =
    let s = input.script in
    let named = both (has_cpu s e.cpu && where_given (has_thread s) e.thread) (what_fits s e.what) h.0 in
    ltb-true e.cpu.0 s.cpus (both (has_cpu s e.cpu) (where_given (has_thread s) e.thread) named.0).0

-- the turn of an action that fits the script and is in range is plain, on one of 64 processors
turn_is_plain : (input : Input) (p : CpuNo) (w : What) → p.0 ≤ 63 → what_fits input.script w ≡ true → WhatInRange input.version w →
    TurnIsPlain input (turn_at p w)
turn_is_plain input p (Look rises) b f r = (b, r)
turn_is_plain input p (Switch t status) b f r = (b, ltb-true t.0 (length input.script.threads) f)
turn_is_plain input p w b f r = b

-- the turn of a plain event is plain, if the script has at most 64 processors
turn_of_plain : (input : Input) (e : Event) → input.script.cpus ≤ 64 → EventIsPlain input e → TurnIsPlain input (turn_of e)
turn_of_plain input e c h =
    let s = input.script in
    let named = both (has_cpu s e.cpu && where_given (has_thread s) e.thread) (what_fits s e.what) h.0 in
    let below = of_processor input e h in
    turn_is_plain input e.cpu e.what (omega (arith, below, c)) named.1 h.1.1

-- the schedule of a run of an input is one that a text may have
pub its_schedule_is_plain : (input : Input) (h : History) → IsRunOf input h → ScheduleIsPlain input (schedule_of h)
its_schedule_is_plain input h r =
    let plain = a_run_has_a_report input h r in
    let few = plain.few in
    let same = length-map h.events turn_of in
    record {
      turns = all_map (EventIsPlain input) (TurnIsPlain input) turn_of (λ e k. turn_of_plain input e (few_cpus input r.sound) k) h.events plain.events;
      few = omega (arith, few, same);
      limit = r.limit;
    }

-- the turns of a run's schedule are of processors of the script
pub its_turns_are_of_processors : (input : Input) (h : History) → IsRunOf input h → AllByRecursion (λ t. (cpu_at t).0 < input.script.cpus) (schedule_of h).list
its_turns_are_of_processors input h r =
    all_map (EventIsPlain input) (λ t. (cpu_at t).0 < input.script.cpus) turn_of
    (λ e k. subst (λ (p : CpuNo). p.0 < input.script.cpus) (sym (cpu_at-turn_at e.cpu e.what)) (of_processor input e k)) h.events
    (a_run_has_a_report input h r).events
