-- The event that a processor makes by itself is the step of its turn.
use Rattle.nt_cpu.specs.Runs.{Follows, state_of}
use Rattle.nt_cpu.specs.States.{CpuState}
use Rattle.nt_cpu.specs.Steps.{Advanced, AllLooked, AreLooked, IsStepped, local_answer, local_gives, local_task}
use Rattle.nt_cpu.specs.Turns.{IsShared}
use Rattle.nt_cpu.specs.declared.steps.Local.TheVariants.{Cut as LocalCut, Did as LocalDid, NeedsLane}
use Rattle.nt_cpu.specs.declared.steps.Turned.TheVariants.{Did}
use Rattle.nt_event.proofs.Booleans.{same}
use Rattle.nt_event.proofs.Options.{both}
use Rattle.nt_event.specs.Acting.{IsDue, acted_event, is_choice}
use Rattle.nt_event.specs.Classes.{is_used_class}
use Rattle.nt_event.specs.Frames.{frames_of}
use Rattle.nt_event.specs.Jobs.{chosen_task, chosen_what, is_still, job_event, may_switch, next_ready, task, task_event}
use Rattle.nt_event.specs.Lanes.{Lanes, lanes_at}
use Rattle.nt_event.specs.Lists.{table_from, value_at}
use Rattle.nt_event.specs.Numbers.{cpu}
use Rattle.nt_event.specs.Own.{Own, made, own_of}
use Rattle.nt_event.specs.Regions.{stand_at}
use Rattle.nt_event.specs.Requests.{asked}
use Rattle.nt_event.specs.Robin.{go_on_turn, is_behind, look_value, look_values, switch_or_next}
use Rattle.nt_event.specs.Step.{IsRun, cpu_at, event_at, good_rises, is_cut, is_good_look, step, turn_at, turn_of, was_asked}
use Rattle.nt_event.specs.declared.events.Event.{Event}
use Rattle.nt_event.specs.declared.events.Rises.{Rises}
use Rattle.nt_event.specs.declared.events.Turn.{Turn}
use Rattle.nt_event.specs.declared.events.Turn.TheVariants.{Look as LookTurn, Next}
use Rattle.nt_event.specs.declared.events.What.{What}
use Rattle.nt_event.specs.declared.events.What.TheVariants.{Look}
use Rattle.nt_event.specs.declared.jobs.Job.{Job}
use Rattle.nt_event.specs.declared.jobs.Job.TheVariants.{Pick as PickJob}
use Rattle.nt_event.specs.declared.jobs.Task.{Task}
use Rattle.nt_event.specs.declared.jobs.Task.TheVariants.{Alone, Shared}
use Rattle.nt_event.specs.declared.numbers.CpuNo.{CpuNo}
use Rattle.nt_event.specs.declared.numbers.ThreadNo.{ThreadNo}
use Rattle.nt_event.specs.declared.scripts.Script.{Script}
use Rattle.nt_floor.specs.Views.{HasWord, Tells, View}
use Rattle.nt_runs.proofs.Chosen.{chosen_is_its_turn}
use Rattle.nt_runs.proofs.Robin.{asked_was, or_yes}
use Rattle.nt_runs.proofs.Shared.{events_agree}
use Rattle.nt_runs.proofs.Steps.{Gives, look_gives, turn_gives}
use Rattle.nt_runs.proofs.Turns.{run_grows, turn_same}
use Rattle.nt_reader_laws.specs.Steps.{AdvancesAreSteps, IsItsStep, LaneStepsAreSteps, LocalStepsAreSteps}
use Rattle.std.proofs.Common.{ap, arith, inl, inr, refl, subst, sym, zero, ◌∙◌}
use Rattle.std.proofs.lemmas.Bool.{eqb-true, lt-ltb, ltb-false, ltb-true}
use Rattle.std.specs.List.{list_any}
use Rattle.std.specs.Prelude.{Bool, List, None, Ok, Option, Some, [], false, if◌then◌else◌, nat_lt, option_and_then, suc, true, ℕ, ◌&&◌, ◌+◌, ◌<◌, ◌==◌, ◌||◌}
use Rattle.std.specs.Prelude.{◌∷◌, ◌≡◌, ◌⊎◌}

-- ---- looks

-- each value that rises in a good look was asked for
rises_asked : (s : Script) (p : CpuNo) (k : ℕ) (vs : List ℕ) (x : Own) (past : List Event) → good_rises s p k vs x past ≡ true → (j : ℕ) →
    0 < value_at vs j → was_asked s p (k + j) (value_at vs j) past ≡ true
rises_asked s p k [] x past h j l = absurd (omega (arith, l))
rises_asked s p k (v ∷ vs) x past h zero l =
    let parts = both ((v == 0) || (nat_lt (value_at x.seen k) v && was_asked s p k v past)) (good_rises s p (suc k) vs x past) h in
    let e : k + 0 ≡ k = omega arith in
    rw e (go (v == 0) refl parts.0)
  where
    go : (b : Bool) → (v == 0) ≡ b → (b || (nat_lt (value_at x.seen k) v && was_asked s p k v past)) ≡ true → was_asked s p k v past ≡ true
    go true q w = absurd (let z = eqb-true v 0 q in omega (arith, z, l))
    go false q w = (both (nat_lt (value_at x.seen k) v) (was_asked s p k v past) w).1
rises_asked s p k (v ∷ vs) x past h (suc j) l =
    let parts = both ((v == 0) || (nat_lt (value_at x.seen k) v && was_asked s p k v past)) (good_rises s p (suc k) vs x past) h in
    let e : k + suc j ≡ suc k + j = omega arith in
    rw e (rises_asked s p (suc k) vs x past parts.1 j l)

-- ---- a turn that gives the event

module _ (s : Script) (limit : ℕ) (p : CpuNo) (past : List Event) (run : IsRun s limit past) where
  its_step : (e : Event) (t : Turn) → cpu_at t ≡ p → step s limit t past ≡ Ok e → IsItsStep s limit p past e
  its_step e t here h =
      let same : turn_of e ≡ t = turn_same s limit t past e h in
      let legal : step s limit (turn_of e) past ≡ Ok e = ap (λ (u : Turn). step s limit u past) same ∙ h in
      let made : event_at s (cpu_at t) e.what (frames_of s (cpu_at t) past) ≡ e = turn_gives s limit t past e h in
      let cpu : e.cpu ≡ p = ap (λ (f : Event). f.cpu) (sym made) ∙ here in
      record { step = legal; run = run_grows s limit t past e run h; cpu = cpu; looked = λ r w class b l. asked_for r w cpu legal class l }
    where
      asked_for : (r : Rises) → e.what ≡ Look r → e.cpu ≡ p → step s limit (turn_of e) past ≡ Ok e → (class : ℕ) → 0 < value_at r.value class →
          was_asked s p class (value_at r.value class) past ≡ true
      asked_for r w cpu legal class l =
          let turn : turn_of e ≡ LookTurn p r = ap (λ (v : What). turn_at e.cpu v) w ∙ ap (λ (q : CpuNo). LookTurn q r) cpu in
          let given : Gives (step s limit (LookTurn p r) past) e = subst (λ (u : Turn). Gives (step s limit u past) e) turn legal in
          let good = (look_gives s limit p r past e given).0 in
          let rises = (both (list_any (λ v. nat_lt 0 v) r.value) (good_rises s p 0 r.value (own_of s p past) past) good).1 in
          let z : 0 + class ≡ class = omega arith in
          rw z at (rises_asked s p 0 r.value (own_of s p past) past rises class l)

  -- ---- what the processor chooses

  turn_cpu : (x : Own) (l : Lanes) → cpu_at (go_on_turn s p x l) ≡ p
  turn_cpu x l = go (may_switch x) (next_ready s p x.took l)
    where
      go : (b : Bool) (o : Option ThreadNo) → cpu_at (if b then switch_or_next p o else Next p) ≡ p
      go true None = refl
      go true (Some t) = refl
      go false o = refl

  chosen_step : (e : Event) (w : What) → nat_lt p.0 s.cpus ≡ true → is_cut limit (own_of s p past) ≡ false →
      chosen_what s p (own_of s p past) (lanes_at s past) ≡ Some w → e ≡ event_at s p w (frames_of s p past) → IsItsStep s limit p past e
  chosen_step e w below uncut h made =
      its_step e (go_on_turn s p (own_of s p past) (lanes_at s past)) (turn_cpu (own_of s p past) (lanes_at s past))
      (chosen_is_its_turn s limit p past w run below uncut h ∙ ap (λ (f : Event). Ok f) (sym made))

  -- a job that the processor chooses is due
  chosen_due : (job : Job) → chosen_task s p (own_of s p past) ≡ Some (Shared job) → IsDue s p (own_of s p past) job
  chosen_due job h = go (is_still (own_of s p past)) (may_switch (own_of s p past)) refl h
    where
      go : (b m : Bool) → may_switch (own_of s p past) ≡ m →
          (if b then None else (if m then Some (Shared (PickJob (own_of s p past).took)) else task s p (own_of s p past))) ≡ Some (Shared job) →
          IsDue s p (own_of s p past) job
      go true m q k = cc
      go false true q k =
          let same : Shared (PickJob (own_of s p past).took) ≡ Shared job = cc in
          let it : PickJob (own_of s p past).took ≡ job = cc in
          inr (ap is_choice (sym it), q)
      go false false q k = inl k

  lane_core : (job : Job) (l : Lanes) (e : Event) → nat_lt p.0 s.cpus ≡ true → is_cut limit (own_of s p past) ≡ false →
      chosen_task s p (own_of s p past) ≡ Some (Shared job) → lanes_at s past ≡ l → job_event s (stand_at s p past) l job ≡ Some e.what →
      e ≡ acted_event (stand_at s p past) l e.what → IsItsStep s limit p past e
  lane_core job l e below uncut chosen same what made =
      let here : job_event s (stand_at s p past) (lanes_at s past) job ≡ Some e.what = ap (λ (m : Lanes). job_event s (stand_at s p past) m job) same ∙ what in
      let agree : event_at s p e.what (frames_of s p past) ≡ acted_event (stand_at s p past) (lanes_at s past) e.what =
      events_agree s limit p job e.what past run (chosen_due job chosen) here in
      chosen_step e e.what below uncut
      (ap (λ (o : Option Task). option_and_then (task_event s (stand_at s p past) (lanes_at s past)) o) chosen ∙ here)
      (made ∙ (ap (λ (m : Lanes). acted_event (stand_at s p past) m e.what) (sym same) ∙ sym agree))

  -- ---- looks

  value_good : (k : ℕ) (x : Own) (v : ℕ) → (v ≡ 0) ⊎ (v ≡ asked s p k past) →
      (((if nat_lt (value_at x.seen k) v then v else 0) == 0) ||
      (nat_lt (value_at x.seen k) (if nat_lt (value_at x.seen k) v then v else 0) && was_asked s p k (if nat_lt (value_at x.seen k) v then v else 0) past))
      ≡ true
  value_good k x v h = go (nat_lt (value_at x.seen k) v) refl
    where
      was : (v ≡ 0) ⊎ (v ≡ asked s p k past) → nat_lt (value_at x.seen k) v ≡ true → was_asked s p k v past ≡ true
      was (inl z) q = absurd (let l = ltb-true (value_at x.seen k) v q in omega (arith, z, l))
      was (inr z) q = found (asked_was s p k past)
        where
          found : (asked s p k past ≡ 0) ⊎ (was_asked s p k (asked s p k past) past ≡ true) → was_asked s p k v past ≡ true
          found (inl a) = absurd (let l = ltb-true (value_at x.seen k) v q in omega (arith, z, a, l))
          found (inr a) = subst (λ (n : ℕ). was_asked s p k n past ≡ true) (sym z) a

      go : (b : Bool) → nat_lt (value_at x.seen k) v ≡ b → (((if b then v else 0) == 0) ||
          (nat_lt (value_at x.seen k) (if b then v else 0) && was_asked s p k (if b then v else 0) past)) ≡ true
      go false q = refl
      go true q =
          or_yes (v == 0) (nat_lt (value_at x.seen k) v && was_asked s p k v past)
          (ap (λ (b : Bool). b && was_asked s p k v past) q ∙ was h q)

  looks_good : (x : Own) (f : ℕ → ℕ) → ((k : ℕ) → (f k ≡ 0) ⊎ (f k ≡ asked s p k past)) → (n k : ℕ) →
      good_rises s p k (table_from k n (look_value x f)) x past ≡ true
  unfolding table_from
  looks_good x f h zero k = refl
  looks_good x f h (suc n) k =
      let v = value_good k x (f k) (h k) in
      let more = looks_good x f h n (suc k) in
      ap (λ (b : Bool). b && good_rises s p (suc k) (table_from (suc k) n (look_value x f)) x past) v ∙ more

  look_step_is : (e : Event) (f : ℕ → ℕ) → nat_lt p.0 s.cpus ≡ true → is_cut limit (own_of s p past) ≡ false → is_behind (own_of s p past) f ≡ true →
      ((k : ℕ) → (f k ≡ 0) ⊎ (f k ≡ asked s p k past)) →
      e ≡ event_at s p (Look (record { value = look_values (own_of s p past) f })) (frames_of s p past) → IsItsStep s limit p past e
  look_step_is e f below uncut behind h made =
      let good : is_good_look s p (look_values (own_of s p past) f) (own_of s p past) past ≡ true =
      ap (λ (b : Bool). b && good_rises s p 0 (look_values (own_of s p past) f) (own_of s p past) past) behind ∙ looks_good (own_of s p past) f h 16 0 in
      let r : Rises = record { value = look_values (own_of s p past) f } in
      its_step e (LookTurn p (record { value = look_values (own_of s p past) f })) refl
      (rw (below, uncut, good) refl ∙ ap (λ (z : Event). Ok z) (sym made))

  -- ---- a step without a lane

  local_core : (answers : List ℕ) (e : Event) → nat_lt p.0 s.cpus ≡ true → (is_cut limit (own_of s p past) ≡ false →
      (k : ℕ) → (value_at answers k ≡ 0) ⊎ (value_at answers k ≡ asked s p k past)) →
      LocalDid e ≡ local_gives (state_of s p limit past) answers → IsItsStep s limit p past e
  local_core answers e below exact h = go (is_cut limit (own_of s p past)) refl h
    where
      choose : (o : Option Task) → chosen_task s p (own_of s p past) ≡ o → is_cut limit (own_of s p past) ≡ false →
          LocalDid e ≡ local_answer (state_of s p limit past) o → IsItsStep s limit p past e
      choose None q u k = cc
      choose (Some (Alone w)) q u k =
          let made : e ≡ event_at s p w (frames_of s p past) = cc in
          chosen_step e w below u (ap (λ (o : Option Task). option_and_then (task_event s (stand_at s p past) (lanes_at s past)) o) q) made
      choose (Some (Shared job)) q u k = cc

      task_of : (b : Bool) → is_behind (own_of s p past) (value_at answers) ≡ b → is_cut limit (own_of s p past) ≡ false →
          LocalDid e ≡ local_answer (state_of s p limit past)
          (if b then Some (Alone (Look (record { value = look_values (own_of s p past) (value_at answers) }))) else chosen_task s p (own_of s p past)) →
          IsItsStep s limit p past e
      task_of true q u k =
          let made : e ≡ event_at s p (Look (record { value = look_values (own_of s p past) (value_at answers) })) (frames_of s p past) = cc in
          look_step_is e (value_at answers) below u q (exact u) made
      task_of false q u k = choose (chosen_task s p (own_of s p past)) refl u k

      go : (b : Bool) → is_cut limit (own_of s p past) ≡ b →
          LocalDid e ≡ (if b then LocalCut else local_answer (state_of s p limit past) (local_task (state_of s p limit past) answers)) →
          IsItsStep s limit p past e
      go true q k = cc
      go false q k = task_of (is_behind (own_of s p past) (value_at answers)) refl q k

-- ---- the answers of the looks

-- an answered look for a class is zero, or what is asked of that class so far
exact_answers : (s : Script) (limit : ℕ) (p : CpuNo) (past : List Event) (answers : List ℕ) (v u : View) → p.0 < s.cpus → Follows s past v →
    AllLooked p answers v u → (k : ℕ) → (value_at answers k ≡ 0) ⊎ (value_at answers k ≡ asked s p k past)
exact_answers s limit p past answers v u below f h k = go (nat_lt k 15) refl (is_used_class k) refl
  where
    go : (b : Bool) → nat_lt k 15 ≡ b → (d : Bool) → is_used_class k ≡ d → (value_at answers k ≡ 0) ⊎ (value_at answers k ≡ asked s p k past)
    go b q false w = inl (h.others k w)
    go false q true w = inl (h.later k (ltb-false k 15 q))
    go true q true w =
        let l = ltb-true k 15 q in
        let c = f.cpus in
        let word : HasWord v p k = (omega (arith, below, c), omega (arith, l)) in
        inr (h.exact f.alone k l w ∙ f.value p k word)

-- lanes that are told where they are known are those of the history
found_lanes : (s : Script) (past : List Event) (o : Option Lanes) (l : Lanes) → o ≡ Some (lanes_at s past) → Tells o l → lanes_at s past ≡ l
found_lanes s past o l h t = subst (λ (o : Option Lanes). Tells o l) h t

-- the event that a local step makes is the step of the processor's turn
pub local_steps : LocalStepsAreSteps
local_steps s limit p past c d answers e v u w h k =
    let z : IsStepped (state_of s p limit past) d answers (LocalDid e) v u w = subst (λ (c : CpuState). IsStepped c d answers (LocalDid e) v u w) h.state k in
    local_core s limit p past h.run answers e (lt-ltb p.0 s.cpus h.cpu)
    (λ q. exact_answers s limit p past answers v u h.cpu h.follows (z.looked.looks q)) z.answer

-- the event that a step on a lane makes of a chosen job is the step of the processor's turn
pub lane_steps : LaneStepsAreSteps
lane_steps s limit p past c d job f n e v w h uncut chosen k =
    let z : IsShared (state_of s p limit past) d job f n e v w = subst (λ (c : CpuState). IsShared c d job f n e v w) h.state k in
    let q : is_cut limit (own_of s p past) ≡ false = subst (λ (c : CpuState). is_cut c.limit c.own ≡ false) h.state uncut in
    let t : chosen_task s p (own_of s p past) ≡ Some (Shared job) =
    subst (λ (c : CpuState). chosen_task c.script c.cpu c.own ≡ Some (Shared job)) h.state chosen in
    lane_core s limit p past h.run job f.lanes e (lt-ltb p.0 s.cpus h.cpu) q t (found_lanes s past v.states f.lanes h.follows.states z.floor.before)
    z.what z.event

-- a step that needs a lane chose the job, and isn't cut
needs_lane_of : (s : Script) (limit : ℕ) (p : CpuNo) (past : List Event) (answers : List ℕ) (job : Job) →
    local_gives (state_of s p limit past) answers ≡ NeedsLane job →
    (is_cut limit (own_of s p past) ≡ false) × (chosen_task s p (own_of s p past) ≡ Some (Shared job))
needs_lane_of s limit p past answers job h = go (is_cut limit (own_of s p past)) refl h
  where
    choose : (o : Option Task) → local_answer (state_of s p limit past) o ≡ NeedsLane job → o ≡ Some (Shared job)
    choose None k = cc
    choose (Some (Alone w)) k = cc
    choose (Some (Shared j)) k = let same : j ≡ job = cc in ap (λ (x : Job). Some (Shared x)) same

    task_of : (b : Bool) → local_answer (state_of s p limit past)
        (if b then Some (Alone (Look (record { value = look_values (own_of s p past) (value_at answers) }))) else chosen_task s p (own_of s p past))
        ≡ NeedsLane job →
        chosen_task s p (own_of s p past) ≡ Some (Shared job)
    task_of true k = cc
    task_of false k = choose (chosen_task s p (own_of s p past)) k

    go : (b : Bool) → is_cut limit (own_of s p past) ≡ b →
        (if b then LocalCut else local_answer (state_of s p limit past) (local_task (state_of s p limit past) answers)) ≡ NeedsLane job →
        (is_cut limit (own_of s p past) ≡ false) × (chosen_task s p (own_of s p past) ≡ Some (Shared job))
    go true q k = cc
    go false q k = (q, task_of (is_behind (own_of s p past) (value_at answers)) k)

-- the event that an advance makes is the step of the processor's turn
pub advances : AdvancesAreSteps
advances s limit p past c d answers e v u w h looks_made k =
    go (subst (λ (c : CpuState). Advanced c d answers (λ n e st f. Unit {0}) (Did e) u w) h.state k)
  where
    looks : AreLooked (state_of s p limit past) answers v u
    looks = subst (λ (c : CpuState). AreLooked c answers v u) h.state looks_made

    go : Advanced (state_of s p limit past) d answers (λ n e st f. Unit {0}) (Did e) u w → IsItsStep s limit p past e
    go (inl m) =
        local_core s limit p past h.run answers e (lt-ltb p.0 s.cpus h.cpu)
        (λ q. exact_answers s limit p past answers v u h.cpu h.follows (looks.looks q)) (sym m.0)
    go (inr m) =
        let z = needs_lane_of s limit p past answers m.0 m.1 in
        let states : u.states ≡ Some (lanes_at s past) = (looks.looks z.0).same.states ∙ h.follows.states in
        lane_core s limit p past h.run m.0 m.2.0.lanes e (lt-ltb p.0 s.cpus h.cpu) z.0 z.1
        (found_lanes s past u.states m.2.0.lanes states m.2.2.0.floor.before) m.2.2.0.what m.2.2.0.event
