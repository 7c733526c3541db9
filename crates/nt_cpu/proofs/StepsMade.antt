-- What a step does that a processor chooses.
use Rattle.std.proofs.Common.{ap, arith, subst, sym, ◌∙◌}
use Rattle.std.specs.Prelude.{Bool, List, None, Option, Some, false, if◌then◌else◌, refl, true, ℕ, ◌<◌, ◌≡◌, ◌≤◌}
use Rattle.nt_event.specs.declared.events.Event.{Event}
use Rattle.nt_event.specs.declared.events.Rises.{Rises}
use Rattle.nt_event.specs.declared.events.What.{What}
use Rattle.nt_event.specs.declared.events.What.TheVariants.{Look}
use Rattle.nt_event.specs.declared.jobs.Job.{Job}
use Rattle.nt_event.specs.declared.jobs.Job.TheVariants.{Pick as PickJob}
use Rattle.nt_event.specs.declared.jobs.Task.{Task}
use Rattle.nt_event.specs.declared.jobs.Task.TheVariants.{Alone, Shared}
use Rattle.nt_event.specs.Jobs.{chosen_task, is_still, may_switch, task}
use Rattle.nt_event.specs.Own.{Own, stand_in}
use Rattle.nt_event.specs.Robin.{is_behind, look_values}
use Rattle.nt_event.specs.Step.{is_cut}
use Rattle.nt_event.specs.Lists.{value_at}
use Rattle.nt_event.proofs.Options.{Holds, holds_at}
use Rattle.nt_runs.proofs.Turns.{NextTask, task_next}
use Rattle.nt_floor.specs.Views.{View}
use Rattle.nt_cpu.specs.Alone.{IsAlone, MayBe, alone_event}
use Rattle.nt_cpu.specs.GoodTasks.{GoodTask}
use Rattle.nt_cpu.specs.Sound.{IsSound}
use Rattle.nt_cpu.specs.States.{CpuState}
use Rattle.nt_cpu.specs.Steps.{AllLooked, IsApart, IsStepped, local_answer, local_gives, local_task}
use Rattle.nt_cpu.specs.Turns.{Serves}
use Rattle.nt_cpu.specs.declared.steps.Local.TheVariants.{Cut, Did, NeedsLane, Quiet}
use Rattle.nt_cpu.proofs.AloneMoves.{alone_left, alone_moved, found_by, told_have}
use Rattle.nt_cpu.proofs.Alones.{event_alone, lanes_alone}
use Rattle.nt_cpu.proofs.Knowing.{rises_known}
use Rattle.nt_cpu.proofs.NeverIdle.{chosen_good, none_still}

-- what holds of what it has to do
pub step_good : (c : CpuState) (xs : List ℕ) → IsSound c → Holds (GoodTask c) (local_task c xs)
step_good c xs h = go (is_behind c.own (value_at xs))
  where
    go : (b : Bool) → Holds (GoodTask c) (if b then Some (Alone (Look (record { value = look_values c.own (value_at xs) })))
        else chosen_task c.script c.cpu c.own)
    go true = record { alone = refl; allow = tt; asks = tt }
    go false = chosen_good c h

-- it chooses no look
chosen_look : (c : CpuState) (r : Rises) → chosen_task c.script c.cpu c.own ≡ Some (Alone (Look r)) → ⊥
chosen_look c r e = resting (is_still c.own) e
  where
    choosing : (b : Bool) → (if b then Some (Shared (PickJob c.own.took)) else task c.script c.cpu c.own) ≡ Some (Alone (Look r)) → ⊥
    choosing true q = cc
    choosing false q =
        let n : NextTask (Alone (Look r)) = holds_at NextTask (task c.script c.cpu c.own) (Alone (Look r)) (task_next c.script c.cpu c.own) q in
        cc

    resting : (b : Bool) → (if b then None else (if may_switch c.own then Some (Shared (PickJob c.own.took)) else task c.script c.cpu c.own))
        ≡ Some (Alone (Look r)) → ⊥
    resting true q = cc
    resting false q = choosing (may_switch c.own) q

-- a look that it makes has the values that were looked
look_made : (c : CpuState) (xs : List ℕ) (r : Rises) → local_task c xs ≡ Some (Alone (Look r)) → r.value ≡ look_values c.own (value_at xs)
look_made c xs r e = go (is_behind c.own (value_at xs)) e
  where
    go : (b : Bool) → (if b then Some (Alone (Look (record { value = look_values c.own (value_at xs) }))) else chosen_task c.script c.cpu c.own)
        ≡ Some (Alone (Look r)) → r.value ≡ look_values c.own (value_at xs)
    go true q = cc
    go false q = absurd (chosen_look c r q)

-- so they are known
pub look_known : (c : CpuState) (xs : List ℕ) (v u : View) (w : What) → c.cpu.0 < v.cpus → AllLooked c.cpu xs v u → local_task c xs ≡ Some (Alone w) →
    (r : Rises) → w ≡ Look r → (k : ℕ) → k < 16 → (value_at r.value k ≤ u.value c.cpu k) × (value_at r.value k ≤ u.next)
look_known c xs v u w b l e r f k q =
    let x = look_made c xs r (e ∙ ap (λ (z : What). Some (Alone z)) f) in
    subst (λ (ys : List ℕ). (value_at ys k ≤ u.value c.cpu k) × (value_at ys k ≤ u.next)) (sym x) (rises_known c xs v u b l k q)

-- its event is the one that the definitions name
pub step_alone : (c d : CpuState) (xs : List ℕ) (w : What) (e : Event) (n : ℕ) (v u y z : View) → IsSound c → Serves c u → is_cut c.limit c.own ≡ false →
    local_task c xs ≡ Some (Alone w) → AllLooked c.cpu xs v u → e ≡ alone_event c.cpu w c.own.frames → IsAlone c d w n u y z → IsStepped c d xs (Did e) v u z
step_alone c d xs w e n v u y z h o t q l f a = record {
  looked = record { cut = λ k. absurd (let x = rw t at k in cc); looks = λ k. l };
  answer = ap Did (f ∙ sym (event_alone c.script c.cpu w c.own.frames h.nested h.threads may.alone may.allow))
      ∙ (ap (local_answer c) (sym q) ∙ ap (λ (b : Bool). if b then Cut else local_answer c (local_task c xs)) (sym t));
  quiet = λ k. absurd cc;
  left = (found_by c u, n, subst (λ (x : Event). IsApart c d (found_by c u) n x u z) (sym f) apart);
}
  where
    may : MayBe c w
    may = holds_at (GoodTask c) (local_task c xs) (Alone w) (step_good c xs h) q

    below : (k : ℕ) → k < 16 → value_at c.own.seen k ≤ n
    below k b = let x = o.below k b in let y = a.drawn.least in omega arith

    apart : IsApart c d (found_by c u) n (alone_event c.cpu w c.own.frames) u z
    apart = record {
      lanes = lanes_alone c.script (stand_in c.cpu c.own) w (found_by c u).lanes may.alone;
      states = told_have c u.states o.stands;
      state = a.state ∙ ap (λ (x : Own). record c { own = x }) (alone_left c w n u h may below);
      floor = alone_moved c d w n u y z o may a;
    }

-- the job that a step needs is the one it chooses
pub needed_job : (c : CpuState) (xs : List ℕ) (job : Job) → NeedsLane job ≡ local_gives c xs → (is_cut c.limit c.own ≡ false) ×
    (chosen_task c.script c.cpu c.own ≡ Some (Shared job))
needed_job c xs job e = cut (is_cut c.limit c.own) refl e
  where
    answers : (o : Option Task) → NeedsLane job ≡ local_answer c o → o ≡ Some (Shared job)
    answers None q = cc
    answers (Some (Alone w)) q = cc
    answers (Some (Shared j)) q = cc

    behind : (b : Bool) → (if b then Some (Alone (Look (record { value = look_values c.own (value_at xs) }))) else chosen_task c.script c.cpu c.own)
        ≡ Some (Shared job) → chosen_task c.script c.cpu c.own ≡ Some (Shared job)
    behind true q = cc
    behind false q = q

    cut : (b : Bool) → is_cut c.limit c.own ≡ b → NeedsLane job ≡ (if b then Cut else local_answer c (local_task c xs)) → (is_cut c.limit c.own ≡ false) ×
        (chosen_task c.script c.cpu c.own ≡ Some (Shared job))
    cut true t q = cc
    cut false t q =
        (t, behind (is_behind c.own (value_at xs)) (answers (local_task c xs) q))

-- it is quiet where nothing rose and it rests or spins still
quiet_still : (c : CpuState) (xs : List ℕ) → IsSound c → local_task c xs ≡ None → is_still c.own ≡ true
quiet_still c xs h e = go (is_behind c.own (value_at xs)) e
  where
    go : (b : Bool) → (if b then Some (Alone (Look (record { value = look_values c.own (value_at xs) }))) else chosen_task c.script c.cpu c.own) ≡ None →
        is_still c.own ≡ true
    go true q = cc
    go false q = none_still c h q

-- a processor that is not cut and has nothing to do after its looks makes a quiet step
pub step_none : (c : CpuState) (xs : List ℕ) (v u : View) → IsSound c → is_cut c.limit c.own ≡ false → local_task c xs ≡ None → AllLooked c.cpu xs v u →
    IsStepped c c xs Quiet v u u
step_none c xs v u h t q l = record {
  looked = record { cut = λ k. absurd (let x = rw t at k in cc); looks = λ k. l };
  answer = ap (local_answer c) (sym q) ∙ ap (λ (b : Bool). if b then Cut else local_answer c (local_task c xs)) (sym t);
  quiet = λ k. quiet_still c xs h q;
  left = (refl, refl);
}
