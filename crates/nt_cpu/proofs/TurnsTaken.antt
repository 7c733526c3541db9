-- What a turn gives.
use Rattle.std.proofs.Common.{ap, arith, inl, inr, subst, sym, ◌∙◌}
use Rattle.std.specs.Prelude.{Bool, Err, None, Ok, Option, Some, false, if◌then◌else◌, nat_lt, not, option_and_then, option_map, refl, suc, true, zero, ℕ, ◌&&◌}
use Rattle.std.specs.Prelude.{◌<◌, ◌==◌, ◌||◌, ◌≡◌, ◌≤◌}
use Rattle.nt_event.specs.declared.events.Event.{Event}
use Rattle.nt_event.specs.declared.events.Turn.{Turn}
use Rattle.nt_event.specs.declared.events.Turn.TheVariants.{Look as LookTurn, Next, Switch as SwitchTurn}
use Rattle.nt_event.specs.declared.events.What.{What}
use Rattle.nt_event.specs.declared.events.What.TheVariants.{Look}
use Rattle.nt_event.specs.declared.jobs.Job.{Job}
use Rattle.nt_event.specs.declared.jobs.Job.TheVariants.{Switch as SwitchJob}
use Rattle.nt_event.specs.declared.jobs.Task.{Task}
use Rattle.nt_event.specs.declared.jobs.Task.TheVariants.{Alone, Shared}
use Rattle.nt_event.specs.Acting.{IsDue, acted_event, is_choice}
use Rattle.nt_event.specs.Jobs.{job_event, may_switch}
use Rattle.nt_event.specs.Lanes.{Lanes}
use Rattle.nt_event.specs.Own.{Own, stand_in}
use Rattle.nt_event.specs.Script.{has_thread}
use Rattle.nt_event.specs.Step.{event_at, is_cut}
use Rattle.nt_event.specs.Lists.{table_from, value_at}
use Rattle.nt_event.specs.Robin.{is_behind, look_value, look_values}
use Rattle.nt_event.proofs.Tables.{table-same}
use Rattle.nt_event.proofs.Options.{Holds, both, holds_at, holds_when, when_gives}
use Rattle.nt_floor.specs.Views.{View}
use Rattle.nt_cpu.specs.Alone.{IsAlone, MayBe, alone_event}
use Rattle.nt_cpu.specs.GoodTasks.{GoodTask}
use Rattle.nt_cpu.specs.Sound.{IsSound}
use Rattle.nt_cpu.specs.States.{CpuState}
use Rattle.nt_cpu.specs.Turns.{IsTurnRefused, IsTurned, Serves, acts, event_or_refusal, is_shared, rise_above, rises, task_makes, turn_gives, turn_refusal}
use Rattle.nt_cpu.specs.Turns.{turn_task}
use Rattle.nt_cpu.specs.declared.turn.TurnRefusal.{TurnRefusal}
use Rattle.nt_cpu.specs.declared.turn.TurnRefusal.TheVariants.{NothingToDo}
use Rattle.nt_cpu.proofs.Alones.{event_alone}
use Rattle.nt_cpu.proofs.AloneMoves.{alone_left, alone_moved, found_by, tells_before}
use Rattle.nt_cpu.proofs.DueTasks.{task_good}

-- what holds of the task of a turn
pub turn_good : (c : CpuState) (t : Turn) → IsSound c → Holds (GoodTask c) (turn_task c.script c.cpu c.own t)
turn_good c (Next q) h = task_good c h
turn_good c (LookTurn q r) h =
    holds_when (GoodTask c) (rises r.value c.own.seen) (Some (Alone (Look r))) (λ _. record { alone = refl; allow = tt; asks = tt })
turn_good c (SwitchTurn q t) h =
    holds_when (GoodTask c) (may_switch c.own && has_thread c.script t) (Some (Shared (SwitchJob t))) (λ a. both (may_switch c.own) (has_thread c.script t) a)

-- its job is due
pub turn_due : (c : CpuState) (t : Turn) (job : Job) → turn_task c.script c.cpu c.own t ≡ Some (Shared job) → IsDue c.script c.cpu c.own job
turn_due c (Next q) job e = inl e
turn_due c (LookTurn q r) job e =
    let a : Some (Alone (Look r)) ≡ Some (Shared job) = (when_gives (rises r.value c.own.seen) (Some (Alone (Look r))) (Shared job) e).1 in
    absurd cc
turn_due c (SwitchTurn q t) job e =
    let a = when_gives (may_switch c.own && has_thread c.script t) (Some (Shared (SwitchJob t))) (Shared job) e in
    let b : Some (Shared (SwitchJob t)) ≡ Some (Shared job) = a.1 in
    let i : SwitchJob t ≡ job = cc in
    inr (subst (λ (j : Job). is_choice j ≡ true) i refl, (both (may_switch c.own) (has_thread c.script t) a.0).0)

-- ---- what is given

-- a turn of a processor that is not cut off gives the event of its task, or the turn's refusal
gives_task : (c : CpuState) (l : Lanes) (t : Turn) → is_cut c.limit c.own ≡ false → turn_gives c l t
    ≡ event_or_refusal (turn_refusal t) (option_and_then (task_makes c.script c.cpu c.own l) (turn_task c.script c.cpu c.own t))
gives_task c l t h = rw h refl

-- a turn without a task gives its refusal, if the processor is not cut
pub gives_none : (c : CpuState) (l : Lanes) (t : Turn) → is_cut c.limit c.own ≡ false → turn_task c.script c.cpu c.own t ≡ None → turn_gives c l t
    ≡ Err (turn_refusal t)
gives_none c l t h e = gives_task c l t h ∙ rw e refl

-- a turn whose task touches no lane gives the event of that task, if the processor is not cut
pub gives_alone : (c : CpuState) (l : Lanes) (t : Turn) (w : What) → is_cut c.limit c.own ≡ false → turn_task c.script c.cpu c.own t ≡ Some (Alone w) →
    turn_gives c l t ≡ Ok (event_at c.script c.cpu w c.own.frames)
gives_alone c l t w h e = gives_task c l t h ∙ rw e refl

-- a turn whose task is a job gives the job's event, or its refusal where the job has none
pub gives_shared : (c : CpuState) (l : Lanes) (t : Turn) (job : Job) → is_cut c.limit c.own ≡ false → turn_task c.script c.cpu c.own t ≡ Some (Shared job) →
    turn_gives c l t ≡ event_or_refusal (turn_refusal t) (option_map (acted_event (stand_in c.cpu c.own) l) (job_event c.script (stand_in c.cpu c.own) l job))
gives_shared c l t job h e = gives_task c l t h ∙ rw e refl

-- ---- a look at what was asked for

-- a value that is looked at only where it was asked above what was seen rises or is nothing
value_rises : (c : ℕ) (x : Own) (asked : ℕ → ℕ) (b : Bool) → nat_lt (value_at x.seen c) (asked c) ≡ b →
    (((if b then asked c else 0) == 0) || nat_lt (value_at x.seen c) (if b then asked c else 0)) ≡ true
value_rises c x asked false k = refl
value_rises c x asked true k = rw k (or_yes (asked c == 0))
  where
    or_yes : (a : Bool) → (a || true) ≡ true
    or_yes true = refl
    or_yes false = refl

-- the values of a look that is made from what was asked rise above what was seen
values_rise : (x : Own) (asked : ℕ → ℕ) (n c : ℕ) → rise_above c (table_from c n (look_value x asked)) x.seen ≡ true
unfolding table_from
values_rise x asked zero c = refl
values_rise x asked (suc n) c = rw (value_rises c x asked (nat_lt (value_at x.seen c) (asked c)) refl) (values_rise x asked n (suc c))

-- where the processor is behind, the values of its look rise
pub looks_rise : (x : Own) (asked : ℕ → ℕ) → is_behind x asked ≡ true → rises (look_values x asked) x.seen ≡ true
looks_rise x asked h = rw (h, values_rise x asked 16 0) refl

-- what a look finds, by the same values
pub look_same : (x : Own) (f g : ℕ → ℕ) → ((k : ℕ) → k < 16 → f k ≡ g k) → look_values x f ≡ look_values x g
look_same x f g h =
    table-same 16 (look_value x f) (look_value x g) (λ k b. ap (λ (n : ℕ). if nat_lt (value_at x.seen k) n then n else 0) (h k b))

-- the task of such a look
pub look_task : (c : CpuState) (v : View) → is_behind c.own (v.value c.cpu) ≡ true → turn_task c.script c.cpu c.own
    (LookTurn c.cpu (record { value = look_values c.own (v.value c.cpu) })) ≡ Some (Alone (Look (record { value = look_values c.own (v.value c.cpu) })))
look_task c v h = rw (looks_rise c.own (v.value c.cpu) h) refl

-- ---- the answers

-- each turn of a processor that is cut is refused with nothing to do
pub cut_refused : (c : CpuState) (t : Turn) (v : View) → is_cut c.limit c.own ≡ true → IsTurnRefused c t (found_by c v) NothingToDo v
cut_refused c t v h = record { cause = inr (rw h refl); told = tells_before c.script v.states }

-- no turn of a processor that is cut is tried under lanes
pub cut_acts : (c : CpuState) (t : Turn) → is_cut c.limit c.own ≡ true → acts c t ≡ true → ⊥
cut_acts c t h k = let a = rw h at k in cc

-- a turn without a task is refused so on the floor, if the processor is not cut
pub none_refused : (c : CpuState) (t : Turn) (r : TurnRefusal) (v : View) → is_cut c.limit c.own ≡ false → turn_task c.script c.cpu c.own t ≡ None → r
    ≡ turn_refusal t → IsTurnRefused c t (found_by c v) r v
none_refused c t r v h e k = record {
  cause = inr (gives_none c (found_by c v).lanes t h e ∙ ap (λ (x : TurnRefusal). Err x) (sym k));
  told = tells_before c.script v.states;
}

-- a turn whose task is no job is not tried under lanes
pub alone_acts : (c : CpuState) (t : Turn) (o : Option Task) → turn_task c.script c.cpu c.own t ≡ o → is_shared o ≡ false → acts c t ≡ true → ⊥
alone_acts c t o e n k =
    let a = both (not (is_cut c.limit c.own)) (is_shared (turn_task c.script c.cpu c.own t)) k in
    let b : is_shared o ≡ true = rw e at a.1 in
    cc

-- an event that touches no lane, made by a sound processor for its turn, is what the turn gives
pub alone_turned : (c d : CpuState) (t : Turn) (w : What) (e : Event) (n : ℕ) (v u z : View) → IsSound c → Serves c v → is_cut c.limit c.own ≡ false →
    turn_task c.script c.cpu c.own t ≡ Some (Alone w) → e ≡ alone_event c.cpu w c.own.frames → IsAlone c d w n v u z → IsTurned c d t (found_by c v) n e v z
alone_turned c d t w e n v u z s h k q i a =
    let m : MayBe c w = holds_at (GoodTask c) (turn_task c.script c.cpu c.own t) (Alone w) (turn_good c t s) q in
    let below : (k : ℕ) → k < 16 → value_at c.own.seen k ≤ n = λ k b. let x = h.below k b in let y = a.drawn.least in omega arith in
    let x : IsTurned c d t (found_by c v) n (alone_event c.cpu w c.own.frames) v z = record {
      event = gives_alone c (found_by c v).lanes t w k q
          ∙ ap (λ (x : Event). Ok x) (event_alone c.script c.cpu w c.own.frames s.nested s.threads m.alone m.allow);
      state = a.state
          ∙ ap (λ (x : Own). record c { own = x }) (alone_left c w n v s m below);
      floor = alone_moved c d w n v u z h m a;
    } in
    subst (λ (x : Event). IsTurned c d t (found_by c v) n x v z) (sym i) x
