-- A turn of a processor is the step of the history, and everything follows the longer history.
use Rattle.std.proofs.Common.{ap, arith, inl, inr, sym, ◌∙◌}
use Rattle.std.proofs.lemmas.Bool.Decides.{nat_tests}
use Rattle.std.proofs.lemmas.List.{get_or-set_other, get_or-set_same, length-set}
use Rattle.std.specs.Prelude.{Bool, Err, List, Ok, Some, false, get_or, length, nat_lt, not, refl, set, true, ℕ, ◌<◌, ◌==◌, ◌∷◌, ◌≡◌, ◌≢◌, ◌≤◌, ◌⊎◌}
use Rattle.nt_event.specs.declared.events.Event.{Event}
use Rattle.nt_event.specs.declared.events.ScheduleKind.TheVariants.{BadLook as BadLookKind, NoSuchCpu, NothingToDo as NothingToDoKind}
use Rattle.nt_event.specs.declared.events.Turn.{Turn}
use Rattle.nt_event.specs.declared.events.Turn.TheVariants.{Look as LookTurn, Next, Switch as SwitchTurn}
use Rattle.nt_event.specs.declared.events.What.TheVariants.{Look}
use Rattle.nt_event.specs.declared.numbers.CpuNo.{CpuNo}
use Rattle.nt_event.specs.declared.scripts.Script.{Script}
use Rattle.nt_event.specs.Lanes.{Lanes, lanes_at}
use Rattle.nt_event.specs.Own.{own_of}
use Rattle.nt_event.specs.Step.{IsRun, cpu_at, event_or, is_cut, refused_if, step, uncut_step}
use Rattle.nt_event.specs.Numbers.{cpu}
use Rattle.nt_event.specs.Lists.{when}
use Rattle.nt_event.proofs.Tables.{get_or-table, length-table_from, table-self}
use Rattle.nt_event.specs.Acts.{Found}
use Rattle.nt_floor.specs.Views.{View}
use Rattle.nt_cpu.specs.Runs.{Follows, is_asked, state_of}
use Rattle.nt_cpu.specs.States.{CpuState}
use Rattle.nt_cpu.specs.Turns.{IsTurnRefused, IsTurned, kind_of_refusal, turn_gives}
use Rattle.nt_cpu.specs.declared.turn.TurnRefusal.{TurnRefusal}
use Rattle.nt_cpu.specs.declared.turn.TurnRefusal.TheVariants.{NoMemory}
use Rattle.nt_cpu.proofs.CoreMoves.{own_stays_on}
use Rattle.nt_cpu.proofs.CoreSteps.{as_step, turn_is_step, unasked_bad}
use Rattle.nt_cpus.specs.Following.{cpus_of}

-- ---- refusals before the processor is asked

-- a turn of a processor that the script does not have is refused, as there is no such processor
pub absent_step : (s : Script) (limit : ℕ) (t : Turn) (past : List Event) → s.cpus ≤ (cpu_at t).0 → step s limit t past ≡ Err NoSuchCpu
absent_step s limit t past h =
    let b : nat_lt (cpu_at t).0 s.cpus ≡ false = grind (arith, nat_tests) in
    ap (λ (b : Bool). refused_if (not b) NoSuchCpu (refused_if (is_cut limit (own_of s (cpu_at t) past)) NothingToDoKind
    (uncut_step s t (own_of s (cpu_at t) past) (lanes_at s past) past))) b

-- the step of a turn of a processor of the script is the uncut step, or a refusal if it is cut off
here_step : (s : Script) (limit : ℕ) (t : Turn) (past : List Event) → (cpu_at t).0 < s.cpus → step s limit t past
    ≡ refused_if (is_cut limit (own_of s (cpu_at t) past)) NothingToDoKind (uncut_step s t (own_of s (cpu_at t) past) (lanes_at s past) past)
here_step s limit t past h =
    let b : nat_lt (cpu_at t).0 s.cpus ≡ true = grind (arith, nat_tests) in
    ap (λ (b : Bool). refused_if (not b) NoSuchCpu (refused_if (is_cut limit (own_of s (cpu_at t) past)) NothingToDoKind
    (uncut_step s t (own_of s (cpu_at t) past) (lanes_at s past) past))) b

-- a turn of a processor that has used up its limit of events is refused with nothing to do
pub cut_step : (s : Script) (limit : ℕ) (t : Turn) (past : List Event) → (cpu_at t).0 < s.cpus → is_cut limit (own_of s (cpu_at t) past) ≡ true →
    step s limit t past ≡ Err NothingToDoKind
cut_step s limit t past h c =
    here_step s limit t past h
    ∙ ap (λ (b : Bool). refused_if b NothingToDoKind (uncut_step s t (own_of s (cpu_at t) past) (lanes_at s past) past)) c

-- a look at values that were not asked for is refused as a bad look
unasked_look : (s : Script) (t : Turn) (past : List Event) → is_asked s t past ≡ false → uncut_step s t (own_of s (cpu_at t) past) (lanes_at s past) past
    ≡ Err BadLookKind
unasked_look s (Next p) past h = absurd cc
unasked_look s (SwitchTurn p t) past h = absurd cc
unasked_look s (LookTurn p r) past h =
    ap (λ (b : Bool). event_or s p (own_of s p past) BadLookKind (when b (Some (Look r)))) (unasked_bad s p r (own_of s p past) past h)

-- a look whose values the rules do not ask for is refused as a bad look, if the processor is not cut
pub unasked_step : (s : Script) (limit : ℕ) (t : Turn) (past : List Event) → (cpu_at t).0 < s.cpus → is_cut limit (own_of s (cpu_at t) past) ≡ false →
    is_asked s t past ≡ false → step s limit t past ≡ Err BadLookKind
unasked_step s limit t past h c a =
    here_step s limit t past h
    ∙ (ap (λ (b : Bool). refused_if b NothingToDoKind (uncut_step s t (own_of s (cpu_at t) past) (lanes_at s past) past)) c ∙ unasked_look s t past a)

-- ---- what the processor gives

-- where a processor makes the event of a turn on a floor that follows the run, the step gives that event
pub turned_step : (s : Script) (limit : ℕ) (t : Turn) (past : List Event) (f : Found) (n : ℕ) (e : Event) (d : CpuState) (v w : View) → IsRun s limit past →
    (cpu_at t).0 < s.cpus → is_asked s t past ≡ true → Follows s past v → IsTurned (state_of s (cpu_at t) limit past) d t f n e v w → step s limit t past ≡ Ok e
turned_step s limit t past f n e d v w r b a h i =
    let lanes : f.lanes ≡ lanes_at s past = sym (rw h.states at i.floor.before) in
    sym (turn_is_step s limit t past r b a)
    ∙ ap as_step (ap (λ (l : Lanes). turn_gives (state_of s (cpu_at t) limit past) l t) (sym lanes) ∙ i.event)

-- where a processor refuses a turn for a reason other than memory, the step is refused for that reason
pub refused_step : (s : Script) (limit : ℕ) (t : Turn) (past : List Event) (f : Found) (k : TurnRefusal) (v : View) → IsRun s limit past →
    (cpu_at t).0 < s.cpus → is_asked s t past ≡ true → Follows s past v → IsTurnRefused (state_of s (cpu_at t) limit past) t f k v → (k ≡ NoMemory → ⊥) →
    step s limit t past ≡ Err (kind_of_refusal k)
refused_step s limit t past f k v r b a h i m =
    let lanes : f.lanes ≡ lanes_at s past = sym (rw h.states at i.told) in
    go lanes i.cause
  where
    go : f.lanes ≡ lanes_at s past → (k ≡ NoMemory) ⊎ (turn_gives (state_of s (cpu_at t) limit past) f.lanes t ≡ Err k) → step s limit t past
        ≡ Err (kind_of_refusal k)
    go l (inl e) = absurd (m e)
    go l (inr e) =
        sym (turn_is_step s limit t past r b a)
        ∙ ap as_step (ap (λ (l : Lanes). turn_gives (state_of s (cpu_at t) limit past) l t) (sym l) ∙ e)

-- ---- the processors

-- an event of another processor leaves a processor's state as it was
cpu_stays : (s : Script) (limit : ℕ) (q : CpuNo) (past : List Event) (e : Event) → e.cpu.0 ≢ q.0 → state_of s q limit (e ∷ past) ≡ state_of s q limit past
cpu_stays s limit q past e n = ap (λ (x : _). record { script = s; cpu = q; limit = limit; own = x }) (own_stays_on s q past e n)

-- after the event of a processor, the others are as before
pub cpus_move : (s : Script) (limit : ℕ) (p : CpuNo) (past : List Event) (e : Event) → e.cpu ≡ p → p.0 < s.cpus →
    set (cpus_of s limit past) p.0 (state_of s p limit (e ∷ past)) ≡ cpus_of s limit (e ∷ past)
cpus_move s limit p past e c b =
    sym (table-self start s.cpus (set old p.0 new) (λ q. state_of s (cpu q) limit (e ∷ past)) (length-set old p.0 new ∙ long) each)
  where
    start : CpuState
    start = state_of s (cpu 0) limit past

    old : List CpuState
    old = cpus_of s limit past

    new : CpuState
    new = state_of s p limit (e ∷ past)

    long : length old ≡ s.cpus
    long = length-table_from 0 s.cpus (λ q. state_of s (cpu q) limit past)

    by : (i : ℕ) → i < s.cpus → (same : Bool) → (i == p.0) ≡ same → state_of s (cpu i) limit (e ∷ past) ≡ get_or (set old p.0 new) i start
    by i h true k =
        let j : i ≡ p.0 = grind (arith, nat_tests) in
        let l : p.0 < length old = omega (arith, long) in
        ap (λ (n : ℕ). state_of s (cpu n) limit (e ∷ past)) j
        ∙ sym (ap (λ (n : ℕ). get_or (set old p.0 new) n start) j ∙ get_or-set_same old p.0 new start l)
    by i h false k =
        let j : i ≢ p.0 = grind (arith, nat_tests) in
        let o : e.cpu.0 ≡ p.0 = ap (λ (q : CpuNo). q.0) c in
        let m : e.cpu.0 ≢ i = omega (arith, j, o) in
        cpu_stays s limit (cpu i) past e m
        ∙ sym (get_or-set_other old p.0 i new start j ∙ get_or-table s.cpus i (λ q. state_of s (cpu q) limit past) start h)

    each : (i : ℕ) → i < s.cpus → state_of s (cpu i) limit (e ∷ past) ≡ get_or (set old p.0 new) i start
    each i h = by i h (i == p.0) refl

-- one of the processors
pub cpu_of_run : (s : Script) (limit : ℕ) (p : CpuNo) (past : List Event) (d : CpuState) → p.0 < s.cpus → get_or (cpus_of s limit past) p.0 d
    ≡ state_of s p limit past
cpu_of_run s limit p past d b = get_or-table s.cpus p.0 (λ q. state_of s (cpu q) limit past) d b
