-- What is known of an event that a step gave.
use Rattle.std.proofs.Common.{ap, subst, sym, ◌∙◌}
use Rattle.std.specs.Prelude.{Bool, List, None, Ok, Option, Result, Some, false, nat_lt, not, refl, true, ℕ, ◌≡◌}
use Rattle.nt_event.specs.declared.events.Event.{Event}
use Rattle.nt_event.specs.declared.events.Rises.{Rises}
use Rattle.nt_event.specs.declared.events.ScheduleKind.{ScheduleKind}
use Rattle.nt_event.specs.declared.events.ScheduleKind.TheVariants.{BadChoice, BadLook, NoSuchCpu, NothingToDo}
use Rattle.nt_event.specs.declared.events.Turn.{Turn}
use Rattle.nt_event.specs.declared.events.Turn.TheVariants.{Look as LookTurn, Next, Switch as SwitchTurn}
use Rattle.nt_event.specs.declared.events.What.{What}
use Rattle.nt_event.specs.declared.events.What.TheVariants.{Look, Switch}
use Rattle.nt_event.specs.declared.jobs.Job.TheVariants.{Switch as SwitchJob}
use Rattle.nt_event.specs.declared.numbers.CpuNo.{CpuNo}
use Rattle.nt_event.specs.declared.numbers.ThreadNo.{ThreadNo}
use Rattle.nt_event.specs.declared.scripts.Script.{Script}
use Rattle.nt_event.specs.Frames.{Frames, frames_of}
use Rattle.nt_event.specs.Jobs.{job_event, may_switch, may_take, next_what, switch_event}
use Rattle.nt_event.specs.Lanes.{Lanes, lanes_at}
use Rattle.nt_event.specs.Own.{Own, own_of, stand_in}
use Rattle.nt_event.specs.Step.{IsLegal, cpu_at, event_at, event_or, is_cut, is_good_look, refused_if, step, turn_at, turn_of, uncut_step}
use Rattle.nt_event.specs.Lists.{when}
use Rattle.nt_event.proofs.Options.{when_gives}

-- the answer is this event
abbrev pub Gives : Result Event ScheduleKind → Event → Type 0
Gives r e = r ≡ Ok e

-- a guarded step that gives an event is not refused by its guard and gives the event inside
pub refused_gives : (b : Bool) (k : ScheduleKind) (r : Result Event ScheduleKind) (e : Event) → Gives (refused_if b k r) e → (b ≡ false) × Gives r e
refused_gives true k r e h = cc
refused_gives false k r e h = (refl, h)

-- where an event is given or else an error, there is something to do and the event is made of it
pub event_gives : (s : Script) (p : CpuNo) (x : Own) (k : ScheduleKind) (o : Option What) (e : Event) → Gives (event_or s p x k o) e → (w : What) ×
    (o ≡ Some w) × (event_at s p w x.frames ≡ e)
event_gives s p x k None e h = cc
event_gives s p x k (Some w) e h = (w, refl, cc)

-- what an uncut processor's turn gave
pub step_uncut : (s : Script) (limit : ℕ) (t : Turn) (past : List Event) (e : Event) → Gives (step s limit t past) e →
    (not (nat_lt (cpu_at t).0 s.cpus) ≡ false) × (is_cut limit (own_of s (cpu_at t) past) ≡ false) ×
    Gives (uncut_step s t (own_of s (cpu_at t) past) (lanes_at s past) past) e
step_uncut s limit t past e h =
    let a = refused_gives (not (nat_lt (cpu_at t).0 s.cpus)) NoSuchCpu _ e h in
    let b = refused_gives (is_cut limit (own_of s (cpu_at t) past)) NothingToDo _ e a.1 in
    (a.0, b.0, b.1)

-- what the turn Next gave
pub next_gives : (s : Script) (limit : ℕ) (p : CpuNo) (past : List Event) (e : Event) → Gives (step s limit (Next p) past) e → (w : What) ×
    (next_what s p (own_of s p past) (lanes_at s past) ≡ Some w) × (event_at s p w (frames_of s p past) ≡ e)
next_gives s limit p past e h =
    event_gives s p (own_of s p past) NothingToDo (next_what s p (own_of s p past) (lanes_at s past)) e (step_uncut s limit (Next p) past e h).2

-- what the turn Switch gave
pub switch_gives : (s : Script) (limit : ℕ) (p : CpuNo) (t : ThreadNo) (past : List Event) (e : Event) → Gives (step s limit (SwitchTurn p t) past) e →
    (may_switch (own_of s p past) ≡ true) × (may_take s p t (lanes_at s past) ≡ true) ×
    (event_at s p (switch_event t (lanes_at s past)) (frames_of s p past) ≡ e)
switch_gives s limit p t past e h =
    let x : Own = own_of s p past in
    let l : Lanes = lanes_at s past in
    let k = event_gives s p x BadChoice (when (may_switch x) (job_event s (stand_in p x) l (SwitchJob t))) e (step_uncut s limit (SwitchTurn p t) past e h).2 in
    let a = when_gives (may_switch x) (when (may_take s p t l) (Some (switch_event t l))) k.0 k.1 in
    let b = when_gives (may_take s p t l) (Some (switch_event t l)) k.0 a.1 in
    let c : switch_event t l ≡ k.0 = same_some (switch_event t l) k.0 b.1 in
    (a.0, b.0, ap (λ (w : What). event_at s p w x.frames) c ∙ k.2)
  where
    same_some : (a b : What) → ◌≡◌ {A = Option What} (Some a) (Some b) → a ≡ b
    same_some a b e = cc

-- what the turn Look gave
pub look_gives : (s : Script) (limit : ℕ) (p : CpuNo) (r : Rises) (past : List Event) (e : Event) → Gives (step s limit (LookTurn p r) past) e →
    (is_good_look s p r.value (own_of s p past) past ≡ true) × (event_at s p (Look r) (frames_of s p past) ≡ e)
look_gives s limit p r past e h =
    let x : Own = own_of s p past in
    let k = event_gives s p x BadLook (when (is_good_look s p r.value x past) (Some (Look r))) e (step_uncut s limit (LookTurn p r) past e h).2 in
    let a = when_gives (is_good_look s p r.value x past) (Some (Look r)) k.0 k.1 in
    let c : Look r ≡ k.0 = same_some (Look r) k.0 a.1 in
    (a.0, ap (λ (w : What). event_at s p w x.frames) c ∙ k.2)
  where
    same_some : (a b : What) → ◌≡◌ {A = Option What} (Some a) (Some b) → a ≡ b
    same_some a b e = cc

-- an event is made of its own what
pub named : (s : Script) (p : CpuNo) (w : What) (x : Frames) (e : Event) → event_at s p w x ≡ e → event_at s p e.what x ≡ e
named s p w x e h =
    ap (λ (v : What). event_at s p v x) (sym (ap (λ (f : Event). f.what) h)) ∙ h

-- an event that a step gives is made of its turn's processor and of the frames there
pub turn_gives : (s : Script) (limit : ℕ) (t : Turn) (past : List Event) (e : Event) → Gives (step s limit t past) e →
    event_at s (cpu_at t) e.what (frames_of s (cpu_at t) past) ≡ e
turn_gives s limit (Next p) past e h =
    let k = next_gives s limit p past e h in named s p k.0 (frames_of s p past) e k.2
turn_gives s limit (SwitchTurn p t) past e h =
    named s p (switch_event t (lanes_at s past)) (frames_of s p past) e (switch_gives s limit p t past e h).2
turn_gives s limit (LookTurn p r) past e h =
    named s p (Look r) (frames_of s p past) e (look_gives s limit p r past e h).1

-- the turn of what a processor does is a turn of that processor
pub cpu_at-turn_at : (p : CpuNo) (w : What) → cpu_at (turn_at p w) ≡ p
cpu_at-turn_at p (Look r) = refl
cpu_at-turn_at p (Switch t st) = refl
cpu_at-turn_at p w = refl

-- a legal event is the one that is made of its own what and of where its processor stood
pub step_gives : (s : Script) (limit : ℕ) (e : Event) (past : List Event) → IsLegal s limit e past → event_at s e.cpu e.what (frames_of s e.cpu past) ≡ e
step_gives s limit e past h =
    subst (λ (p : CpuNo). event_at s p e.what (frames_of s p past) ≡ e) (cpu_at-turn_at e.cpu e.what) (turn_gives s limit (turn_of e) past e h)
