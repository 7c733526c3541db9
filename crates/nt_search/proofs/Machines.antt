-- Machines that take turns of free runs.
use Rattle.std.proofs.Common.{ap, arith, subst, sym, ◌∙◌}
use Rattle.std.proofs.lemmas.Bool.{lt-leb, ltb-true}
use Rattle.std.specs.Prelude.{Bool, Err, List, None, Ok, Option, Result, [], false, get_or, length, nat_lt, option_and_then, refl, replicate, suc}
use Rattle.std.specs.Prelude.{true, ℕ, ◌*◌, ◌+◌, ◌<◌, ◌^◌, ◌∷◌, ◌≡◌, ◌≤◌}
use Rattle.nt_event.specs.declared.limits.TheConstants.{EVENTS}
use Rattle.nt_event.specs.declared.events.Event.{Event}
use Rattle.nt_event.specs.declared.events.ScheduleKind.{ScheduleKind}
use Rattle.nt_event.specs.declared.events.Turn.{Turn}
use Rattle.nt_event.specs.declared.numbers.CpuNo.{CpuNo}
use Rattle.nt_event.specs.declared.scripts.Script.{Script}
use Rattle.nt_event.specs.Families.{in_rewait}
use Rattle.nt_event.specs.Lanes.{Lanes, lanes_at}
use Rattle.nt_event.specs.Own.{made, own_of}
use Rattle.nt_event.specs.Regions.{stand_at}
use Rattle.nt_event.specs.Robin.{is_settled}
use Rattle.nt_event.specs.Script.{has_cpu}
use Rattle.nt_event.specs.Step.{IsRun, cpu_at, is_cut, step}
use Rattle.nt_event.specs.Numbers.{cpu}
use Rattle.nt_event.proofs.Options.{not_false}
use Rattle.nt_event.proofs.Tables.{get_or-table, length-table_from}
use Rattle.nt_runs.proofs.Steps.{step_uncut, turn_gives}
use Rattle.nt_runs.proofs.Turns.{turn_same}
use Rattle.nt_plain.specs.States.{PlainState, view_of}
use Rattle.nt_cpus.specs.Following.{AreAfter, cpus_of}
use Rattle.nt_cpu.specs.Runs.{state_of}
use Rattle.nt_cpu.specs.States.{CpuState}
use Rattle.nt_cpus.specs.States.{CpusState}
use Rattle.nt_alike.specs.Free.{IsFreeStep, LookIsShort, free_step}
use Rattle.nt_alike.proofs.Free.{made_length}
use Rattle.nt_expect.specs.declared.expectations.Watched.{Watched}
use Rattle.nt_shade.specs.Shade.{StandAfter}
use Rattle.nt_shade_asks.specs.declared.unnoticed.Unnoticed.{Unnoticed}
use Rattle.nt_shade_asks.specs.Follows.{IsAsked, IsOf}
use Rattle.nt_shade_dpcs.specs.Keys.{again_due}
use Rattle.nt_shade_dpcs.specs.Shade.{IsShade, due_again}
use Rattle.nt_search.specs.declared.machine.Machine.{Machine}
use Rattle.nt_shows.specs.Standing.{StandAfter as CpusStand}
use Rattle.nt_shows.specs.Tells.{AreCame}
use Rattle.nt_search.specs.Machines.{IsRefused, IsTaken, Stands}

-- ---- steps

-- where fewer events came than the limit, no processor is cut
pub step_free : (s : Script) (limit : ℕ) (t : Turn) (past : List Event) → length past < limit → step s limit t past ≡ free_step s t past
step_free s limit t past l =
    let m = made_length (cpu_at t) past in
    let c : is_cut limit (own_of s (cpu_at t) past) ≡ false = lt-leb limit (made (cpu_at t) past) (omega (arith, l, m)) in
    rw c refl

-- the event of a step is of the turn's processor, which the script has
pub step_cpu : (s : Script) (limit : ℕ) (t : Turn) (past : List Event) (e : Event) → step s limit t past ≡ Ok e → cpu_at t ≡ e.cpu
step_cpu s limit t past e h = ap (λ (f : Event). f.cpu) (turn_gives s limit t past e h)

-- a turn that gives an event under a limit is one of a processor of the script
pub step_has : (s : Script) (limit : ℕ) (t : Turn) (past : List Event) (e : Event) → step s limit t past ≡ Ok e → has_cpu s (cpu_at t) ≡ true
step_has s limit t past e h = not_false (nat_lt (cpu_at t).0 s.cpus) (step_uncut s limit t past e h).0

-- and may come after the past
pub step_comes : (s : Script) (limit : ℕ) (t : Turn) (past : List Event) (e : Event) → length past < limit → step s limit t past ≡ Ok e → IsFreeStep s e past
step_comes s limit t past e l h =
    let same = turn_same s limit t past e h in
    subst (λ (u : Turn). free_step s u past ≡ Ok e) (sym same) (sym (step_free s limit t past l) ∙ h)

-- ---- flags

-- there are as many flags as events that are watched for
pub came_length : (watched : List Watched) (past : List Event) (flags : List Bool) → AreCame watched past flags → length flags ≡ length watched
came_length [] past [] a = refl
came_length [] past (b ∷ flags) a = absurd a
came_length (x ∷ watched) past [] a = absurd a
came_length (x ∷ watched) past (b ∷ flags) a = ap suc (came_length watched past flags a.1)

-- before the first event nothing came
pub none_came : (watched : List Watched) → AreCame watched [] (replicate (length watched) false)
none_came [] = tt
none_came (x ∷ watched) = (λ c. c, none_came watched)

-- ---- what a turn leaves

module _ (s : Script) (limit : ℕ) (watched : List Watched) (t : Turn) (past : List Event) (m : Machine) (h : Stands s limit watched past m)
    (short : length past < limit) where
  -- what the processors did they did at this limit
  made_step : (r : Result Event ScheduleKind) → step m.processors.script m.processors.limit t past ≡ r → step s limit t past ≡ r
  made_step r q = subst (λ (l : ℕ). step s l t past ≡ r) h.limit_is (subst (λ (z : Script). step z m.processors.limit t past ≡ r) h.of q)

  -- a machine whose parts all move by a turn's event has taken that turn
  pub taken : (c : CpusState) (f : PlainState) (e : Event) (n : Machine) → step m.processors.script m.processors.limit t past ≡ Ok e →
      AreAfter (e ∷ past) c f.script (view_of f) → (c.script ≡ m.processors.script) × (c.limit ≡ m.processors.limit) →
      n ≡ record m { processors = c; floor = f; dpcs = n.dpcs; came = n.came; took = m.took + 1; event = e } → IsShade s (e ∷ past) n.dpcs →
      AreCame watched (e ∷ past) n.came.items → LookIsShort e.what →
      IsTaken s limit watched t past e n
  taken c f e n made after kept is dpcs came look =
      let gives = made_step (Ok e) made in
      record {
        gives = sym (step_free s limit t past short) ∙ gives;
        stands = record {
          script = ap (λ (x : Machine). x.script.now) is ∙ h.script;
          of = ap (λ (x : Machine). x.processors.script) is ∙ kept.0 ∙ h.of;
          limit_is = ap (λ (x : Machine). x.processors.limit) is ∙ kept.1 ∙ h.limit_is;
          after = subst (λ (x : Machine). AreAfter (e ∷ past) x.processors x.floor.script (view_of x.floor)) (sym is) after;
          free = ((step_comes s limit t past e short gives, look), h.free);
          dpcs = dpcs;
          came = came;
          took = ap (λ (x : Machine). x.took) is ∙ ap (λ (k : ℕ). k + 1) h.took ∙ one_more (length past);
        };
      }
    where
      one_more : (k : ℕ) → k + 1 ≡ suc k
      one_more k = omega arith

  -- a machine whose processors and floor still stand after the same history has refused a turn without event
  pub refused : (c : CpusState) (f : PlainState) (k : ScheduleKind) (n : Machine) → step m.processors.script m.processors.limit t past ≡ Err k →
      AreAfter past c f.script (view_of f) → (c.script ≡ m.processors.script) × (c.limit ≡ m.processors.limit) →
      n ≡ record m { processors = c; floor = f } → IsRefused s limit watched t past n
  refused c f k n made after kept is =
      record {
        kind = k;
        refused = sym (step_free s limit t past short) ∙ made_step (Err k) made;
        stands = record {
          script = ap (λ (x : Machine). x.script.now) is ∙ h.script;
          of = ap (λ (x : Machine). x.processors.script) is ∙ kept.0 ∙ h.of;
          limit_is = ap (λ (x : Machine). x.processors.limit) is ∙ kept.1 ∙ h.limit_is;
          after = subst (λ (x : Machine). AreAfter past x.processors x.floor.script (view_of x.floor)) (sym is) after;
          free = h.free;
          dpcs = subst (IsShade s past) (ap (λ (x : Machine). x.dpcs) (sym is)) h.dpcs;
          came = subst (AreCame watched past) (ap (λ (x : Machine). x.came.items) (sym is)) h.came;
          took = ap (λ (x : Machine). x.took) is ∙ h.took;
        };
      }

  -- a wait that the event takes up again is due as its processor stood
  pub due_is : (e : Event) (due : Option ℕ) → step m.processors.script m.processors.limit t past ≡ Ok e →
      (has_cpu s (cpu_at t) ≡ true → due ≡ option_and_then (λ w. w.due) (stand_at s (cpu_at t) past).again) →
      in_rewait (λ f y. due) None e.what ≡ due_again s e past
  due_is e due made is =
      let gives = made_step (Ok e) made in
      let cpu = step_cpu s limit t past e gives in
      let here = is (step_has s limit t past e gives) in
      ap (λ (d : Option ℕ). in_rewait (λ f y. d) None e.what) here
      ∙ ap (λ (p : CpuNo). again_due (stand_at s p past) e.what) cpu

  -- an event given by a turn of a machine is one of a processor of the script
  pub event_has : (e : Event) → step m.processors.script m.processors.limit t past ≡ Ok e → has_cpu s e.cpu ≡ true
  event_has e made =
      let gives = made_step (Ok e) made in
      subst (λ (p : CpuNo). has_cpu s p ≡ true) (step_cpu s limit t past e gives) (step_has s limit t past e gives)

  -- the time that follows the events has room
  pub time_fits : m.floor.lanes.timers.now ≤ EVENTS * 2 ^ 32 → m.dpcs.timers.now + 2 ^ 32 ≤ 2 ^ 64
  time_fits low =
      let time = h.dpcs.timers.time in
      let states = h.after.follows.states in
      let lanes : m.floor.lanes ≡ lanes_at m.processors.script past = cc in
      let now : m.floor.lanes.timers.now ≡ (lanes_at s past).timers.now =
      ap (λ (l : Lanes). l.timers.now) lanes ∙ ap (λ (z : Script). (lanes_at z past).timers.now) h.of in
      omega (arith, time, now, low)

-- each processor keeps what the history says
pub cpu_own : (s : Script) (limit : ℕ) (watched : List Watched) (past : List Event) (m : Machine) → Stands s limit watched past m → (p : CpuNo) (d : CpuState) →
    has_cpu s p ≡ true → (get_or m.processors.cpus p.0 d).own ≡ own_of s p past
cpu_own s limit watched past m h p d has =
    let low : p.0 < s.cpus = ltb-true p.0 s.cpus has in
    let within : p.0 < m.processors.script.cpus = subst (λ (z : Script). p.0 < z.cpus) (sym h.of) low in
    ap (λ (xs : List CpuState). (get_or xs p.0 d).own) h.after.every
    ∙ ap (λ (x : CpuState). x.own) (get_or-table m.processors.script.cpus p.0 (λ q. state_of m.processors.script (cpu q) m.processors.limit past) d within)
    ∙ ap (λ (z : Script). own_of z p past) h.of

-- a machine has a state for each processor of the script
pub cpu_within : (s : Script) (limit : ℕ) (watched : List Watched) (past : List Event) (m : Machine) → Stands s limit watched past m → (p : CpuNo) →
    has_cpu s p ≡ true → p.0 < length m.processors.cpus
cpu_within s limit watched past m h p has =
    let low : p.0 < s.cpus = ltb-true p.0 s.cpus has in
    let count = ap length h.after.every ∙ length-table_from 0 m.processors.script.cpus (λ q. state_of m.processors.script (cpu q) m.processors.limit past) in
    let same = ap (λ (z : Script). z.cpus) h.of in
    omega (arith, low, count, same)

-- a machine whose parts are those of another stands there too
pub stands_same : (s : Script) (limit : ℕ) (watched : List Watched) (past : List Event) (m n : Machine) → Stands s limit watched past m →
    n.script.now ≡ m.script.now → n.processors ≡ m.processors → n.floor ≡ m.floor → IsShade s past n.dpcs → n.came.items ≡ m.came.items → n.took ≡ m.took →
    Stands s limit watched past n
stands_same s limit watched past m n h script processors floor dpcs came took = record {
  script = script ∙ h.script;
  of = ap (λ (x : CpusState). x.script) processors ∙ h.of;
  limit_is = ap (λ (x : CpusState). x.limit) processors ∙ h.limit_is;
  after = subst (λ (x : CpusState). AreAfter past x n.floor.script (view_of n.floor)) (sym processors)
      (subst (λ (x : PlainState). AreAfter past m.processors x.script (view_of x)) (sym floor) h.after);
  free = h.free;
  dpcs = dpcs;
  came = subst (AreCame watched past) (sym came) h.came;
  took = took ∙ h.took;
}

-- with what was asked and not noticed it stands after the history
pub stand_after : (s : Script) (limit : ℕ) (watched : List Watched) (past : List Event) (m : Machine) (u : Unnoticed) → Stands s limit watched past m →
    IsOf s u → IsAsked s past u → StandAfter past m.processors m.floor m.dpcs u
stand_after s limit watched past m u h of asked = record {
  machine = h.after;
  dpcs = subst (λ (z : Script). IsShade z past m.dpcs) (sym h.of) h.dpcs;
  of = subst (λ (z : Script). IsOf z u) (sym h.of) of;
  asked = subst (λ (z : Script). IsAsked z past u) (sym h.of) asked;
}

-- what is of the machine's script is of the script
pub of_script : (s : Script) (limit : ℕ) (watched : List Watched) (past : List Event) (m : Machine) (P : Script → Type 0) → Stands s limit watched past m →
    P m.script.now → P s
of_script s limit watched past m P h p = subst P h.script p

-- its processors stand after the history
pub stand_cpus : (s : Script) (limit : ℕ) (watched : List Watched) (past : List Event) (m : Machine) (cpus : List CpuState) → Stands s limit watched past m →
    cpus ≡ m.processors.cpus → CpusStand s past cpus
stand_cpus s limit watched past m cpus h e = record {
  limit = m.processors.limit;
  run = subst (λ (z : Script). IsRun z m.processors.limit past) h.of h.after.run;
  every = e ∙ h.after.every ∙ ap (λ (z : Script). cpus_of z m.processors.limit past) h.of;
}

-- its lanes are what the history says
pub lanes_at_script : (s : Script) (limit : ℕ) (watched : List Watched) (past : List Event) (m : Machine) → Stands s limit watched past m →
    m.floor.lanes ≡ lanes_at m.script.now past
lanes_at_script s limit watched past m h =
    let states = h.after.follows.states in
    let lanes : m.floor.lanes ≡ lanes_at m.processors.script past = cc in
    lanes ∙ ap (λ (z : Script). lanes_at z past) (h.of ∙ sym h.script)

-- whether its history is settled
pub settled_is : (s : Script) (limit : ℕ) (watched : List Watched) (past : List Event) (m : Machine) (b : Bool) → Stands s limit watched past m →
    is_settled m.processors.script m.processors.limit past ≡ b → is_settled s limit past ≡ b
settled_is s limit watched past m b h q =
    subst (λ (l : ℕ). is_settled s l past ≡ b) h.limit_is (subst (λ (z : Script). is_settled z m.processors.limit past ≡ b) h.of q)
