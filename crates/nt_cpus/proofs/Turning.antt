-- A turn of processors and a floor that stand after a run.
use Rattle.std.proofs.Common.{ap, arith, set, subst, sym, ◌∙◌}
use Rattle.std.proofs.lemmas.Bool.Decides.{nat_tests}
use Rattle.std.proofs.lemmas.List.{set-get_or}
use Rattle.std.specs.Borrow.{Bor}
use Rattle.std.specs.Prelude.{Bool, Err, List, Ok, Some, false, get_or, nat_lt, not, refl, true, ℕ, ◌<◌, ◌∷◌, ◌≡◌, ◌≤◌}
use Rattle.nt_event.specs.declared.events.Event.{Event}
use Rattle.nt_event.specs.declared.events.Rises.{Rises}
use Rattle.nt_event.specs.declared.events.Turn.{Turn}
use Rattle.nt_event.specs.declared.numbers.CpuNo.{CpuNo}
use Rattle.nt_event.specs.declared.scripts.Script.{Script}
use Rattle.nt_event.specs.Lanes.{Lanes}
use Rattle.nt_event.specs.Own.{own_of}
use Rattle.nt_event.specs.Robin.{robin_of}
use Rattle.nt_event.specs.Step.{IsRun, cpu_at, is_cut, step}
use Rattle.nt_event.proofs.Options.{holds_at, holds_when}
use Rattle.nt_runs.proofs.Robin.{robin_at_accepted}
use Rattle.nt_runs.proofs.Turns.{run_grows}
use Rattle.nt_laws.proofs.Counts.{uncut_room}
use Rattle.nt_event.specs.Acts.{Found}
use Rattle.nt_floor.specs.Views.{IsUnmoved, View}
use Rattle.nt_cpu.specs.Choices.{turn_by}
use Rattle.nt_cpu.specs.Runs.{is_asked, state_of}
use Rattle.nt_cpu.specs.declared.choice.Choice.{Choice}
use Rattle.nt_cpu.specs.declared.choice.Choice.TheVariants.{Look, Next, Switch}
use Rattle.nt_cpu.specs.States.{CpuState}
use Rattle.nt_cpu.specs.Turns.{IsTurnRefused, IsTurned, Serves, kind_of_refusal}
use Rattle.nt_cpu.specs.declared.turn.TurnRefusal.{TurnRefusal}
use Rattle.nt_cpu.specs.declared.turn.TurnRefusal.TheVariants.{NoMemory}
use Rattle.nt_cpu.proofs.CoreMoves.{MovesOn, moves_on}
use Rattle.nt_cpu.proofs.CoreSteps.{serves_run}
use Rattle.nt_cpus.specs.Following.{AreAfter, cpus_of}
use Rattle.nt_cpus.specs.States.{CpusState}
use Rattle.nt_cpus.proofs.Floors.{follows_still}
use Rattle.nt_cpus.proofs.Holding.{cpu_held}
use Rattle.nt_cpus.proofs.Stepping.{cpus_move, cut_step, refused_step, turned_step, unasked_step}

-- the processor of the turn
pub taker_held : (past : List Event) (c : CpusState) (floor : Script) (v : View) (t : Turn) (p : CpuNo) (x d : CpuState) → AreAfter past c floor v →
    (cpu_at t).0 < c.script.cpus → p ≡ cpu_at t → x ≡ get_or c.cpus p.0 d → x ≡ state_of c.script (cpu_at t) c.limit past
taker_held past c floor v t p x d i b e h =
    h ∙ (ap (λ (q : CpuNo). get_or c.cpus q.0 d) e ∙ cpu_held c.script c.limit past c.cpus (cpu_at t) d i.every b)

-- after a run, the state of the processor that takes a turn serves the view of the floor
pub taker_served : (past : List Event) (c : CpusState) (floor : Script) (v : View) (t : Turn) (x : CpuState) → AreAfter past c floor v →
    (cpu_at t).0 < c.script.cpus → x ≡ state_of c.script (cpu_at t) c.limit past → Serves x v
taker_served past c floor v t x i b h =
    subst (λ (x : CpuState). Serves x v) (sym h) (serves_run c.script c.limit (cpu_at t) past v i.run b i.follows drawable)
  where
    drawable : is_cut c.limit (own_of c.script (cpu_at t) past) ≡ false → 1 ≤ v.drawable
    drawable u =
        let r = uncut_room c.script c.limit (cpu_at t) past i.run b u in let l = i.drawable in omega (arith, r, l)

-- what a processor makes of a turn, with processors and floor as after a run, is the event of the step
pub taken_step : (past : List Event) (c : CpusState) (floor : Script) (v w : View) (t : Turn) (x d : CpuState) (y : Found) (n : ℕ) (e : Event) →
    AreAfter past c floor v → (cpu_at t).0 < c.script.cpus → is_asked c.script t past ≡ true → x ≡ state_of c.script (cpu_at t) c.limit past →
    IsTurned x d t y n e v w → step c.script c.limit t past ≡ Ok e
taken_step past c floor v w t x d y n e i b a h m =
    let k : IsTurned (state_of c.script (cpu_at t) c.limit past) d t y n e v w = subst (λ (x : CpuState). IsTurned x d t y n e v w) h m in
    turned_step c.script c.limit t past y n e d v w i.run b a i.follows k

-- what a processor refuses, with processors and floor as after a run, the step refuses too, memory apart
pub untaken_step : (past : List Event) (c : CpusState) (floor : Script) (v : View) (t : Turn) (x : CpuState) (y : Found) (r : TurnRefusal) →
    AreAfter past c floor v → (cpu_at t).0 < c.script.cpus → is_asked c.script t past ≡ true → x ≡ state_of c.script (cpu_at t) c.limit past →
    IsTurnRefused x t y r v → (r ≡ NoMemory → ⊥) → step c.script c.limit t past ≡ Err (kind_of_refusal r)
untaken_step past c floor v t x y r i b a h m never =
    let k : IsTurnRefused (state_of c.script (cpu_at t) c.limit past) t y r v = subst (λ (x : CpuState). IsTurnRefused x t y r v) h m in
    refused_step c.script c.limit t past y r v i.run b a i.follows k never

-- after its event all stands after the longer history; the floor goes on telling its states
pub taken_after : (past : List Event) (c : CpusState) (floor other : Script) (v w : View) (t : Turn) (p : CpuNo) (x d : CpuState) (y : Found) (n : ℕ)
    (e : Event) (l : Lanes) → AreAfter past c floor v → (cpu_at t).0 < c.script.cpus → is_asked c.script t past ≡ true → p ≡ cpu_at t →
    x ≡ state_of c.script (cpu_at t) c.limit past → IsTurned x d t y n e v w → w.states ≡ Some l → other ≡ floor →
    AreAfter (e ∷ past) (record c { cpus = set c.cpus p.0 d }) other w
taken_after past c floor other v w t p x d y n e l i b a q h m j z =
    let k : IsTurned (state_of c.script (cpu_at t) c.limit past) d t y n e v w = subst (λ (x : CpuState). IsTurned x d t y n e v w) h m in
    let o : MovesOn c.script c.limit (cpu_at t) past e d w = moves_on c.script c.limit (cpu_at t) past t y n e d v w l b i.follows k j in
    record {
      script = i.script;
      small = i.small;
      run = run_grows c.script c.limit t past e i.run (taken_step past c floor v w t x d y n e i b a h m);
      every = ap (λ (r : CpuNo). set c.cpus r.0 d) q ∙ (ap (λ (ys : List CpuState). set ys (cpu_at t).0 d) i.every
          ∙ (ap (λ (x : CpuState). set (cpus_of c.script c.limit past) (cpu_at t).0 x) o.state ∙ cpus_move c.script c.limit (cpu_at t) past e o.cpu b));
      follows = o.floor;
      same = z ∙ i.same;
      drawable = (let l = i.drawable in let w = m.floor.drawable in omega (arith, l, w));
    }

-- where it is refused, the processors are as before
pub untaken_same : (c : CpusState) (p : CpuNo) (x d : CpuState) → x ≡ get_or c.cpus p.0 x → d ≡ x → ◌≡◌ {A = CpusState} (record c { cpus = set c.cpus p.0 d }) c
untaken_same c p x d h e =
    ap (λ (xs : List CpuState). record c { cpus = xs })
    (ap (λ (x : CpuState). set c.cpus p.0 x) (e ∙ h) ∙ set-get_or c.cpus p.0 x)

-- and all still stands after the history
pub still_after : (past : List Event) (c d : CpusState) (floor other : Script) (v w : View) → AreAfter past c floor v → d ≡ c → IsUnmoved v w → other ≡ floor →
    AreAfter past d other w
still_after past c d floor other v w i e u z = subst (λ (x : CpusState). AreAfter past x other w) (sym e) record {
  script = i.script;
  small = i.small;
  run = i.run;
  every = i.every;
  follows = follows_still c.script past v w i.follows u;
  same = z ∙ i.same;
  drawable = (let l = i.drawable in let k = u.drawable in omega (arith, l, k));
}

-- ---- the robin rule

-- a turn that gives an event was asked for
pub taken_asked : (s : Script) (limit : ℕ) (t : Turn) (past : List Event) (e : Event) → (cpu_at t).0 < s.cpus → step s limit t past ≡ Ok e →
    is_asked s t past ≡ true
taken_asked s limit t past e b k = go (is_cut limit (own_of s (cpu_at t) past)) (is_asked s t past) refl refl
  where
    go : (x y : Bool) → is_cut limit (own_of s (cpu_at t) past) ≡ x → is_asked s t past ≡ y → is_asked s t past ≡ true
    go x true c a = a
    go true false c a = let h = sym k ∙ cut_step s limit t past b c in cc
    go false false c a = let h = sym k ∙ unasked_step s limit t past b c a in cc

-- a test whose negation holds fails
no_not : (b : Bool) → not b ≡ true → b ≡ false
no_not true h = absurd cc
no_not false h = refl

-- the rule's turn of a processor gives one
pub rule_accepted : (s : Script) (limit : ℕ) (p : CpuNo) (past : List Event) (t : Turn) → IsRun s limit past → p.0 < s.cpus → robin_of s limit p past ≡ Some t →
    (e : Event) × (step s limit t past ≡ Ok e)
rule_accepted s limit p past t r b h =
    holds_at (λ t. (e : Event) × (step s limit t past ≡ Ok e)) (robin_of s limit p past) t
    (holds_when (λ t. (e : Event) × (step s limit t past ≡ Ok e)) (not (is_cut limit (own_of s p past))) _
    (λ u. robin_at_accepted s limit p past r below (no_not (is_cut limit (own_of s p past)) u))) h
  where
    below : nat_lt p.0 s.cpus ≡ true
    below = grind (arith, nat_tests)

-- ---- choices

-- whose turn a choice is
pub turn_cpu : (p : CpuNo) (ch : Choice (Bor Rises)) → p ≡ cpu_at (turn_by p ch)
turn_cpu p Next = refl
turn_cpu p (Look r) = refl
turn_cpu p (Switch t) = refl
