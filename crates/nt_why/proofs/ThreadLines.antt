-- What is told of a thread.
use Rattle.std.proofs.Common.{ap, arith, subst, sym, ◌∙◌}
use Rattle.std.proofs.lemmas.Bool.{ltb-true}
use Rattle.std.specs.List.{list_any}
use Rattle.std.specs.Prelude.{Bool, Err, List, None, Ok, Option, Result, Some, [], false, is_none, is_some, nat_lt, not, refl, true, ℕ, ◌++◌, ◌<◌, ◌∷◌}
use Rattle.std.specs.Prelude.{IfSome, ◌≡◌, ◌≤◌}
use Rattle.nt_event.specs.declared.events.Event.{Event}
use Rattle.nt_event.specs.declared.events.ScheduleKind.{ScheduleKind}
use Rattle.nt_event.specs.declared.events.ScheduleKind.TheVariants.{NoSuchCpu, NothingToDo}
use Rattle.nt_event.specs.declared.events.Turn.TheVariants.{Switch as SwitchTurn}
use Rattle.nt_event.specs.declared.numbers.CpuNo.{CpuNo}
use Rattle.nt_event.specs.declared.numbers.ThreadNo.{ThreadNo}
use Rattle.nt_event.specs.declared.scripts.Script.{Script}
use Rattle.nt_event.specs.Lanes.{lanes_at}
use Rattle.nt_event.specs.Lists.{head_of}
use Rattle.nt_event.specs.Own.{own_of}
use Rattle.nt_event.specs.Routines.{cpu_of}
use Rattle.nt_event.specs.Step.{is_cut, refused_if, step, uncut_step}
use Rattle.nt_why.specs.declared.fates.Fate.{Fate}
use Rattle.nt_why.specs.declared.lines.Lines.{Lines}
use Rattle.nt_why.specs.declared.question.Course.{Course}
use Rattle.nt_why.specs.declared.reasons.Reason.{Reason}
use Rattle.nt_why.specs.declared.reasons.Reason.TheVariants.{NotTaken, Runs, Then}
use Rattle.nt_why.specs.declared.things.Thing.TheVariants as thing
use Rattle.nt_why.specs.Courses.{AreWholeOf, past_on}
use Rattle.nt_why.specs.Lined.{with_each}
use Rattle.nt_why.specs.Says.{holds_back}
use Rattle.nt_why.specs.Threads.{refusal_of, runs_there, taken_line}
use Rattle.nt_why.proofs.InterruptLines.{head_kept}
use Rattle.nt_why.proofs.Told.{any_same, each_free, each_held}

-- a processor that the script lacks takes up no thread
pub no_switch : (s : Script) (limit : ℕ) (p : CpuNo) (t : ThreadNo) (past : List Event) → s.cpus ≤ p.0 → step s limit (SwitchTurn p t) past ≡ Err NoSuchCpu
no_switch s limit p t past h = go (nat_lt p.0 s.cpus) refl
  where
    rest : Result Event ScheduleKind
    rest = refused_if (is_cut limit (own_of s p past)) NothingToDo (uncut_step s (SwitchTurn p t) (own_of s p past) (lanes_at s past) past)

    go : (b : Bool) → nat_lt p.0 s.cpus ≡ b → refused_if (not (nat_lt p.0 s.cpus)) NoSuchCpu rest ≡ Err NoSuchCpu
    go true k = absurd (let l = ltb-true p.0 s.cpus k in omega (arith, l, h))
    go false k = ap (λ (b : Bool). refused_if (not b) NoSuchCpu rest) k

-- a turn that is refused for a cause gives just that
pub refusal_is : (x : Result Event ScheduleKind) (k : ScheduleKind) → Some k ≡ refusal_of x → x ≡ Err k
refusal_is (Ok e) k h = absurd cc
refusal_is (Err j) k h = cc

-- what holds of no cause of a refusal is freedom
pub free_none : (o : Option ScheduleKind) (b : Bool) → is_some o ≡ not b → b ≡ is_none o
free_none None true h = refl
free_none None false h = absurd cc
free_none (Some k) true h = absurd cc
free_none (Some k) false h = refl

-- a line that is true where three facts hold is true
pub true_with : (P : Reason → Type 0) (A B C : Type 0) (o : Option Reason) → A → B → C → IfSome o (λ r. A → B → C → P r) → IfSome o P
true_with P A B C None a b c h = tt
true_with P A B C (Some r) a b c h = h a b c

-- and one that is true where two hold
pub true_with_two : (P : Reason → Type 0) (A B : Type 0) (o : Option Reason) → A → B → IfSome o (λ r. A → B → P r) → IfSome o P
true_with_two P A B None a b h = tt
true_with_two P A B (Some r) a b h = h a b

-- some line holds the thread back exactly where the turn is refused
pub lines_held : (p : CpuNo) (o : Option ScheduleKind) (free : Bool) (x : Lines) (rs : List Reason) → free ≡ is_none o → x.asked ≡ taken_line p o → rs ≡ [] →
    list_any holds_back (with_each free x rs) ≡ is_some o
lines_held p None free x rs f a e =
    ap (λ (b : Bool). list_any holds_back (with_each b x rs)) f ∙ each_free x rs (ap (list_any holds_back) e)
lines_held p (Some k) free x rs f a e =
    ap (λ (b : Bool). list_any holds_back (with_each b x rs)) f ∙ each_held x (NotTaken p k) rs a refl

-- what is told of a thread that runs is whole
pub running_whole : (c : Course) (p : CpuNo) (t : ThreadNo) (rs : List Reason) → cpu_of c.script.now t ≡ p → p.0 < c.script.now.cpus →
    runs_there c.script.now (past_on c) t ≡ true → head_of rs ≡ Some (Runs t) → AreWholeOf c (thing.Thread t) rs
running_whole c p t rs e b h k =
    let there : (cpu_of c.script.now t).0 < c.script.now.cpus = subst (λ (q : CpuNo). q.0 < c.script.now.cpus) (sym e) b in
    record {
      lacks = λ x. absurd (omega (arith, there, x));
      runs = λ x y. k;
      held = λ x y. absurd (let z = sym h ∙ y in cc);
    }

-- what is told of one that doesn't run is whole
pub waiting_whole : (c : Course) (p : CpuNo) (t : ThreadNo) (rs : List Reason) → cpu_of c.script.now t ≡ p → p.0 < c.script.now.cpus →
    runs_there c.script.now (past_on c) t ≡ false → list_any holds_back rs ≡ is_some (refusal_of (step c.script.now c.turns (SwitchTurn p t) (past_on c))) →
    AreWholeOf c (thing.Thread t) rs
waiting_whole c p t rs e b h k =
    let there : (cpu_of c.script.now t).0 < c.script.now.cpus = subst (λ (q : CpuNo). q.0 < c.script.now.cpus) (sym e) b in
    record {
      lacks = λ x. absurd (omega (arith, there, x));
      runs = λ x y. absurd (let z = sym h ∙ y in cc);
      held = λ x y. k ∙ ap (λ (q : CpuNo). is_some (refusal_of (step c.script.now c.turns (SwitchTurn q t) (past_on c)))) (sym e);
    }

-- what is told of a processor that the script lacks is whole
pub unplaced_whole : (c : Course) (p : CpuNo) (t : ThreadNo) (rs : List Reason) → cpu_of c.script.now t ≡ p → c.script.now.cpus ≤ p.0 →
    head_of rs ≡ Some (NotTaken p NoSuchCpu) → AreWholeOf c (thing.Thread t) rs
unplaced_whole c p t rs e b k =
    let lacks : c.script.now.cpus ≤ (cpu_of c.script.now t).0 = subst (λ (q : CpuNo). c.script.now.cpus ≤ q.0) (sym e) b in
    record {
      lacks = λ x. k ∙ ap (λ (q : CpuNo). Some (NotTaken q NoSuchCpu)) (sym e);
      runs = λ x y. absurd (omega (arith, lacks, x));
      held = λ x y. absurd (omega (arith, lacks, x));
    }

-- it stays whole with what became of the thread behind it
pub taken_whole : (c : Course) (t : ThreadNo) (f : Fate) (old new : List Reason) → new ≡ old ++ Then f ∷ [] → AreWholeOf c (thing.Thread t) old →
    AreWholeOf c (thing.Thread t) new
taken_whole c t f old new e w = record {
  lacks = λ x. ap head_of e ∙ head_kept old _ (Then f) (w.lacks x);
  runs = λ x y. ap head_of e ∙ head_kept old _ (Then f) (w.runs x y);
  held = λ x y. ap (list_any holds_back) e ∙ any_same old (Then f) refl ∙ w.held x y;
}
