-- The workers as they begin.
use Rattle.std.proofs.Common.{ap, arith, subst, sym, ◌∙◌}
use Rattle.std.proofs.lemmas.Bool.Decides.{nat_tests}
use Rattle.std.proofs.lemmas.List.{get_or_append_left, get_or_push, length-append}
use mathlib.Core.Logic.{dite}
use native.Mathlib.Decide.{ℕ_discrete}
use Rattle.std.specs.Prelude.{Contains, IsTrue, List, None, Some, [], false, get_or, length, refl, true, ℕ, ◌++◌, ◌+◌, ◌-◌, ◌<◌, ◌∷◌, ◌≡◌, ◌≤◌}
use Rattle.atomic_table.specs.Seated.{TableId}
use Rattle.nt_compose.specs.Parts.{Numbered}
use Rattle.nt_cpu.specs.States.{CpuState}
use Rattle.nt_event.specs.declared.numbers.CpuNo.{CpuNo}
use Rattle.nt_event.specs.declared.scripts.Script.{Script}
use Rattle.nt_event.specs.Lanes.{lanes_at}
use Rattle.nt_event.specs.Numbers.{cpu}
use Rattle.nt_event.specs.Script.{fits}
use Rattle.nt_floor.specs.Views.{View as WordsView}
use Rattle.nt_cpu.proofs.CoreSteps.{serves_run}
use Rattle.nt_cpus.proofs.Starting.{opening_follows}
use Rattle.nt_lane.specs.Seats.{AreListed}
use Rattle.nt_mark.specs.declared.seats.Pass.{Pass}
use Rattle.nt_mark.specs.declared.view.View.{View}
use Rattle.nt_mark.specs.Names.{pass_table, pass_view}
use Rattle.nt_mark.specs.Views.{keeping, telling}
use Rattle.nt_live.specs.Prepared.{AreOpened, fresh, new_worker}
use Rattle.nt_live.specs.Workers.{AreAsked, IsAtWork, IsWorker, KnowsSeen, WorkerState, pairs_of}

-- ---- one worker

-- the empty list has no element, so one in it gives anything
nothing : {A B : Type 0} (x : A) → Contains [] x → B
nothing x h = let l = h.1 in absurd (omega arith)

-- all requests of a worker with no events are known, as there are none
none_asked : (s : Script) (p : CpuNo) (v : View) → AreAsked s p v []
none_asked s p v m past t q c i j h = go t.0 t.1
  where
    go : (front : List Numbered) → [] ≡ front ++ m ∷ past → {B : Type 0} → B
    go [] e = absurd cc
    go (x ∷ xs) e = absurd cc

-- a new worker of a processor of the script is at work, with no events
new_at_work : (s : Script) (limit : ℕ) (p : CpuNo) → p.0 < s.cpus → IsAtWork s limit (new_worker s limit p)
new_at_work s limit p h = record {
  script = refl;
  limit_is = refl;
  inside = h;
  mine = [];
  own = refl;
  made = record { steps = tt; below = λ m c. nothing m c; asked = none_asked s p (fresh 1) };
  entries = refl;
  marks = refl;
  parts = refl;
}

-- words on which nothing happened
no_words : Script → WordsView
no_words s = record {
  cpus = s.cpus;
  alone = true;
  drawable = 1;
  next = 0;
  lists = None;
  value = λ p c. 0;
  marked = λ n p c. false;
  states = Some (lanes_at s []);
  told = λ x p c. 0;
}

-- a fresh pass knows all that a new worker of a processor of the script has seen
new_knows : (s : Script) (limit : ℕ) (p : CpuNo) → p.0 < s.cpus → KnowsSeen (new_worker s limit p).cpu (fresh 1)
unfolding no_words
new_knows s limit p b m =
    let h = serves_run s limit p [] (no_words s) tt b (opening_follows s 1 (no_words s) (record {
      cpus = refl;
      alone = refl;
      drawable = refl;
      next = refl;
      states = refl;
      told = λ x q c i. refl;
      value = λ q c i. refl;
      marked = λ k q c i. refl;
    })) (λ e. omega arith) in
    record { known = h.known; below = h.below; named = h.named }

-- each entry of a fresh pass is listed, as it has none
new_listed : AreListed (fresh 1)
new_listed e h lane i = nothing e h

-- what stands in a worker that made nothing
pub new_is_worker : (table : TableId) (s : Script) (limit : ℕ) (p : CpuNo) (c : CpuState) (pass : Pass) → p.0 < s.cpus →
    c ≡ (new_worker s limit p).cpu → pass_table pass ≡ table → pass_view pass ≡ fresh 1 → IsWorker table s limit c (Some pass) []
new_is_worker table s limit p c pass h same at view = subst (λ (x : CpuState). IsWorker table s limit x (Some pass) []) (sym same) (record {
  here = pass;
  pass_is = refl;
  at = at;
  listed = ∣ subst AreListed (sym view) new_listed ∣₁;
  list_is = ap (λ (v : View). pairs_of v) (sym view);
  work = subst (λ (v : View). IsAtWork s limit (record { cpu = (new_worker s limit p).cpu; view = v })) (sym view) (new_at_work s limit p h);
  knows = subst (λ (v : View). KnowsSeen (new_worker s limit p).cpu v) (sym view) (new_knows s limit p h);
})

-- ---- all workers

-- the workers of the processors below n
pub record AreFirst (s : Script) (limit n : ℕ) (ws : List WorkerState) : Type 0 where
  pub count : length ws ≡ n
  pub each : (k : ℕ) (d : WorkerState) → k < n → get_or ws k d ≡ new_worker s limit (cpu k)

-- the empty list holds the workers of the processors below zero
pub none_first : (s : Script) (limit : ℕ) → AreFirst s limit 0 []
none_first s limit = record { count = refl; each = λ k d h. absurd (omega arith) }

-- the workers of the first n processors and a new one for the next are those of the first n + 1
pub one_first : (s : Script) (limit n : ℕ) (ws : List WorkerState) (w : WorkerState) → AreFirst s limit n ws → w ≡ new_worker s limit (cpu n) →
    AreFirst s limit (n + 1) (ws ++ w ∷ [])
one_first s limit n ws w a e = record {
  count = length-append ws (w ∷ []) ∙ (let b = a.count in omega arith);
  each = λ k d h. dite (ℕ_discrete k n)
      (λ i. let b = a.count in let j : length ws ≡ k = omega arith in
      get_or_push ws w d k j ∙ (e ∙ ap (λ (x : ℕ). new_worker s limit (cpu x)) (sym i)))
      (λ ni. let b = a.count in let j : k < n = omega arith in get_or_append_left ws (w ∷ []) d k (omega arith) ∙ a.each k d j);
}

-- new workers for as many processors as the script has are the workers opened for the script
pub all_opened : (s : Script) (limit n : ℕ) (ws : List WorkerState) → AreFirst s limit n ws → n ≡ s.cpus → AreOpened s limit ws
all_opened s limit n ws a e = record { count = a.count ∙ e; each = λ k d h. a.each k d (omega arith) }

-- of the same script and limit
pub new_state : (s t : Script) (limit turns : ℕ) (p : CpuNo) → s ≡ t → limit ≡ turns → (new_worker s limit p).cpu ≡ (new_worker t turns p).cpu
new_state s t limit turns p e f = ap (λ (x : Script). (new_worker x limit p).cpu) e ∙ ap (λ (n : ℕ). (new_worker t n p).cpu) f

-- ---- the passes

-- a part that is taken from a pass that did nothing did nothing
pub part_fresh : (v w : View) (n : ℕ) → v ≡ fresh n → w ≡ telling v 1 [] → w ≡ fresh 1
part_fresh v w n e h = h ∙ ap (λ (x : View). telling x 1 []) e

-- a pass that did nothing and gave away one of its parts is one that did nothing with a part less
pub rest_fresh : (v w : View) (n k : ℕ) → v ≡ fresh n → w ≡ keeping v (v.parts - 1) [] → n ≡ k + 1 → w ≡ fresh k
rest_fresh v w n k e h l =
    let d : n - 1 ≡ k = omega arith in
    h ∙ (ap (λ (x : View). keeping x (x.parts - 1) []) e ∙ ap (λ (x : ℕ). fresh x) d)

-- a pass that did nothing and has some parts has as many as each number equal to that
pub fresh_by : (v : View) (m n : ℕ) → v ≡ fresh m → m ≡ n → v ≡ fresh n
fresh_by v m n e h = e ∙ ap (λ (x : ℕ). fresh x) h

-- ---- the processors

-- a script that fits has at least one processor
pub some_cpus : (s : Script) → IsTrue (fits s) → 1 ≤ s.cpus
some_cpus s h = grind (arith, nat_tests)
