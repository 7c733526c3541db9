-- Processors and a floor before the first event.
use Rattle.std.proofs.Common.{arith, subst, sym}
use Rattle.std.specs.Prelude.{IsTrue, [], refl, ℕ, ◌*◌, ◌≡◌, ◌≤◌}
use Rattle.nt_event.specs.declared.limits.TheConstants.{EVENTS, TURNS}
use Rattle.nt_event.specs.declared.scripts.Script.{Script}
use Rattle.nt_event.specs.Script.{fits}
use Rattle.nt_floor.specs.Views.{IsOpening, View}
use Rattle.nt_cpu.specs.Runs.{Follows}
use Rattle.nt_cpus.specs.Following.{AreAfter, cpus_of}
use Rattle.nt_cpus.specs.States.{CpusState}

-- a floor on which nothing happened follows the empty history
pub opening_follows : (s : Script) (n : ℕ) (v : View) → IsOpening s n v → Follows s [] v
opening_follows s n v h = record {
  cpus = h.cpus;
  alone = h.alone;
  next = h.next;
  states = h.states;
  told = λ x q k b. h.told x q k b;
  value = λ q k b. h.value q k b;
  marked = λ n q k b. h.marked n q k b;
}

-- new processors and such a floor are as the empty history leaves them
pub start_after : (s : Script) (turns : ℕ) (c : CpusState) (floor : Script) (v : View) → IsTrue (fits s) → turns ≤ TURNS → s.cpus * turns ≤ EVENTS →
    c ≡ record { script = s; limit = turns; cpus = cpus_of s turns [] } → floor ≡ s → IsOpening s (s.cpus * turns) v → AreAfter [] c floor v
start_after s turns c floor v fit each all h e k = subst (λ (x : CpusState). AreAfter [] x floor v) (sym h) start
  where
    start : AreAfter [] (record { script = s; limit = turns; cpus = cpus_of s turns [] }) floor v
    start = record {
      script = fit;
      small = record { each = each; all = all };
      run = tt;
      every = refl;
      follows = opening_follows s (s.cpus * turns) v k;
      same = e;
      drawable = (let d = k.drawable in omega (arith, d));
    }
