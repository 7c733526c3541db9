-- A new floor, as contracts see it.
use Rattle.std.proofs.Common.{ap, arith}
use Rattle.std.specs.Prelude.{Some, refl, ℕ, ◌*◌}
use Rattle.nt_event.specs.declared.scripts.Script.{Script}
use Rattle.nt_event.specs.Lanes.{Lanes}
use Rattle.nt_floor.specs.Views.{IsOpening}
use Rattle.nt_plain.specs.States.{IsFresh, PlainState, view_of}

-- contracts see a fresh floor as one on which nothing has happened
pub fresh_opening : (s : Script) (turns : ℕ) (f : PlainState) → IsFresh s turns f → IsOpening s (s.cpus * turns) (view_of f)
fresh_opening s turns f h = record {
  cpus = ap (λ (x : Script). x.cpus) h.script;
  alone = refl;
  drawable = (let l = h.limit in let n = h.next in omega (arith, l, n));
  next = h.next;
  states = ap (λ (l : Lanes). Some l) h.lanes;
  told = λ x p c b. h.told x p c b;
  value = λ p c b. h.value p c b;
  marked = λ n p c b. h.marked n p c b;
}
