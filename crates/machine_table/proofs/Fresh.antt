-- A processor and a floor on which nothing happened.
use Rattle.std.proofs.Common.{arith, subst, sym}
use Rattle.std.proofs.Math.Nat.{one-le-mul}
use Rattle.std.specs.Prelude.{[], ℕ, ◌*◌, ◌<◌, ◌≡◌, ◌≤◌}
use Rattle.nt_event.specs.declared.scripts.Script.{Script}
use Rattle.nt_event.specs.Numbers.{cpu}
use Rattle.nt_cpu.specs.Runs.{state_of}
use Rattle.nt_cpu.specs.States.{CpuState}
use Rattle.nt_cpu.specs.Turns.{Serves}
use Rattle.nt_cpu.proofs.CoreSteps.{serves_run}
use Rattle.nt_plain.specs.States.{IsFresh, PlainState, view_of}
use Rattle.nt_plain.proofs.Openings.{fresh_opening}
use Rattle.nt_cpus.proofs.Starting.{opening_follows}

-- the floor serves the first processor
pub fresh_serves : (s : Script) (turns : ℕ) (c : CpuState) (f : PlainState) → 1 ≤ turns → 0 < s.cpus → c ≡ state_of s (cpu 0) turns [] → IsFresh s turns f →
    Serves c (view_of f)
fresh_serves s turns c f h b e k =
    subst (λ (x : CpuState). Serves x (view_of f)) (sym e)
    (serves_run s turns (cpu 0) [] (view_of f) tt b (opening_follows s (s.cpus * turns) (view_of f) (fresh_opening s turns f k)) (λ _. some))
  where
    some : 1 ≤ (view_of f).drawable
    some =
        let d = (fresh_opening s turns f k).drawable in
        let p : 1 ≤ s.cpus * turns = one-le-mul b h in
        omega (arith, d, p)
