-- A processor that made nothing, with a pass that knows nothing.
use Rattle.std.proofs.Common.{subst, sym}
use Rattle.std.specs.Prelude.{Some, [], refl, ◌≡◌, ◌≤◌, ℕ}
use Rattle.nt_cpu.specs.States.{CpuState}
use Rattle.nt_cpu.specs.Turns.{Serves}
use Rattle.nt_event.specs.declared.scripts.Script.{Script}
use Rattle.nt_event.specs.Numbers.{cpu}
use Rattle.nt_lane.specs.Views.{words_of}
use Rattle.nt_mark.specs.declared.marks.Marks.{Marks}
use Rattle.nt_mark.specs.declared.seats.Pass.{Pass}
use Rattle.nt_mark.specs.Names.{cpus_of, limit_of, pass_table, pass_view}
use Rattle.nt_live.specs.Prepared.{fresh, new_worker}
use Rattle.nt_live.specs.Turning.{IsSeated}
use Rattle.nt_live.specs.Workers.{IsWorker}
use Rattle.nt_live.proofs.Boarding.{new_is_worker}
use Rattle.nt_live.proofs.Turning.{serves_at_work}

-- the words of a pass serve the processor of a worker that stands
served : (s : Script) (limit : ℕ) (m : Marks) (c : CpuState) (p : Pass) → cpus_of m ≡ s.cpus → limit_of m ≡ limit →
    IsWorker (pass_table p) s limit c (Some p) [] → Serves c (words_of m (pass_view p))
served s limit m c p cpus few w =
    let e : p ≡ w.here = let h = w.pass_is in cc in
    subst (λ (x : Pass). Serves c (words_of m (pass_view x))) (sym e)
    (serves_at_work s limit m c (pass_view w.here) cpus few w.work w.knows)

-- the words serve processor 0 before its first turn
pub served_first : (s : Script) (limit : ℕ) (m n : Marks) (c : CpuState) (p q : Pass) → 1 ≤ s.cpus →
    c ≡ (new_worker s limit (cpu 0)).cpu → cpus_of m ≡ s.cpus → limit_of m ≡ limit → pass_view p ≡ fresh 1 → q ≡ p → n ≡ m →
    Serves c (words_of n (pass_view q))
served_first s limit m n c p q some new cpus few nothing same marks =
    subst (λ (x : Marks). Serves c (words_of x (pass_view q))) (sym marks)
    (subst (λ (x : Pass). Serves c (words_of m (pass_view x))) (sym same)
    (served s limit m c p cpus few (new_is_worker (pass_table p) s limit (cpu 0) c p some new refl nothing)))

-- its pass is what its events, none, made of it
pub seated_first : (s : Script) (limit : ℕ) (c : CpuState) (p : Pass) → 1 ≤ s.cpus → c ≡ (new_worker s limit (cpu 0)).cpu → pass_view p ≡ fresh 1 →
    IsSeated (pass_table p) s limit c p
seated_first s limit c p some new nothing =
    let w = new_is_worker (pass_table p) s limit (cpu 0) c p some new refl nothing in
    let e : p ≡ w.here = let h = w.pass_is in cc in
    subst (λ (x : Pass). IsSeated (pass_table p) s limit c x) (sym e) (record { at = w.at; listed = w.listed; work = w.work; knows = w.knows })
