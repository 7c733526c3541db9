use Rattle.std.proofs.Common.{Option, ap, arith, get_or, length, option_and_then, ℕ, ◌≡◌, ◌∙◌}
use Rattle.std.specs.Prelude.{List}
use Rattle.nt_event.specs.declared.numbers.CpuNo.{CpuNo}
use Rattle.nt_event.specs.Own.{Own, own_of}
use Rattle.nt_event.specs.Regions.{stand_of}
use Rattle.nt_event.specs.Step.{cpu_at}
use Rattle.nt_cpu.specs.States.{CpuState}
use Rattle.nt_search.proofs.Machines.{cpu_own, cpu_within}
use Rattle.nt_search.proofs.machine.Machine.due_again.Goals as goal

-- when the wait that a processor would begin again is due, if it has one
due_in : CpuNo → Own → Option ℕ
due_in p x = option_and_then (λ w. w.due) (stand_of p x.frames x.sweep).again

pub returns-in-Some : goal.returns-in-Some
unfolding due_in
returns-in-Some c s limit watched past h has =
    let p = c.cpu-number.result in
    let number : p ≡ cpu_at c.args.turn.now = c.cpu-number.ensures in
    let q = cpu_at c.args.turn.now in
    let m = c.args.self.now in
    let item = c.in-Some.cpu.now in
    let place : c.from.result ≡ q.0 = c.from.ensures ∙ ap (λ (r : CpuNo). r.0) number in
    let read : item ≡ get_or m.processors.cpus q.0 item =
    c.in-Some.ensures.lookup.1 ∙ ap (λ (xs : List CpuState). get_or xs c.from.result item) c.cpus.ensures
    ∙ ap (λ (n : ℕ). get_or m.processors.cpus n item) place in
    let own : item.own ≡ own_of s q past = ap (λ (x : CpuState). x.own) read ∙ cpu_own s limit watched past m h q item has in
    c.due_of.ensures ∙ ap (due_in p) own ∙ ap (λ (r : CpuNo). due_in r (own_of s q past)) number

pub returns-in-None : goal.returns-in-None
returns-in-None c s limit watched past h has =
    let beyond = c.in-None.ensures.lookup.3 in
    let within = cpu_within s limit watched past c.args.self.now h (cpu_at c.args.turn.now) has in
    let from = c.from.ensures in
    let number = ap (λ (p : CpuNo). p.0) c.cpu-number.ensures in
    let same = ap length c.cpus.ensures in
    absurd (omega (arith, beyond, within, from, number, same))
