use Rattle.std.proofs.Common.{ap, arith, sym, ◌+◌, ◌∙◌, ℕ}
use Rattle.nt_event.proofs.Tables.{table_grown, table_none}
use Rattle.nt_cpus.proofs.processors.Processors.new.Goals as goal

pub loop-cpu-init : goal.loop-cpu-init
loop-cpu-init c = record {
  items = c.in_ok-cpus.ensures.items ∙ sym (table_none _);
  len = c.in_ok-cpus.ensures.len;
  room = c.in_ok-cpus.ensures.capacity;
}

pub loop-cpu-preserved : goal.loop-cpu-preserved
loop-cpu-preserved c =
    let i = c.loop-cpu.invariant in
    let e = c.push_reserved.ensures in
    record {
      items = table_grown c.loop-cpu.cpu _ _ _ _ e.items i.items c.in_ok-new.ensures;
      len = e.len ∙ ap (λ (n : ℕ). n + 1) i.len;
      room = (let a = e.capacity in let r = i.room in omega (arith, a, r));
    }
