use Rattle.std.proofs.Common.{ap, max, ◌∙◌}
use Rattle.std.specs.Prelude.{List, length, ℕ}
use Rattle.nt_event.specs.Lists.{table, value_at}
use Rattle.nt_event.proofs.Tables.{length-table_from}
use Rattle.nt_cpu.specs.Insides.{state_in}
use Rattle.nt_cpu.specs.Notices.{notice_of}
use Rattle.nt_cpu.specs.States.{CpuState}
use Rattle.nt_cpu.proofs.Taken.{sound_seen}
use Rattle.nt_cpu.proofs.cpu.Cpu.notice.Goals as goal

pub invariant_of-self : goal.invariant_of-self
invariant_of-self c = record {
  sound = sound_seen (state_in c.self.inside) c.raise-interrupts.new.seen c.self.invariant.sound
      (ap (λ (xs : List ℕ). length xs) c.raise-interrupts.ensures.values ∙ length-table_from 0 16 _);
  due = c.renew_due.ensures;
}

pub returns : goal.returns
returns c =
    let i : CpuState = state_in c.self.inside in
    ap (λ (xs : List ℕ). record i { own = record i.own { seen = xs } }) c.raise-interrupts.ensures.values
    ∙ ap (λ (x : CpuState). record x {
      own = record x.own { seen = table 16 (λ k. max (value_at x.own.seen k) (notice_of c.args.notice.now k)) };
    }) c.self.view_is
