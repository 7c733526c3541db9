use Rattle.std.proofs.Common.{ap, sym, ◌∙◌}
use Rattle.std.specs.Prelude.{ℕ}
use Rattle.nt_frame.specs.Changes.{no_frames}
use Rattle.nt_cpu.specs.declared.keeping.Kept.{Kept}
use Rattle.nt_cpu.proofs.Dues.{none_due}
use Rattle.nt_cpu.proofs.Starts.{sound_start}
use Rattle.nt_cpu.proofs.cpu.Cpu.new.Goals as goal

pub invariant_of-result : goal.invariant_of-result
invariant_of-result c = record {
  sound = sound_start c.args.script.now c.args.cpu c.args.turns c.in_ok-new.field-0 c.new-2.result c.new-3.result c.requires.script c.requires.cpu
      c.requires.turns
      (c.in_ok-new.ensures.none ∙ ap (λ (n : ℕ). no_frames n) c.thread_count.ensures) c.new-2.ensures c.new-3.ensures;
  due = none_due _ _ (c.new-2.ensures ∙ sym (ap (λ (k : Kept). k.served) c.new-3.ensures));
}
