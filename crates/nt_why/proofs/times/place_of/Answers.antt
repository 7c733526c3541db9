use Rattle.std.proofs.Common.{ap, subst, sym, ◌∙◌, ℕ}
use Rattle.std.specs.Prelude.{nat_le}
use Rattle.nt_event.specs.declared.events.Turn.TheVariants.{Next}
use Rattle.nt_event.specs.declared.numbers.CpuNo.{CpuNo}
use Rattle.nt_event.specs.declared.scripts.Script.{Script}
use Rattle.nt_event.specs.Jobs.{level_at}
use Rattle.nt_event.specs.Own.{own_of}
use Rattle.nt_event.specs.Step.{step}
use Rattle.nt_cpu.specs.States.{CpuState}
use Rattle.nt_why.specs.declared.watch.Watch.TheVariants as watch
use Rattle.nt_why.specs.Courses.{past_on}
use Rattle.nt_why.specs.Lined.{IsWhat}
use Rattle.nt_why.specs.Says.{top_of}
use Rattle.nt_why.specs.Watches.{since}
use Rattle.nt_why.proofs.Courses.{is_on}
use Rattle.nt_why.proofs.times.place_of.Goals as goal

pub returns : goal.returns
returns c =
    let q = c.args.course.now in
    let p = c.args.p in
    let s = q.script.now in
    let past = past_on q in
    let n = c.follow-since.new.processors in
    let t = c.follow-since.ensures in
    let on =
    is_on q p n c.follow-since.new.floor _ t.after (t.script ∙ c.requires.script) (t.limit ∙ c.requires.limit) c.requires.cpu
    (c.cpu_of-cpu.ensures _ t.after.every) in
    let stood = c.stood-stood.ensures in
    let next = c.next_of.result in
    record {
      is = stood.cpu;
      stands = record {
        level =
            ap (λ (z : CpuNo). level_at (own_of s z past)) stood.cpu
            ∙ sym (stood.level ∙ ap (λ (x : CpuState). level_at x.own) on.cpu);
        top =
            ap (λ (z : CpuNo). top_of (own_of s z past).frames) stood.cpu
            ∙ sym (stood.top ∙ ap (λ (x : CpuState). top_of x.own.frames) on.cpu);
        since =
            ap (λ (z : CpuNo). since s (watch.Stand z) past) stood.cpu
            ∙ sym (stood.since ∙ t.since ∙ ap (λ (z : Script). since z (watch.Stand p) past) c.requires.script);
      };
      sweeps = sym (c.owes_sweep-owes.ensures ∙ ap (λ (x : CpuState). x.own.sweep) on.cpu);
      ends = sym (ap (λ (m : ℕ). nat_le q.turns m) (c.made.ensures ∙ ap (λ (x : CpuState). x.own.made) on.cpu));
      comes =
          subst (λ (m : ℕ). IsWhat (step s m (Next p) past) next) (t.limit ∙ c.requires.limit)
          (subst (λ (x : Script). IsWhat (step x n.limit (Next p) past) next) (t.script ∙ c.requires.script) (c.next_of.ensures past t.after));
    }
