use Rattle.std.proofs.Common.{ℕ, ◌<◌, ◌≤◌, arith, sym, ap, ◌∙◌, subst}
use Rattle.nt_event.specs.declared.numbers.CpuNo.{CpuNo}
use Rattle.nt_mark.specs.Names.{cpus_of}
use Rattle.nt_mark.specs.Views.{request_word}
use Rattle.nt_mark.proofs.Asking.{looking}
use Rattle.nt_mark.proofs.marks.Marks.look_as.Goals as goal

pub load-requires : goal.load-requires
load-requires g c =
    let s = c.args.self.now in
    let w = c.requires.word in
    let e = c.requires.picked in
    let at = c.request_at.ensures in
    let class : g.D.Request.class ≤ 15 = subst (λ (n : ℕ). n ≤ 15) (sym e.1) w.1 in
    let cpu : g.D.Request.cpu.0 < cpus_of s = subst (λ (q : CpuNo). q.0 < cpus_of s) (sym e.0) w.0 in
    let word = at ∙ (ap (λ (q : CpuNo). request_word q c.args.class) (sym e.0) ∙ ap (request_word g.D.Request.cpu) (sym e.1)) in (
      c.requires.table,
      (let k = s.wide in let a = w.0 in let b = w.1 in omega arith),
      looking _ _ _ _ g.D.Request.cpu g.D.Request.class _ word cpu class,
    )
