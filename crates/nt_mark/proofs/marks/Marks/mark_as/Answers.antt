use Rattle.std.proofs.Common.{ℕ, ◌+◌, ◌%◌, ◌<◌, ◌≤◌, arith, sym, ap, ◌∙◌, subst}
use Rattle.nt_event.specs.declared.numbers.CpuNo.{CpuNo}
use Rattle.nt_mark.specs.declared.view.Entry.{Entry}
use Rattle.nt_mark.specs.Names.{cpus_of, pass_view}
use Rattle.nt_mark.specs.Views.{request_word}
use Rattle.nt_mark.proofs.Sums.{with_number}
use Rattle.nt_mark.proofs.Asking.{marking}
use Rattle.nt_mark.proofs.marks.Marks.mark_as.Goals as goal

pub fetch_max-requires : goal.fetch_max-requires
fetch_max-requires g c =
    let s = c.args.self.now in
    let w = c.requires.word in
    let e = c.requires.picked in
    let d = with_number (λ (x : Entry). x.number) c.args.n (pass_view c.args.pass.now).entries c.requires.drew in
    let at = c.request_at.ensures in
    let class : g.D.Request.class ≤ 15 = subst (λ (n : ℕ). n ≤ 15) (sym e.1) w.1 in
    let cpu : g.D.Request.cpu.0 < cpus_of s = subst (λ (q : CpuNo). q.0 < cpus_of s) (sym e.0) w.0 in
    let word = at ∙ (ap (λ (q : CpuNo). request_word q c.args.class) (sym e.0) ∙ ap (request_word g.D.Request.cpu) (sym e.1)) in (
      c.requires.table,
      (let k = s.wide in let a = w.0 in let b = w.1 in omega arith),
      marking _ _ _ _ g.D.Request.cpu g.D.Request.class g.D.Request.number _ _ word (ap (λ (n : ℕ). (n + 1) % 18446744073709551616) (sym e.2)) cpu class
          (d.0, d.1, d.2 ∙ sym e.2),
    )
