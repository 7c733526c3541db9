use Rattle.std.proofs.Common.{List, ap, arith, get_or, length, sym, ◌<◌, ◌∙◌, ◌≡◌}
use Rattle.std.proofs.lemmas.List.{get_or_default}
use Rattle.nt_cpu.specs.States.{CpuState}
use Rattle.nt_mark.specs.Names.{pass_view}
use Rattle.nt_live.specs.Teams.{HasNoMore}
use Rattle.nt_live.proofs.Looks.{looks_through, one_done}
use Rattle.nt_live.proofs.team.Team.has_no_more.Goals as goal

pub loop-p-preserved : goal.loop-p-preserved
loop-p-preserved c =
    let i = c.loop-p.invariant in
    let v = pass_view c.args.self.now.pass in
    let u = pass_view c.loop-p.self.pass in
    let w = pass_view c.has_no_more.new.pass in
    let cpus = c.args.self.now.cpus.items in
    let len = c.len-p-end.ensures in
    let b = c.loop-p-test.true in
    let within : c.loop-p.p < length cpus = omega (arith, len, b) in
    let same : (d : CpuState) → get_or cpus c.loop-p.p d ≡ c.index.result.now =
    λ d. get_or_default cpus c.loop-p.p d c.index.result.now within
    ∙ (ap (λ (xs : List CpuState). get_or xs c.loop-p.p c.index.result.now) (sym i.cpus) ∙ sym c.index.ensures) in
    let more : HasNoMore c.args.turns u c.index.result.now = c.has_no_more.ensures.more c.if-not-has_no_more.false in
    record {
      table = c.has_no_more.ensures.table ∙ i.table;
      cpus = i.cpus;
      lists = i.lists;
      looked = looks_through v u w i.looked c.has_no_more.ensures.looked;
      done = one_done c.args.turns v u cpus c.loop-p.p c.index.result.now within same i.looked more i.done;
    }

pub returns-clause-more : goal.returns-clause-more
returns-clause-more c t k d l =
    let i = c.loop-p.invariant in
    let len = c.len-p-end.ensures in
    let b = c.loop-p-test.false in
    i.done k d (omega (arith, len, b, l))
