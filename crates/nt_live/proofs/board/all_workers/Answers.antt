use Rattle.std.proofs.Common.{ap, arith, subst, sym, ◌∙◌}
use Rattle.std.specs.Prelude.{List, length, ℕ, ◌+◌, ◌-◌, ◌≡◌}
use Rattle.nt_event.specs.declared.scripts.Script.{Script}
use Rattle.nt_event.specs.Numbers.{cpu}
use Rattle.nt_mark.specs.declared.view.View.{View}
use Rattle.nt_mark.specs.Names.{pass_view}
use Rattle.nt_live.specs.Prepared.{new_worker}
use Rattle.nt_live.specs.Workers.{WorkerState}
use Rattle.nt_live.proofs.Boarding.{AreFirst, all_opened, fresh_by, none_first, one_first, part_fresh, rest_fresh, some_cpus}
use Rattle.nt_live.proofs.board.all_workers.Goals as goal

pub loop-p-init : goal.loop-p-init
loop-p-init g c = record {
  at = c.requires.table.1;
  pass = fresh_by (pass_view c.args.pass) c.args.script.now.cpus (c.args.script.now.cpus - 0) c.requires.pass (omega arith);
  first = subst (λ (ws : List WorkerState). AreFirst g.N.Plan.script g.N.Plan.turns 0 ws) (sym c.in_ok-workers.ensures.items)
      (none_first g.N.Plan.script g.N.Plan.turns);
  room = let a = c.in_ok-workers.ensures.capacity in let b = c.from.ensures in omega arith;
}

pub split-part-requires-clause-parts : goal.split-part-requires-clause-parts
split-part-requires-clause-parts g c =
    let a = ap (λ (v : View). v.parts) c.loop-p.invariant.pass in
    let b = c.loop-p-test.true in
    omega arith

pub split-part-requires-clause-room : goal.split-part-requires-clause-room
split-part-requires-clause-room g c =
    let a = ap (λ (v : View). length v.entries) c.loop-p.invariant.pass in
    omega arith

pub new-requires-clause-pass : goal.new-requires-clause-pass
new-requires-clause-pass g c =
    let s = c.split-part in
    let i = c.loop-p.invariant in (
      s.ensures.table.1 ∙ i.at,
      part_fresh (pass_view c.loop-p.pass) (pass_view s.result) (c.args.script.now.cpus - c.loop-p.p) i.pass s.ensures.new,
    )

pub push_reserved-requires : goal.push_reserved-requires
push_reserved-requires g c =
    let a = c.loop-p.invariant.first.count in
    let b = c.loop-p.invariant.room in
    let d = c.loop-p-test.true in
    omega arith

pub loop-p-preserved : goal.loop-p-preserved
loop-p-preserved g c =
    let s = g.N.Plan.script in
    let limit = g.N.Plan.turns in
    let n = c.args.script.now.cpus in
    let p = c.loop-p.p in
    let i = c.loop-p.invariant in
    let t = c.loop-p-test.true in
    record {
      at = c.split-part.ensures.table.0 ∙ i.at;
      pass = rest_fresh (pass_view c.loop-p.pass) (pass_view c.split-part.new.pass) (n - p) (n - (p + 1)) i.pass c.split-part.ensures.old (omega arith);
      first = subst (λ (ws : List WorkerState). AreFirst s limit (p + 1) ws) (sym c.push_reserved.ensures.items)
          (one_first s limit p c.loop-p.workers.items c.in_ok-new.field-0 i.first c.in_ok-new.ensures);
      room = let a = c.push_reserved.ensures.capacity in let b = i.room in omega arith;
    }

pub new-requires-2-clause-pass : goal.new-requires-2-clause-pass
new-requires-2-clause-pass g c =
    let n = c.args.script.now.cpus in
    let p = c.loop-p.p in
    let i = c.loop-p.invariant in
    let a = some_cpus c.args.script.now c.requires.script.1 in
    let b = c.loop-p-test.false in
    let d = c.loop-p.auto.p-end in
    let one : n - p ≡ 1 = omega arith in
    (i.at, fresh_by (pass_view c.loop-p.pass) (n - p) 1 i.pass one)

pub push_reserved-requires-2 : goal.push_reserved-requires-2
push_reserved-requires-2 g c =
    let a = c.loop-p.invariant.first.count in
    let b = c.loop-p.invariant.room in
    let d = some_cpus c.args.script.now c.requires.script.1 in
    let e = c.loop-p.auto.p-end in
    omega arith

pub returns : goal.returns
returns g c =
    let s = g.N.Plan.script in
    let limit = g.N.Plan.turns in
    let n = c.args.script.now.cpus in
    let p = c.loop-p.p in
    let b = c.loop-p-test.false in
    let d = c.loop-p.auto.p-end in
    let some = some_cpus c.args.script.now c.requires.script.1 in
    let same : n - 1 ≡ p = omega arith in
    let all : p + 1 ≡ s.cpus = (let e : p + 1 ≡ n = omega arith in e ∙ ap (λ (x : Script). x.cpus) c.requires.script.0) in
    let is : c.in_ok-new-2.field-0 ≡ new_worker s limit (cpu p) = c.in_ok-new-2.ensures ∙ ap (λ (x : ℕ). new_worker s limit (cpu x)) same in
    let last : AreFirst s limit (p + 1) c.push_reserved-2.new.self.items =
    subst (λ (ws : List WorkerState). AreFirst s limit (p + 1) ws) (sym c.push_reserved-2.ensures.items)
    (one_first s limit p c.loop-p.workers.items c.in_ok-new-2.field-0 c.loop-p.invariant.first is) in
    all_opened s limit (p + 1) c.push_reserved-2.new.self.items last all
