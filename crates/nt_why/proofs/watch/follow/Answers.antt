use Rattle.std.proofs.Common.{arith, subst, sym, reverse, ◌∙◌, ◌<◌, length, ℕ}
use Rattle.nt_event.specs.declared.scripts.Script.{Script}
use Rattle.nt_event.specs.Step.{IsRun}
use Rattle.nt_history.specs.Briefs.{events_in}
use Rattle.nt_history.proofs.Lists.{as_many}
use Rattle.nt_why.proofs.Walks.{since_step}
use Rattle.nt_why.proofs.watch.follow.Goals as goal

pub take-requires-clause-run : goal.take-requires-clause-run
take-requires-clause-run c =
    let i = c.loop-number.invariant in
    let events = events_in c.args.events.now.briefs.now c.args.events.now.rises.now in
    subst (λ (x : Script). IsRun x c.loop-number.processors.limit (reverse events)) (sym i.script)
    (subst (λ (m : ℕ). IsRun c.args.processors.now.script m (reverse events)) (sym i.limit) c.requires.run)

pub loop-number-preserved : goal.loop-number-preserved
loop-number-preserved c =
    let i = c.loop-number.invariant in
    let p = c.loop-number.processors in
    let q = c.take.new.processors in
    let n = c.loop-number.number in
    let t = c.take.ensures in
    let briefs = c.args.events.now.briefs.now in
    let rises = c.args.events.now.rises.now in
    let events = events_in briefs rises in
    let many = as_many briefs rises in
    let lt : n < length events = omega (arith, many, c.loop-number-test.true, c.requires.end) in
    let before = c.key_of-now.ensures _ t.after in
    record {
      after = t.after;
      before = before;
      so = since_step p.script q.script c.args.watch.now events n _ _ _ _ lt t.script i.before before i.so c.since_after-since.ensures;
      script = t.script ∙ i.script;
      limit = t.limit ∙ i.limit;
      within = omega (arith, c.loop-number-test.true);
    }
