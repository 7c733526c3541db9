use Rattle.std.proofs.Common.{◌∙◌, ◌≡◌, List, ap, arith, sym, true, false}
use Rattle.nt_event.specs.declared.events.Event.{Event}
use Rattle.nt_history.proofs.Lists.{as_many}
use Rattle.nt_work.specs.declared.change.Change.{Change}
use Rattle.nt_work.specs.Audits.{lent}
use Rattle.nt_work.specs.Changes.{change_at, thing_of, uses}
use Rattle.nt_work.proofs.Walks.{fate_first, used_up, waits_more}
use Rattle.nt_work.proofs.waiting.waits_until.Goals as goal

pub loop-number-init : goal.loop-number-init
loop-number-init c =
    let many = as_many c.args.events.now.briefs.now c.args.events.now.rises.now in
    let x = c.args.insert.now in
    record {
      waits = fate_first (lent c.args.events.now) (thing_of x.object) x.number (omega (arith, many, c.requires.number, c.requires.end));
      later = omega arith;
      within = omega (arith, c.requires.number);
    }

pub returns-then-uses_up : goal.returns-then-uses_up
returns-then-uses_up c =
    let many = as_many c.args.events.now.briefs.now c.args.events.now.rises.now in
    let x = c.args.insert.now in
    let events : List Event = lent c.args.events.now in
    let used : uses (change_at events c.loop-number.number) (thing_of x.object) x.number ≡ true =
    ap (λ (ch : Change). uses ch (thing_of x.object) x.number) (sym c.change_at.ensures) ∙ sym c.uses_up.ensures ∙ c.if-uses_up.true in
    sym (used_up events (thing_of x.object) x.number c.loop-number.number c.args.end c.loop-number.invariant.later c.loop-number-test.true
    (omega (arith, many, c.requires.end)) used)

pub loop-number-preserved : goal.loop-number-preserved
loop-number-preserved c =
    let many = as_many c.args.events.now.briefs.now c.args.events.now.rises.now in
    let x = c.args.insert.now in
    let events : List Event = lent c.args.events.now in
    let not_used : uses (change_at events c.loop-number.number) (thing_of x.object) x.number ≡ false =
    ap (λ (ch : Change). uses ch (thing_of x.object) x.number) (sym c.change_at.ensures) ∙ sym c.uses_up.ensures ∙ c.if-uses_up.false in
    record {
      waits =
          waits_more events (thing_of x.object) x.number c.loop-number.number c.loop-number.invariant.later
          (omega (arith, many, c.loop-number-test.true, c.requires.end)) c.loop-number.invariant.waits not_used;
      later = omega (arith, c.loop-number.invariant.later);
      within = omega (arith, c.loop-number-test.true);
    }
