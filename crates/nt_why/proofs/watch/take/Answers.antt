use Rattle.std.proofs.Common.{ap, List, subst, sym, ◌∙◌}
use Rattle.std.specs.Prelude.{Some}
use Rattle.nt_event.specs.declared.events.Event.{Event}
use Rattle.nt_history.specs.Briefs.{events_in}
use Rattle.nt_plain.specs.States.{view_of}
use Rattle.nt_cpus.specs.Following.{AreAfter}
use Rattle.nt_why.specs.Past.{past_at}
use Rattle.nt_why.proofs.Walks.{event_at, legal_at, not_refused, past_more, same_made}
use Rattle.nt_why.proofs.watch.take.Goals as goal

pub unreachable-requires : goal.unreachable-requires
unreachable-requires c =
    let p = c.args.processors.now in
    let n = c.args.number in
    let events = events_in c.args.events.now.briefs.now c.args.events.now.rises.now in
    let at = event_at _ c.turn-turn.result c.turn-turn.ensures in
    let past = past_at n events in
    not_refused p.script p.limit past at.0 c.turn-turn.result _ (legal_at p.script p.limit events n at.0 c.requires.run at.1.0) at.1.1
    (c.in-Err.ensures.err past c.requires.after)

pub returns-clause-after : goal.returns-clause-after
returns-clause-after c =
    let p = c.args.processors.now in
    let n = c.args.number in
    let q = c.turn-taken.new in
    let events = events_in c.args.events.now.briefs.now c.args.events.now.rises.now in
    let at = event_at _ c.turn-turn.result c.turn-turn.ensures in
    let past = past_at n events in
    let made = c.in-Ok.ensures.ok past c.requires.after in
    let same = same_made p.script p.limit past at.0 q.event c.turn-turn.result (legal_at p.script p.limit events n at.0 c.requires.run at.1.0) at.1.1 made.0 in
    subst (λ (past : List Event). AreAfter past q.self q.floor.script (view_of q.floor))
    (sym (past_more events n q.event (at.1.0 ∙ ap (λ (e : Event). Some e) same))) made.1
