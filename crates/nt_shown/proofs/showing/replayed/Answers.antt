use Rattle.std.specs.Prelude.{reverse}
use Rattle.nt_core.proofs.Replaying.{replays_run}
use Rattle.nt_shown.proofs.showing.replayed.Goals as goal

pub returns-in-Ok-clause-ok : goal.returns-in-Ok-clause-ok
returns-in-Ok-clause-ok c =
    let h = c.in-Ok.history in
    let w = c.args.schedule.now in
    let ran = replays_run c.args.input.now.script w.turns w.list (reverse h.events) c.in-Ok.ensures.ok in
    record {
      settled = rw (c.in-Ok.ensures.turns) (record { run = ran.run; settled = ran.settled });
      limit = c.in-Ok.ensures.turns;
      replay = c.in-Ok.ensures.ok;
    }

pub returns-in-Ok-clause-whole : goal.returns-in-Ok-clause-whole
returns-in-Ok-clause-whole c =
    let h = c.in-Ok.history in
    let w = c.args.schedule.now in
    let ran = replays_run c.args.input.now.script w.turns w.list (reverse h.events) c.in-Ok.ensures.ok in
    rw (c.in-Ok.ensures.turns) (record { limit = c.requires.limit; settled = record { run = ran.run; settled = ran.settled } })
