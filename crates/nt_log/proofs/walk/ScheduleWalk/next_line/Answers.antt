use Rattle.std.proofs.Common.{List, ap, sym, ◌∙◌}
use Rattle.nt_event.specs.declared.events.Turn.{Turn}
use Rattle.nt_log.specs.declared.walk.ScheduleWalk.{ScheduleWalk}
use Rattle.nt_log.proofs.TurnRows.{next_line_read, ok}
use Rattle.nt_log.proofs.walk.ScheduleWalk.next_line.Goals as goal

pub returns-in-Some : goal.returns-in-Some
returns-in-Some c =
    let some = c.in-Some.ensures.some in
    let w : ScheduleWalk = c.args.self.now in
    let room = c.has_room.ensures.0 c.if-has_room.true in (
      _,
      some.1,
      next_line_read c.args.cpus c.args.input.now w c.in-Some.cpu some.0.0 some.0.1 room.0 room.1
          ∙ ap (λ (l : List Turn). ok (record w { schedule = record (w.schedule) { list = l } })) (sym c.in_ok-push.ensures.ok),
    )
