use Rattle.std.proofs.Common.{refl}
use Rattle.nt_event.specs.declared.events.Rises.{Rises}
use Rattle.nt_event.specs.Acts.{acted_of}
use Rattle.nt_plain.specs.Made.{found_of, told_values}
use Rattle.nt_plain.proofs.Acts.{is_acted, is_moved, is_told}
use Rattle.nt_plain.proofs.floor.PlainFloorFloor.act.Goals as goal

pub returns-in-Err-clause-cause : goal.returns-in-Err-clause-cause
returns-in-Err-clause-cause c =
    (found_of c.args.self.now, tt, (refl, c.in-Err.ensures.refused (found_of c.args.self.now) refl))

pub returns-in-Ok-clause-event : goal.returns-in-Ok-clause-event
returns-in-Ok-clause-event c =
    let f = c.args.self.now in
    let st = c.args.stand.now in
    let w = c.decide.new.into in
    let e = c.make.new.event in
    let m = c.make.ensures in
    let told : Rises = record { value = told_values f st w } in (
      found_of f,
      told,
      tt,
      (
        is_acted f st c.args.job.now w (acted_of c.make.result e told) c.in-Ok.ensures.event c.kinds.ensures m.number m.event m.due m.due_fits refl,
        (
          is_moved f c.make.new.self st w c.make.result.number e c.kept.ensures c.requires.room m.lanes_named m.asks_named m.number m.event m.state,
          record {
            seen = m.seen;
            known = is_told f c.make.new.self st w told.value c.kept.ensures c.requires.stand.cpu m.asks_named m.state refl;
          },
        ),
      ),
    )
