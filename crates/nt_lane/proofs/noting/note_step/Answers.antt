use Rattle.std.proofs.Common.{subst}
use Rattle.std.specs.Prelude.{List}
use Rattle.nt_event.specs.Requests.{Ask}
use Rattle.nt_mark.specs.Names.{pass_view}
use Rattle.nt_lane_record.specs.Records.{IsNoted, told_then}
use Rattle.nt_lane.specs.Steps.{note_left}
use Rattle.nt_lane.proofs.noting.note_step.Goals as goal

pub returns-clause-noted : goal.returns-clause-noted
returns-clause-noted g c =
    let s = g.N.Plan.script in
    let old = c.args.log.now in
    let n = c.args.step.now.number in
    let left = g.S.Holds.content c.args.content.now in
    subst (λ (asks : List Ask). IsNoted old c.note.new.self (pass_view c.args.pass.now) (pass_view c.note.new.pass) (note_left s n asks left old)
    (told_then s.cpus n asks old.told)) c.as_slice-2.ensures c.note.ensures.noted
