use Rattle.nt_lab.proofs.Shown.{witness_fits}
use Rattle.nt_lab.proofs.Written.{witness_is_written}
use Rattle.nt_lab.proofs.witnessing.scheduled.Goals as goal

pub print_schedule-requires-clause-fit : goal.print_schedule-requires-clause-fit
print_schedule-requires-clause-fit c =
    let lead = c.requires.lead in
    witness_fits c.args.asked.now.input.script lead.0 c.args.schedule.now c.requires.fits lead.2

pub returns-in-Ok : goal.returns-in-Ok
returns-in-Ok c =
    let lead = c.requires.lead in (
      c.requires.number,
      witness_is_written c.args.asked.now c.args.number c.args.schedule.now c.in-Ok.text.items c.requires.sound c.read_looks.ensures
          (record { turns = c.args.turns.now; show = c.requires.show; history = lead.0; lead = lead.1; replay = lead.2 }) c.in-Ok.ensures,
    )
