use Rattle.nt_load.proofs.Numbers.{after_both}
use Rattle.nt_load.proofs.commands.add_command.Goals as goal

pub returns-clause-moved : goal.returns-clause-moved
returns-clause-moved c =
    rw (c.add_fields.ensures.moved, c.draw_row-row.ensures.moved, c.draw_row-row.ensures.value) (after_both _ 1 _)
