use Rattle.nt_mark.specs.Names.{table_of}
use Rattle.live_table.proofs.lanes.held_beside.Given as goal

abbrev pub ghosts-hold_beside-N-Plan : goal.ghosts-hold_beside-N-Plan
ghosts-hold_beside-N-Plan g a = record { script = a.script.now; turns = a.turns }

abbrev pub ghosts-hold_beside-N-Shared : goal.ghosts-hold_beside-N-Shared
ghosts-hold_beside-N-Shared g a = record { table = table_of a.marks.now }
