use Rattle.nt_mark.specs.Names.{table_of}
use Rattle.live_table.proofs.lanes.turned_beside.Given as goal

abbrev pub ghosts-turn_beside-N-Plan : goal.ghosts-turn_beside-N-Plan
ghosts-turn_beside-N-Plan g a = record { script = a.script.now; turns = a.turns }

abbrev pub ghosts-turn_beside-N-Shared : goal.ghosts-turn_beside-N-Shared
ghosts-turn_beside-N-Shared g a = record { table = table_of a.made.marks }
