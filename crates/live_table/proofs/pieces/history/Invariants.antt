use Rattle.nt_mark.specs.Names.{table_of}
use Rattle.live_table.proofs.pieces.history.Given as goal

abbrev pub ghosts-gathered-N-Plan : goal.ghosts-gathered-N-Plan
ghosts-gathered-N-Plan g a = record { script = a.script.now; turns = a.turns }

abbrev pub ghosts-gathered-N-Shared : goal.ghosts-gathered-N-Shared
ghosts-gathered-N-Shared g a = record { table = table_of a.made.marks }
