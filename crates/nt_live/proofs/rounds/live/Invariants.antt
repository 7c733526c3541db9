use Rattle.nt_mark.specs.Names.{table_of}
use Rattle.nt_live.proofs.rounds.live.Given as goal

abbrev pub ghosts-live_of-N-Plan : goal.ghosts-live_of-N-Plan
ghosts-live_of-N-Plan g a = record { script = a.script.now; turns = a.turns }

abbrev pub ghosts-live_of-N-Shared : goal.ghosts-live_of-N-Shared
ghosts-live_of-N-Shared g a = record { table = table_of a.made.marks }
