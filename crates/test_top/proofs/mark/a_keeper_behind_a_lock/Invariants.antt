use Rattle.nt_mark.specs.Names.{table_of}
use Rattle.test_top.proofs.mark.a_keeper_behind_a_lock.Given as goal

abbrev pub ghosts-act_on_threads : goal.ghosts-act_on_threads
ghosts-act_on_threads g a = record { table = table_of a.marks.now }
