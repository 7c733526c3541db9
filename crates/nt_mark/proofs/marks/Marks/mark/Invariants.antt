use Rattle.nt_mark.proofs.marks.Marks.mark.Given as goal

abbrev pub ghosts-mark_as : goal.ghosts-mark_as
ghosts-mark_as a = record { cpu = a.p; class = a.class; number = a.n }
