use Rattle.nt_mark.proofs.marks.Marks.look.Given as goal

abbrev pub ghosts-look_as : goal.ghosts-look_as
ghosts-look_as a = record { cpu = a.p; class = a.class; number = 0 }
