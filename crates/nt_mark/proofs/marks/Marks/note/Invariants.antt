use Rattle.nt_mark.specs.Views.{note_of}
use Rattle.nt_mark.proofs.marks.Marks.note.Given as goal

abbrev pub ghosts-note_as : goal.ghosts-note_as
ghosts-note_as g a = record { note = note_of a.n (g.S.Shows.states a.after.now) }
