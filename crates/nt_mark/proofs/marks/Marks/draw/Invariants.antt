use Rattle.std.proofs.Common.{◌*◌}
use Rattle.nt_mark.specs.Names.{limit_of, parts_of}
use Rattle.nt_mark.proofs.marks.Marks.draw.Given as goal

abbrev pub ghosts-draw_as : goal.ghosts-draw_as
ghosts-draw_as a = record { event = a.event.now; lanes = a.lanes.now; most = limit_of a.self.now * parts_of a.self.now }
