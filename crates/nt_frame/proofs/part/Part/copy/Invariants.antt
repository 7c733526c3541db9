use Rattle.std.proofs.Common.{reverse, take, vec_capacity, ◌≡◌, ◌≤◌}
use Rattle.nt_frame.proofs.part.Part.copy.Given as goal

abbrev pub invariant-loop-frame : goal.invariant-loop-frame
invariant-loop-frame g l = record {
  items : l.frames.items ≡ take l.frame-index (reverse l.self);
  room : g.row.ROOM ≤ vec_capacity l.frames;
}
