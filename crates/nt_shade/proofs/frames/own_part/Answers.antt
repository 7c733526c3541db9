use Rattle.std.proofs.Common.{rules}
use Rattle.nt_alike.specs.Bare.{bare_frame}
use Rattle.nt_shade.specs.Frames.{frame_said}
use Rattle.nt_shade.proofs.Lists.{said_reversed}
use Rattle.nt_shade.proofs.frames.own_part.Goals as goal

pub returns : goal.returns
returns c = search (rules, said_reversed frame_said bare_frame)
