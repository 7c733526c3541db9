use Rattle.std.proofs.Common.{refl}
use Rattle.nt_frame.specs.Changes.{changed}
use Rattle.nt_frame.proofs.Last.{change_at_last}
use Rattle.nt_frame.proofs.part.Part.change.Goals as goal

pub returns : goal.returns
returns g c =
    rw (← c.self.view_is, c.change.ensures) (change_at_last (changed c.args.change.now) c.self.inside.frames.items _ c.in-Some.last.now
    c.self.inside.frames.ok.0 (c.in-Some.ensures.variant.0 refl) c.in-Some.ensures.value)
