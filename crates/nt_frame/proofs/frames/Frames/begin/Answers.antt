use Rattle.std.proofs.Common.{lit<, sym}
use Rattle.nt_frame.proofs.Begun.{begun_on, own_room}
use Rattle.nt_frame.proofs.frames.Frames.begin.Goals as goal

pub begin-requires : goal.begin-requires
begin-requires c = (
  lit< tt,
  own_room c.args.n c.args.body _ c.self.invariant (rw (← c.self.view_is) at c.requires.rules) (rw (← c.self.view_is) at c.requires.number)
      (sym c.if-own.ensures),
)

pub invariant_of-self-in-Some : goal.invariant_of-self-in-Some
invariant_of-self-in-Some c =
    rw c.begin-in-Some.ensures (begun_on c.args.n c.args.body
    (record { own = c.self.inside.own; running = c.self.inside.running; threads = c.self.inside.threads.items }) c.in-Some.t c.self.invariant
    (rw (← c.self.view_is) at c.requires.rules) (rw (← c.self.view_is) at c.requires.number) (sym c.if-own.ensures) c.in-Some.is)
