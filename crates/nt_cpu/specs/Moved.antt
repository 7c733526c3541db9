-- What a call makes of its frame before its place.
use Rattle.std.specs.Prelude.{Option, false, true, ℕ}
use Rattle.nt_event.specs.declared.commands.Command.{Command}
use Rattle.nt_event.specs.declared.commands.Reply.{Reply}
use Rattle.nt_event.specs.declared.commands.Reply.TheVariants.{Done}
use Rattle.nt_event.specs.Frame.{Frame}
use Rattle.nt_event.specs.Frames.{done_to, effect, freed}
use Rattle.nt_event.specs.Locks.{Frees, Gets, LockMove, NoMove, Spins, call_move}
use Rattle.nt_frame.specs.Changes.{acquired}

-- a move of a lock by the frame
abbrev pub moved : LockMove → Frame → Frame
moved (Gets k) f = acquired k true f
moved (Spins k) f = acquired k false f
moved (Frees k) f = freed f
moved NoMove f = f

-- a command that is done
abbrev pub command_done : Command → Frame → Frame
command_done c f = moved (call_move c Done) (done_to c f)

abbrev pub effect_made : Option ℕ → Command → Reply → Frame → Frame
effect_made due c y f = moved (call_move c y) (effect due c y f)
