-- A walk: one frame of a site alone, in which the commands of its routine are called in order. A command that is
-- refused changes nothing but the place, and each other one is done, an acquire too.
use Rattle.std.specs.List.{fold}
use Rattle.std.specs.Option.{option_map_or}
use Rattle.std.specs.Prelude.{Bool, List, None, Option, false, option_and_then, option_map, slice_get, take, true, ℕ}
use Rattle.nt_event.specs.declared.commands.Command.{Command}
use Rattle.nt_event.specs.declared.commands.Refusal.{Refusal}
use Rattle.nt_event.specs.declared.commands.Regions.{Regions}
use Rattle.nt_event.specs.declared.commands.Reply.{Reply}
use Rattle.nt_event.specs.declared.commands.Reply.TheVariants.{Done, Refused}
use Rattle.nt_event.specs.declared.frames.Body.{Body}
use Rattle.nt_event.specs.declared.frames.Body.TheVariants as on
use Rattle.nt_event.specs.declared.scripts.Script.{Script}
use Rattle.nt_event.specs.Commands.{refusal}
use Rattle.nt_event.specs.Frame.{Frame}
use Rattle.nt_event.specs.Frames.{called, is_normal_apc_body}
use Rattle.nt_verify.specs.declared.expected.Expected.{Expected}
use Rattle.nt_verify.specs.declared.site.Site.{Site}
use Rattle.nt_verify.specs.Sites.{commands_at, first_frame}

-- interrupts, DPCs and threaded DPCs run on the processor's own part, and in no thread
abbrev pub is_own : Body → Bool
is_own (on.Int level) = true
is_own (on.Dpc d) = true
is_own (on.Threaded d) = true
is_own (on.Apc a kind) = false
is_own (on.Base t) = false
is_own (on.Rundown a) = false

-- the regions that the frame alone has entered
abbrev pub regions_in : Frame → Regions
regions_in f = record { crit = f.crit; guard = f.guard; busy = is_normal_apc_body f.body }

-- the first refusal that the tests of the command give in the frame
abbrev pub refused_in : Frame → Command → Option Refusal
refused_in f c = refusal f.level (is_own f.body) (regions_in f) f c

-- what the command is taken to reply: that it is refused, or that it is done
abbrev pub reply_in : Frame → Command → Reply
reply_in f c = option_map_or (λ r. Refused r) (refused_in f c) Done

-- the frame once it has called the command
abbrev pub called_in : Frame → Command → Frame
called_in f c = called None c (reply_in f c) f

-- the frame once it has called these commands in order
abbrev pub walked : Frame → List Command → Frame
walked f cs = fold called_in f cs

-- the site's frame just before the command at this place of its routine
abbrev pub frame_at : Script → Site → ℕ → Frame
frame_at s x k = walked (first_frame s x) (take k (commands_at s x))

-- what is expected of a command in the frame: its refusal, and the level then; none where it isn't refused
abbrev pub expected_in : Frame → Command → Option Expected
expected_in f c = option_map (λ r. record { refusal = r; level = f.level }) (refused_in f c)

-- what is expected of the command at this place of the site's routine
abbrev pub expected_at : Script → Site → ℕ → Option Expected
expected_at s x k = option_and_then (expected_in (frame_at s x k)) (slice_get (commands_at s x) k)
