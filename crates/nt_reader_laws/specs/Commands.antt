-- A refused command changes nothing but the place in the routine that called it.
use Rattle.std.specs.Prelude.{List, Option, Some, [], false, if◌then◌else◌, length, ℕ, ◌+◌, ◌∷◌, ◌≡◌, Bool}
use Rattle.nt_event.specs.declared.commands.Command.{Command}
use Rattle.nt_event.specs.declared.commands.Refusal.{Refusal}
use Rattle.nt_event.specs.declared.commands.Reply.TheVariants.{Refused}
use Rattle.nt_event.specs.declared.events.Event.{Event}
use Rattle.nt_event.specs.declared.events.What.TheVariants.{Call}
use Rattle.nt_event.specs.Frame.{Frame}
use Rattle.nt_event.specs.declared.jobs.Lane.{Lane}
use Rattle.nt_event.specs.declared.numbers.CpuNo.{CpuNo}
use Rattle.nt_event.specs.declared.numbers.ThreadNo.{ThreadNo}
use Rattle.nt_event.specs.declared.scripts.Script.{Script}
use Rattle.nt_event.specs.Frames.{Frames, at_head, frames_in, frames_of, innermost}
use Rattle.nt_event.specs.LaneStates.{lane_state}
use Rattle.nt_event.specs.Lanes.{lanes_at, lanes_of}
use Rattle.nt_event.specs.Lists.{is_null, table}
use Rattle.nt_event.specs.Numbers.{is_of, is_thread, thread}
use Rattle.nt_event.specs.Own.{Own, own_of}
use Rattle.nt_event.specs.Regions.{stand_at}
use Rattle.nt_event.specs.Requests.{asked, what_asks}
use Rattle.nt_event.specs.Step.{IsRun}

-- the frame at the next place of its routine
abbrev pub at_next_place : Frame → Frame
at_next_place f = record f { place = f.place + 1 }

abbrev pub at_head_if : Bool → (Frame → Frame) → List Frame → List Frame
at_head_if b g fs = if b then at_head g fs else fs

-- the parts of the threads, with the innermost frame of the running one at its next place
abbrev pub placed_on : Option ThreadNo → List (List Frame) → List (List Frame)
placed_on running parts =
    table (length parts) (λ t. at_head_if (is_thread running (thread t)) at_next_place (frames_in parts (thread t)))

-- the frames of a processor, with the innermost one at its next place
abbrev pub placed : Frames → Frames
placed x =
    if is_null x.own then record x { threads = placed_on x.running x.threads }
    else record x { own = at_head at_next_place x.own }

-- one event more is made, and the innermost frame is at its next place
abbrev pub own_placed : Own → Own
own_placed x = record x { made = x.made + 1; frames = placed x.frames }

-- what the refused call of the frame of this name leaves. (`own` refuses a step that moves a level, a region count or a
-- wait, drops what is noticed or served, or leaves the running thread; `lanes` and `states` one that inserts, sets or
-- wakes all the same; `asks` one that asks for an interrupt.)
pub record LeavesAllButPlace (s : Script) (e : Event) (past : List Event) (name : ℕ) : Type 0 where
  pub caller : Frame
  pub innermost : innermost (frames_of s e.cpu past) ≡ Some caller
  pub named : caller.name ≡ name
  pub own : own_of s e.cpu (e ∷ past) ≡ own_placed (own_of s e.cpu past)
  pub others : (p : CpuNo) → is_of e p ≡ false → own_of s p (e ∷ past) ≡ own_of s p past
  pub touches : lanes_of s e past ≡ []
  pub lanes : lanes_at s (e ∷ past) ≡ lanes_at s past
  pub states : (x : Lane) → lane_state s x (e ∷ past) ≡ lane_state s x past
  pub asks : what_asks s (stand_at s e.cpu past) e.what (lanes_at s past) ≡ []
  pub asked : (p : CpuNo) (class : ℕ) → asked s p class (e ∷ past) ≡ asked s p class past

-- in a run a refused command is called by the innermost frame of its processor, and changes nothing but that frame's
-- place, and the count of its processor's events: the rest of what its processor keeps, what the others keep, the lanes
-- and the requests stay; it touches no lane and asks nobody
abbrev pub RefusedCommandsTakeTheirPlace : Type 0
RefusedCommandsTakeTheirPlace = (s : Script) (limit : ℕ) (e : Event) (past : List Event) (name : ℕ) (c : Command)
    (r : Refusal) → IsRun s limit (e ∷ past) → e.what ≡ Call name c (Refused r) → LeavesAllButPlace s e past name
