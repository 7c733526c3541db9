-- What a call changes of a processor's frames.
use Rattle.std.specs.Prelude.{Bool, List, None, Option, Some, [], false, not, set, true, ℕ, ◌+◌, ◌<◌, ◌∷◌, ◌≡◌}
use Rattle.nt_event.specs.declared.frames.Body.{Body}
use Rattle.nt_event.specs.declared.frames.Body.TheVariants.{Apc, Base, Dpc, Int, Rundown, Threaded}
use Rattle.nt_event.specs.declared.frames.Region.{Region}
use Rattle.nt_event.specs.declared.frames.Region.TheVariants.{Crit, Guard}
use Rattle.nt_event.specs.declared.numbers.LockNo.{LockNo}
use Rattle.nt_event.specs.declared.numbers.ThreadNo.{ThreadNo}
use Rattle.nt_event.specs.Commands.{holds}
use Rattle.nt_event.specs.Frame.{Frame}
use Rattle.nt_event.specs.Frames.{Frames, at_head, ended_base, frames_in, freed, kept_in, new_frame, normal_of}
use Rattle.nt_event.specs.Lists.{is_null, tail_of, table}
use Rattle.nt_frame.specs.declared.change.Change.{Change}
use Rattle.nt_frame.specs.declared.change.Change.TheVariants.{Acquire, AdvancePlace, EndBase, Free, GoOn, SetAgain}
use Rattle.nt_frame.specs.declared.change.Change.TheVariants.{SetEntered, SetLevel, SpinOn}

-- interrupts, DPCs and threaded DPCs run on the processor's own part, the others on a thread's
abbrev pub is_own : Body → Bool
is_own (Int level) = true
is_own (Dpc d) = true
is_own (Threaded d) = true
is_own (Base t) = false
is_own (Apc a kind) = false
is_own (Rundown a) = false

-- a processor on which nothing has begun, with this many threads
abbrev pub no_frames : ℕ → Frames
no_frames n = record { own = []; running = None; threads = table n (λ _. []) }

-- the part of this thread changed
abbrev pub on_thread : (List Frame → List Frame) → ThreadNo → Frames → Frames
on_thread g t x = record x { threads = set x.threads t.0 (g (frames_in x.threads t)) }

-- the part of the running thread changed
abbrev pub on_running : (List Frame → List Frame) → Option ThreadNo → Frames → Frames
on_running g None x = x
on_running g (Some t) x = on_thread g t x

-- the processor's own part changed, or the running thread's
abbrev pub on_part : Bool → (List Frame → List Frame) → Frames → Frames
on_part true g x = record x { own = g x.own }
on_part false g x = on_running g x.running x

-- the part on which the innermost frame stands changed: the own one, where it has a frame
abbrev pub on_innermost_part : (List Frame → List Frame) → Frames → Frames
on_innermost_part g x = on_part (not (is_null x.own)) g x

-- the innermost frame changed
abbrev pub at_innermost : (Frame → Frame) → Frames → Frames
at_innermost g x = on_innermost_part (at_head g) x

-- the innermost frame ended
abbrev pub without_innermost : Frames → Frames
without_innermost x = on_innermost_part tail_of x

-- a routine begun by the event of this number, in the innermost frame now
abbrev pub begun : ℕ → Body → Frames → Frames
begun n b x = on_part (is_own b) (λ fs. new_frame n b ∷ fs) x

-- the running thread's base frame closed: the thread has no frame, and none runs
abbrev pub closed : Frames → Frames
closed x = record (on_running (λ _. []) x.running x) { running = None }

-- a thread taken up: it runs from here on
abbrev pub taken : ThreadNo → Frames → Frames
taken t x = record x { running = Some t }

-- ---- the changes of one frame

-- how often it has entered a region of the kind and not left it
abbrev pub entered : Region → Frame → ℕ
entered Crit f = f.crit
entered Guard f = f.guard

abbrev pub with_entered : Region → ℕ → Frame → Frame
with_entered Crit n f = record f { crit = n }
with_entered Guard n f = record f { guard = n }

-- it has called one more command of its routine, and spins on no lock
abbrev pub advanced : Frame → Frame
advanced f = record f { place = f.place + 1; spin = None }

-- it tried the lock, and got it or spins on it: either way at DISPATCH_LEVEL, and the level of just before the first
-- try is kept
abbrev pub acquired : LockNo → Bool → Frame → Frame
acquired k true f = record f { level = 2; spin = None; held = record { lock = k; kept = kept_in f } ∷ f.held }
acquired k false f = record f { level = 2; spin = Some (record { lock = k; kept = kept_in f }) }

abbrev pub changed : Change → Frame → Frame
changed (SetLevel level) f = record f { level = level }
changed (SetAgain a) f = record f { again = a }
changed AdvancePlace f = advanced f
changed (SetEntered r n) f = with_entered r n f
changed GoOn f = normal_of f
changed EndBase f = ended_base f
changed (Acquire k) f = acquired k true f
changed (SpinOn k) f = acquired k false f
changed Free f = freed f

-- there is room for the change: for one more command called, or for one more lock held
abbrev pub MayChange : Change → Frame → Type 0
MayChange AdvancePlace f = f.place < 4294967295
MayChange (Acquire k) f = (k.0 < 64) × (holds k f ≡ false)
MayChange (SetLevel level) f = Unit {0}
MayChange (SetAgain a) f = Unit {0}
MayChange (SetEntered r n) f = Unit {0}
MayChange GoOn f = Unit {0}
MayChange EndBase f = Unit {0}
MayChange (SpinOn k) f = Unit {0}
MayChange Free f = Unit {0}
