-- On a processor's own part stand frames of interrupts, DPCs and threaded DPCs alone.
use Rattle.std.proofs.Common.{ap, ◌∙◌}
use Rattle.std.specs.Prelude.{Bool, List, Option, [], false, if◌then◌else◌, length, refl, true, ℕ, ◌==◌, ◌∷◌, ◌≡◌}
use Rattle.nt_event.specs.declared.events.Begun.TheVariants.{Apc, Dpc, Int, Threaded}
use Rattle.nt_event.specs.declared.events.Event.{Event}
use Rattle.nt_event.specs.declared.events.What.{What}
use Rattle.nt_event.specs.declared.events.What.TheVariants.{Begin, Call, End, Free}
use Rattle.nt_event.specs.declared.frames.Body.{Body}
use Rattle.nt_event.specs.declared.frames.Body.TheVariants.{Dpc as OnDpc, Int as OnInt, Threaded as OnThreaded}
use Rattle.nt_event.specs.Frame.{Frame}
use Rattle.nt_event.specs.declared.numbers.CpuNo.{CpuNo}
use Rattle.nt_event.specs.Frames.{at_name, called, due_of, freed, own_after, own_frames, time, without}
use Rattle.nt_event.specs.Numbers.{is_of}
use Rattle.nt_runs.proofs.Running.{Keeps, called_keeps, freed_keeps}

abbrev pub is_own_body : Body → Bool
is_own_body (OnInt l) = true
is_own_body (OnDpc d) = true
is_own_body (OnThreaded d) = true
is_own_body b = false

abbrev pub IsOwn : Frame → Type 0
IsOwn f = (is_own_body f.body ≡ true) × (f.leaving ≡ false)

abbrev pub AllOwn : List Frame → Type 0
AllOwn [] = Unit {0}
AllOwn (f ∷ fs) = IsOwn f × AllOwn fs

-- a change that keeps what runs in a frame keeps it a frame of the own part
kept_own : (g : Frame → Frame) (f : Frame) → Keeps g → IsOwn f → IsOwn (g f)
kept_own g f k h = (ap is_own_body (k.body f) ∙ h.0, k.leaving f ∙ h.1)

-- a change by name that keeps what runs in frames keeps all of the own part
named_own : (n : ℕ) (g : Frame → Frame) (fs : List Frame) → Keeps g → AllOwn fs → AllOwn (at_name n g fs)
named_own n g [] k h = h
named_own n g (f ∷ fs) k h = (go (f.name == n), h.1)
  where
    go : (b : Bool) → IsOwn (if b then g f else f)
    go true = kept_own g f k h.0
    go false = h.0

-- taking out a frame by name leaves only frames of the own part
without_own : (n : ℕ) (fs : List Frame) → AllOwn fs → AllOwn (without n fs)
without_own n [] h = h
without_own n (f ∷ fs) h = go (f.name == n)
  where
    go : (b : Bool) → AllOwn (if b then fs else (f ∷ fs))
    go true = h.1
    go false = h

-- an event leaves only frames of the own part on it
after_own : (n : ℕ) (due : Option ℕ) (w : What) (fs : List Frame) → AllOwn fs → AllOwn (own_after n due w fs)
after_own n due (Begin (Int l) from) fs h = ((refl, refl), h)
after_own n due (Begin (Dpc d) from) fs h = ((refl, refl), h)
after_own n due (Begin (Threaded d) from) fs h = ((refl, refl), h)
after_own n due (Begin (Apc a) from) fs h = h
after_own n due (Call f c y) fs h = named_own f (called due c y) fs (called_keeps due c y) h
after_own n due (End f) fs h = without_own f fs h
after_own n due (Free f k) fs h = named_own f freed fs freed_keeps h
after_own n due w fs h = h

-- of two own parts, the one picked by a test has frames of the own part alone
own_if : (b : Bool) (fs gs : List Frame) → AllOwn fs → AllOwn gs → AllOwn (if b then fs else gs)
own_if true fs gs h k = h
own_if false fs gs h k = k

-- each frame on a processor's own part is of an interrupt, a DPC or a threaded DPC, and is not leaving
pub all_own : (p : CpuNo) (past : List Event) → AllOwn (own_frames p past)
all_own p [] = tt
all_own p (e ∷ past) =
    own_if (is_of e p) (own_after (length past) (due_of e.what (time past)) e.what (own_frames p past)) (own_frames p past)
    (after_own (length past) (due_of e.what (time past)) e.what (own_frames p past) (all_own p past)) (all_own p past)
