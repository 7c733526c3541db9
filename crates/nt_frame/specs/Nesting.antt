-- How frames stand over each other, and what this says of their number.
use Rattle.std.specs.Prelude.{Bool, List, None, [], All, IfSome, false, if◌then◌else◌, length, nat_lt, true, ℕ, ◌+◌}
use Rattle.std.specs.Prelude.{◌-◌, ◌<◌, ◌^◌, ◌∷◌, ◌≡◌, ◌≤◌}
use Rattle.nt_event.specs.declared.commands.ApcKind.{ApcKind}
use Rattle.nt_event.specs.declared.commands.ApcKind.TheVariants.{Normal, Special, User}
use Rattle.nt_event.specs.declared.frames.Body.{Body}
use Rattle.nt_event.specs.declared.frames.Body.TheVariants.{Apc, Base, Dpc, Int, Rundown, Threaded}
use Rattle.nt_event.specs.Frame.{Frame}
use Rattle.nt_event.specs.Frames.{Frames, base_of, is_apc_body, is_base_body, thread_part}
use Rattle.nt_event.specs.Regions.{crit_of, guard_of}
use Rattle.nt_event.specs.Classes.{is_isr_level}
use Rattle.nt_frame.specs.Changes.{is_own}
use Rattle.nt_frame.specs.HeldLocks.{KeepAtLeast}

-- how many frames there can be up to this one on its part. On the own part: a threaded DPC, a DPC, and an interrupt of
-- each level of 3 to 11, 13 and 14. On a thread's: its base, a user APC or a rundown routine, a normal APC, a special
-- APC
abbrev pub apc_rank : ApcKind → ℕ
apc_rank User = 2
apc_rank Normal = 3
apc_rank Special = 4

abbrev pub rank : Body → ℕ
rank (Threaded d) = 1
rank (Dpc d) = 2
rank (Int level) = if nat_lt level 12 then level else level - 1
rank (Base t) = 1
rank (Rundown a) = 2
rank (Apc a kind) = apc_rank kind

abbrev pub has_isr_level : Body → Bool
has_isr_level (Int level) = is_isr_level level
has_isr_level (Dpc d) = true
has_isr_level (Threaded d) = true
has_isr_level (Base t) = true
has_isr_level (Apc a kind) = true
has_isr_level (Rundown a) = true

abbrev pub is_special_body : Body → Bool
is_special_body (Apc a Special) = true
is_special_body _ = false

-- a frame of the processor's own part, or of a thread's
pub record IsFrame (own : Bool) (f : Frame) : Type 0 where
  pub part : is_own f.body ≡ own
  pub interrupt : has_isr_level f.body ≡ true
  pub level : base_of f ≤ f.level
  pub special : is_special_body f.body ≡ true → f.kernel_phase ≡ true
  pub phase : f.kernel_phase ≡ true → is_apc_body f.body ≡ true
  pub leaving : f.leaving ≡ true → is_base_body f.body ≡ true
  pub kept : KeepAtLeast (base_of f) f.held
  pub spun : IfSome f.spin (λ h. base_of f ≤ h.kept)

-- the frame may stand over these: it is of a higher rank, and newer
abbrev pub IsOver : Frame → List Frame → Type 0
IsOver f [] = Unit {0}
IsOver f (g ∷ gs) = (rank g.body < rank f.body) × (g.name < f.name)

-- the frames of one part, the innermost first
abbrev pub IsPart : Bool → List Frame → Type 0
IsPart own [] = Unit {0}
IsPart own (f ∷ fs) = IsFrame own f × IsOver f fs × IsPart own fs

-- the frames of a thread, whose counts of regions are numbers of 32 bits
pub record IsThreadPart (fs : List Frame) : Type 0 where
  pub part : IsPart false fs
  pub crit : crit_of fs < 2 ^ 32
  pub guard : guard_of fs < 2 ^ 32

-- one more than the name of the newest frame
abbrev pub next_name : List Frame → ℕ
next_name [] = 0
next_name (f ∷ fs) = f.name + 1

-- each frame is named by a number below this one; the newest frame of a part is its innermost
abbrev pub AreNamedBelow : ℕ → Frames → Type 0
AreNamedBelow n x = (next_name x.own ≤ n) × All (λ fs. next_name fs ≤ n) x.threads

-- how many frames are open on the processor: on its own part, and on that of the running thread
abbrev pub frame_count : Frames → ℕ
frame_count x = length x.own + length (thread_part x)

-- each of these frames is newer than the threads'
abbrev pub AreNewer : List Frame → List (List Frame) → Type 0
AreNewer [] parts = Unit {0}
AreNewer (f ∷ fs) parts = All (λ gs. next_name gs ≤ f.name) parts × AreNewer fs parts

-- what holds of the frames of a processor at any time
pub record AreNested (x : Frames) : Type 0 where
  pub own : IsPart true x.own
  pub threads : All IsThreadPart x.threads
  pub running : IfSome x.running (λ t. t.0 < length x.threads)
  pub newer : AreNewer x.own x.threads

-- no frame of the own part has a wait to take up
abbrev pub HaveNoWaits : List Frame → Type 0
HaveNoWaits [] = Unit {0}
HaveNoWaits (f ∷ fs) = (f.again ≡ None) × HaveNoWaits fs
