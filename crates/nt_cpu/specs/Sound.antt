-- What holds of a processor at any time.
use Rattle.std.specs.Prelude.{All, IfSome, IsTrue, List, [], length, true, ℕ, ◌<◌, ◌^◌, ◌∷◌, ◌≡◌, ◌≤◌, ◌⊎◌}
use Rattle.nt_event.specs.declared.limits.TheConstants.{TURNS}
use Rattle.nt_event.specs.declared.frames.Held.{Held}
use Rattle.nt_event.specs.Frame.{Frame}
use Rattle.nt_event.specs.Frames.{Frames, frames_in, is_base_body}
use Rattle.nt_event.specs.Regions.{crit_of, guard_of}
use Rattle.nt_event.specs.Script.{fits, has_cpu, has_dpc}
use Rattle.nt_frame.specs.Nesting.{AreNested, HaveNoWaits}
use Rattle.nt_cpu.specs.States.{CpuState}

-- these locks are below this number
abbrev pub AreBelow : ℕ → List Held → Type 0
AreBelow locks [] = Unit {0}
AreBelow locks (h ∷ hs) = (h.lock.0 < locks) × AreBelow locks hs

-- the frame called no more commands than this, a delay that it has to take up is due below 2 ^ 51, and the locks that
-- it holds and the one on which it spins are of the script, which has so many
pub record IsSmall (locks n : ℕ) (f : Frame) : Type 0 where
  pub held : AreBelow locks f.held
  pub spin : IfSome f.spin (λ h. h.lock.0 < locks)
  pub place : f.place ≤ n
  pub due : IfSome f.again (λ w. IfSome w.due (λ due. due < 2 ^ 51))

-- the frames of a thread did so, and entered no more regions
pub record IsSmallPart (locks n : ℕ) (fs : List Frame) : Type 0 where
  pub frames : All (IsSmall locks n) fs
  pub crit : crit_of fs ≤ n
  pub guard : guard_of fs ≤ n

pub record AreSmall (locks n : ℕ) (x : Frames) : Type 0 where
  pub own : All (IsSmall locks n) x.own
  pub threads : All (IsSmallPart locks n) x.threads

-- the last frame of the part is a base, and there is one
abbrev pub EndsInBase : List Frame → Type 0
EndsInBase [] = ⊥
EndsInBase (f ∷ []) = is_base_body f.body ≡ true
EndsInBase (f ∷ g ∷ fs) = EndsInBase (g ∷ fs)

-- a thread has no frame, or its base under the others; and a running thread has one
pub record AreBased (x : Frames) : Type 0 where
  pub parts : All (λ fs. (fs ≡ []) ⊎ EndsInBase fs) x.threads
  pub runs : IfSome x.running (λ t. EndsInBase (frames_in x.threads t))

pub record IsSound (c : CpuState) : Type 0 where
  pub script : IsTrue (fits c.script)
  pub cpu : IsTrue (has_cpu c.script c.cpu)
  pub limit : c.limit ≤ TURNS
  pub made : c.own.made ≤ c.limit
  pub seen : length c.own.seen ≡ 16
  pub served : length c.own.served ≡ 16
  pub threads : length c.own.frames.threads ≡ length c.script.threads
  pub nested : AreNested c.own.frames
  pub small : AreSmall c.script.locks c.own.made c.own.frames
  pub based : AreBased c.own.frames
  pub waits : HaveNoWaits c.own.frames.own
  pub fire : IfSome c.own.fire (λ d. IsTrue (has_dpc c.script d))
