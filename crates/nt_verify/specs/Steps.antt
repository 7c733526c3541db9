-- What the code of a walk keeps, and what one command does to it.
use Rattle.std.specs.Prelude.{Bool, List, Option, nat_lt, not, option_map, true, ℕ, ◌∷◌, ◌≤◌}
use Rattle.nt_event.specs.declared.commands.Command.{Command}
use Rattle.nt_event.specs.Commands.{holds}
use Rattle.nt_event.specs.Families.{AcquireLock, LockCall, UnlockLock, by_lock_call, lock_named}
use Rattle.nt_event.specs.Frame.{Frame}
use Rattle.nt_event.specs.Frames.{done_to, freed}
use Rattle.nt_frame.specs.HeldLocks.{AreArrays}
use Rattle.nt_verify.specs.declared.finding.Finding.{Finding}
use Rattle.nt_verify.specs.declared.site.Site.{Site}
use Rattle.nt_verify.specs.Walks.{refused_in}

-- it has entered no more regions than it has called commands, and the locks that it holds stand in the arrays
pub record IsWalk (place crit guard count : ℕ) (locks kept : List ℕ) : Type 0 where
  pub crits : crit ≤ place
  pub guards : guard ≤ place
  pub arrays : AreArrays count locks kept

-- a lock that the command names has a number below this
abbrev pub has_lock_below : ℕ → Command → Bool
has_lock_below n c = by_lock_call (λ k. nat_lt (lock_named k).0 n) true c

abbrev pub is_free_for : Frame → LockCall → Bool
is_free_for f (AcquireLock k) = not (holds k f)
is_free_for f (UnlockLock k) = true

-- the frame doesn't hold a lock that the command acquires
abbrev pub is_lock_free : Frame → Command → Bool
is_lock_free f c = by_lock_call (is_free_for f) true c

abbrev pub lock_done : Frame → LockCall → Frame
lock_done f (AcquireLock k) = record f { level = 2; held = record { lock = k; kept = f.level } ∷ f.held }
lock_done f (UnlockLock k) = freed f

-- what the command does to a frame that doesn't spin, beside its place, where it isn't refused
abbrev pub done_in : Frame → Command → Frame
done_in f c = by_lock_call (lock_done f) (done_to c f) c

-- what is found of a command that a frame of the site calls next
abbrev pub found_in : Site → Frame → Command → Option Finding
found_in x f c = option_map (λ r. record { site = x; place = f.place; refusal = r; level = f.level }) (refused_in f c)
