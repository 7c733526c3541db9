-- The levels that a frame keeps with its locks aren't below a bound.
use Rattle.std.specs.Option.{option_map_or}
use Rattle.std.specs.Prelude.{List, None, Option, Some, [], ℕ, ◌∷◌, ◌≤◌}
use Rattle.nt_event.specs.Frame.{Frame}
use Rattle.nt_event.specs.declared.frames.Held.{Held}
use Rattle.nt_event.specs.Frames.{freed, freed_level, held_moved, kept_in, level_moved, spin_moved}
use Rattle.nt_event.specs.Locks.{Frees, Gets, LockMove, NoMove, Spins}
use Rattle.nt_event.specs.Lists.{head_of, tail_of}

abbrev pub AllKept : ℕ → List Held → Type 0
AllKept n [] = Unit {0}
AllKept n (h ∷ hs) = (n ≤ h.kept) × AllKept n hs

-- neither the level that is kept with the next lock nor those with the locks that it holds is below n
abbrev pub Floor : ℕ → Frame → Type 0
Floor n f = (n ≤ kept_in f) × AllKept n f.held

-- without the lock acquired last, the levels kept with the locks still aren't below the bound
pub kept_tail : (n : ℕ) (hs : List Held) → AllKept n hs → AllKept n (tail_of hs)
kept_tail n [] h = tt
kept_tail n (x ∷ xs) h = h.1

-- the level kept with the lock acquired last, or else the given level, isn't below the bound
pub kept_head : (n level : ℕ) (hs : List Held) → n ≤ level → AllKept n hs → n ≤ option_map_or (λ h. h.kept) (head_of hs) level
kept_head n level [] a h = a
kept_head n level (x ∷ xs) a h = h.0

-- nor is one of these after a call
pub moved_floor : (n : ℕ) (m : LockMove) (f : Frame) (level : ℕ) → n ≤ 2 → n ≤ level → n ≤ f.level → Floor n f → (n ≤ level_moved m f level) ×
    (n ≤ option_map_or (λ h. h.kept) (spin_moved m f) (level_moved m f level)) × AllKept n (held_moved m f)
moved_floor n (Gets k) f level a b c h = (a, a, (h.0, h.1))
moved_floor n (Spins k) f level a b c h = (a, h.0, h.1)
moved_floor n (Frees k) f level a b c h = let z = kept_head n f.level f.held c h.1 in (z, z, kept_tail n f.held h.1)
moved_floor n NoMove f level a b c h = (b, b, h.1)

-- a change to a level not below the bound leaves the level kept with the next lock not below it
spin_floor : (n level new : ℕ) (o : Option Held) → n ≤ new → n ≤ option_map_or (λ h. h.kept) o level → n ≤ option_map_or (λ h. h.kept) o new
spin_floor n level new None a h = a
spin_floor n level new (Some x) a h = h

-- nor after a Free
pub freed_floor : (n : ℕ) (f : Frame) → n ≤ f.level → Floor n f → (n ≤ (freed f).level) × Floor n (freed f)
freed_floor n f a h =
    let z = kept_head n f.level f.held a h.1 in (z, (spin_floor n f.level (freed_level f) f.spin z h.0, kept_tail n f.held h.1))
