-- What is found in a script: the places where a command is expected to be refused, and whether locks are acquired in
-- rising order.
use Rattle.std.specs.List.{filter_map, flat_map, list_all}
use Rattle.std.specs.Option.{option_map_or}
use Rattle.std.specs.Prelude.{Bool, List, Option, is_some, length, nat_lt, option_map, slice_get, true, ℕ, ◌||◌}
use Rattle.nt_event.specs.declared.commands.Command.{Command}
use Rattle.nt_event.specs.declared.frames.Held.{Held}
use Rattle.nt_event.specs.declared.numbers.LockNo.{LockNo}
use Rattle.nt_event.specs.declared.scripts.Script.{Script}
use Rattle.nt_event.specs.Families.{AcquireLock, LockCall, UnlockLock, by_lock_call}
use Rattle.nt_event.specs.Frame.{Frame}
use Rattle.nt_event.specs.Lists.{table}
use Rattle.nt_verify.specs.declared.finding.Finding.{Finding}
use Rattle.nt_verify.specs.declared.site.Site.{Site}
use Rattle.nt_verify.specs.Sites.{commands_at, sites}
use Rattle.nt_verify.specs.Walks.{expected_at, frame_at, refused_in}

-- the places of the site's routine, from 0
abbrev pub places_at : Script → Site → List ℕ
places_at s x = table (length (commands_at s x)) (λ k. k)

-- ---- refusals

abbrev pub finding_at : Script → Site → ℕ → Option Finding
finding_at s x k =
    option_map (λ e. record { site = x; place = k; refusal = e.refusal; level = e.level }) (expected_at s x k)

abbrev pub findings_at : Script → Site → List Finding
findings_at s x = filter_map (finding_at s x) (places_at s x)

-- the places where a refusal is expected, by site and then by place
abbrev pub findings : Script → List Finding
findings s = flat_map (findings_at s) (sites s)

-- ---- the order of locks

-- the lock has a greater number than each of these
abbrev pub is_above : LockNo → List Held → Bool
is_above k hs = list_all (λ h. nat_lt h.lock.0 k.0) hs

abbrev pub lock_rises : Frame → Command → LockCall → Bool
lock_rises f c (AcquireLock k) = is_some (refused_in f c) || is_above k f.held
lock_rises f c (UnlockLock k) = true

-- the command is no acquire, or it is expected to be refused, or its lock is above all that the frame holds
abbrev pub rises_in : Frame → Command → Bool
rises_in f c = by_lock_call (lock_rises f c) true c

abbrev pub rises_at : Script → Site → ℕ → Bool
rises_at s x k = option_map_or (rises_in (frame_at s x k)) (slice_get (commands_at s x) k) true

abbrev pub is_ordered_at : Script → Site → Bool
is_ordered_at s x = list_all (rises_at s x) (places_at s x)

-- at each site, each acquire that isn't expected to be refused names a lock above every lock held there
abbrev pub is_ordered : Script → Bool
is_ordered s = list_all (is_ordered_at s) (sites s)
