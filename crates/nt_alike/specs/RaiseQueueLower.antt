-- The worked row raise-queue-lower: a thread raises to DISPATCH_LEVEL, queues a DPC and lowers. Its histories are
-- written out, and they are a closed list: after each of them one event at most may come. On one processor what is
-- asked is noticed at once, so no Look is good; and no thread but the one may be switched to.
use Rattle.std.specs.Prelude.{Bool, List, None, Some, [], false, if◌then◌else◌, length, nat_le, true, ℕ, ◌&&◌, ◌+◌, ◌-◌}
use Rattle.std.specs.Prelude.{◌∷◌, ◌≡◌, ◌≤◌}
use Rattle.nt_event.specs.declared.commands.Command.TheVariants as cmd
use Rattle.nt_event.specs.declared.commands.Reply.TheVariants.{Done, Yes}
use Rattle.nt_event.specs.declared.events.Begun.TheVariants.{Dpc}
use Rattle.nt_event.specs.declared.events.Event.{Event}
use Rattle.nt_event.specs.declared.events.What.TheVariants as what
use Rattle.nt_event.specs.Objects.{is_dpc, used_up_dpc}
use Rattle.nt_event.specs.Step.{IsRun}
use Rattle.nt_rows.specs.RaiseQueueLower.{d, history, main, script}
use Rattle.nt_rows.specs.Rows.{event}
use Rattle.nt_alike.specs.Ends.{is_quiet}
use Rattle.nt_alike.specs.Free.{LooksAreShort}
use Rattle.nt_alike.specs.Monitors.{IsClosedWith, Monitor, kept}
use Rattle.nt_alike.specs.Ranks.{IsRanked, Rank}

-- ---- its histories, each with one event more, the newest event first

abbrev pub switched : List Event
switched = event 0 (Some main) 0 (what.Switch main None) ∷ []

abbrev pub raised : List Event
raised = event 0 (Some main) 2 (what.Call 0 (cmd.Raise 2) Done) ∷ switched

abbrev pub queued : List Event
queued = event 0 (Some main) 2 (what.Call 0 (cmd.Queue d) Yes) ∷ raised

abbrev pub lowered : List Event
lowered = event 0 (Some main) 0 (what.Call 0 (cmd.Lower 0) Done) ∷ queued

abbrev pub dpc_begun : List Event
dpc_begun = event 0 (Some main) 2 (what.Begin (Dpc d) 2) ∷ lowered

abbrev pub noted : List Event
noted = event 0 (Some main) 2 (what.Call 4 (cmd.Note 7) Done) ∷ dpc_begun

abbrev pub dpc_ended : List Event
dpc_ended = event 0 (Some main) 0 (what.End 4) ∷ noted

abbrev pub cleaned : List Event
cleaned = event 0 (Some main) 0 (what.Clean 2) ∷ dpc_ended

abbrev pub body_ended : List Event
body_ended = event 0 (Some main) 0 (what.End 0) ∷ cleaned

abbrev pub gone : List Event
gone = event 0 (Some main) 0 (what.Gone main) ∷ body_ended

abbrev pub rested : List Event
rested = event 0 None 0 what.Rest ∷ gone

abbrev pub histories : List (List Event)
histories =
    [] ∷ switched ∷ raised ∷ queued ∷ lowered ∷ dpc_begun ∷ noted ∷ dpc_ended ∷ cleaned ∷ body_ended ∷ gone ∷ rested ∷
    []

-- whatever a monitor keeps, the list is closed: each leads to the next one itself
abbrev pub RowIsClosed : Type 0
RowIsClosed = (monitor : Monitor) → IsClosedWith script monitor histories

-- the event begins the DPC; the script has no command that removes it
abbrev pub begins_dpc : Event → Bool
begins_dpc e = is_dpc (used_up_dpc e.what) d

-- ---- it never begins while the level is DISPATCH_LEVEL

-- the level after the last event
abbrev pub last_level : Monitor
last_level n e = e.level

abbrev pub begins_too_soon : ℕ → Event → Bool
begins_too_soon level e = nat_le 2 level && begins_dpc e

-- under no schedule and no limit does the DPC begin while its processor is at DISPATCH_LEVEL or above
abbrev pub DpcWaitsForTheLower : Type 0
DpcWaitsForTheLower = (limit : ℕ) (e : Event) (past : List Event) →
    IsRun script limit (e ∷ past) → LooksAreShort (e ∷ past) → begins_too_soon (kept last_level past) e ≡ false

-- ---- it runs, and once

-- how often it has begun
abbrev pub begun_count : Monitor
begun_count n e = if begins_dpc e then n + 1 else n

-- in each run that ends quietly it has begun once
abbrev pub DpcBeginsOnce : Type 0
DpcBeginsOnce = (limit : ℕ) (past : List Event) →
    IsRun script limit past → LooksAreShort past → is_quiet script past ≡ true → kept begun_count past ≡ 1

-- ---- every run ends

-- how many events are still to come
abbrev pub events_left : Rank
events_left h = 11 - length h

abbrev pub RowIsRanked : Type 0
RowIsRanked = (monitor : Monitor) → IsRanked script monitor events_left 11 histories

-- no run has more events than the worked one
abbrev pub RowEnds : Type 0
RowEnds = (limit : ℕ) (past : List Event) →
    IsRun script limit past → LooksAreShort past → length past ≤ length history
