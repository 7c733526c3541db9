-- What is watched of a run, and since when it is as it is.
use Rattle.std.specs.Prelude.{Bool, List, None, Option, Some, [], false, if◌then◌else◌, length, option_map, true, ℕ}
use Rattle.std.specs.Prelude.{◌&&◌, ◌<◌, ◌==◌, ◌∷◌}
use Rattle.nt_event.specs.declared.events.Event.{Event}
use Rattle.nt_event.specs.declared.scripts.Script.{Script}
use Rattle.nt_event.specs.declared.threads.Doing.{Doing}
use Rattle.nt_event.specs.declared.threads.Doing.TheVariants.{Blocked, Gone, Ready, Running}
use Rattle.nt_event.specs.Frames.{Frames, innermost, level_in}
use Rattle.nt_event.specs.Lanes.{facts_at, lanes_at}
use Rattle.nt_event.specs.Lists.{value_at}
use Rattle.nt_event.specs.Own.{own_of}
use Rattle.nt_why.specs.declared.watch.Key.{Key}
use Rattle.nt_why.specs.declared.watch.Watch.{Watch}
use Rattle.nt_why.specs.declared.watch.Watch.TheVariants as watch

-- how a processor stands: the name of its innermost frame, and its level
abbrev pub stand_key : Frames → Key
stand_key x = record { frame = option_map (λ f. f.name) (innermost x); number = level_in x }

-- whether a thread may be taken up, runs, is blocked or is gone
abbrev pub doing_number : Doing → ℕ
doing_number (Ready level status) = 0
doing_number Running = 1
doing_number (Blocked w) = 2
doing_number Gone = 3

-- what is watched is so after this past
abbrev pub key_at : Script → Watch → List Event → Key
key_at s (watch.Stand p) past = stand_key (own_of s p past).frames
key_at s (watch.Seen p class) past = record { frame = None; number = value_at (own_of s p past).seen class }
key_at s (watch.Doing t) past = record { frame = None; number = doing_number (facts_at (lanes_at s past) t).doing }

abbrev pub same_name : Option ℕ → Option ℕ → Bool
same_name None None = true
same_name (Some x) (Some y) = x == y
same_name None (Some y) = false
same_name (Some x) None = false

abbrev pub same_key : Key → Key → Bool
same_key x y = same_name x.frame y.frame && (x.number == y.number)

-- the number of the event that made it so, as it is since; none where it was so from the start
abbrev pub since : Script → Watch → List Event → Option ℕ
since s w [] = None
since s w (e ∷ past) =
    if same_key (key_at s w past) (key_at s w (e ∷ past)) then since s w past else Some (length past)

-- the script has the processor that is watched, and the class is one of the 16
abbrev pub WatchFits : Script → Watch → Type 0
WatchFits s (watch.Stand p) = p.0 < s.cpus
WatchFits s (watch.Seen p class) = (p.0 < s.cpus) × (class < 16)
WatchFits s (watch.Doing t) = Unit {0}
