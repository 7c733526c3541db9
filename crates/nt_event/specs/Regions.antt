-- Regions: what holds back the kernel APCs of a thread, and where a processor stands.
use Rattle.std.specs.List.{list_any}
use Rattle.std.specs.Option.{option_map_or, option_or}
use Rattle.std.specs.Prelude.{Bool, List, [], false, if◌then◌else◌, not, option_and_then, option_map, sum_by, ℕ, ◌&&◌}
use Rattle.std.specs.Prelude.{◌==◌, ◌||◌, ◌∷◌}
use Rattle.nt_event.specs.declared.commands.Regions.{Regions}
use Rattle.nt_event.specs.declared.events.Begun.TheVariants as begun
use Rattle.nt_event.specs.declared.events.Event.{Event}
use Rattle.nt_event.specs.declared.events.What.{What}
use Rattle.nt_event.specs.Frame.{Frame}
use Rattle.nt_event.specs.declared.jobs.Stand.{Stand}
use Rattle.nt_event.specs.declared.numbers.CpuNo.{CpuNo}
use Rattle.nt_event.specs.declared.scripts.Script.{Script}
use Rattle.nt_event.specs.Classes.{clock_class, dispatch_class}
use Rattle.nt_event.specs.Frames.{Frames, frames_of, freed_level, innermost, is_normal_apc_body, level_in, thread_part}
use Rattle.nt_event.specs.Lists.{head_of, is_null, tail_of}
use Rattle.nt_event.specs.Replies.{is_answer}
use Rattle.nt_event.specs.Numbers.{is_of}
use Rattle.nt_event.specs.Families.{StartTimer, StopTimer, TimerCall, by_timer_call, in_begin, in_call, in_clean}
use Rattle.nt_event.specs.declared.commands.Reply.{Reply}
use Rattle.nt_event.specs.declared.events.Begun.{Begun}

-- how often the thread's open frames have entered a region of the kind and not left it
abbrev pub crit_of : List Frame → ℕ
crit_of fs = sum_by (λ f. f.crit) fs

abbrev pub guard_of : List Frame → ℕ
guard_of fs = sum_by (λ f. f.guard) fs

-- a normal kernel APC of the thread is in progress
abbrev pub busy_of : List Frame → Bool
busy_of fs = list_any (λ f. is_normal_apc_body f.body) fs

abbrev pub regions_of : List Frame → Regions
regions_of fs = record { crit = crit_of fs; guard = guard_of fs; busy = busy_of fs }

-- the regions of the running thread once the innermost frame has ended
abbrev pub below_in : Frames → Regions
below_in x = regions_of (if is_null x.own then tail_of (thread_part x) else thread_part x)

-- the level of the first frame of an own part, else of a thread's part
abbrev pub first_level : List Frame → List Frame → ℕ
first_level own part = option_map_or (λ f. f.level) (option_or (head_of own) (head_of part)) 0

-- the level once the innermost frame has ended
abbrev pub ended_level_in : Frames → ℕ
ended_level_in x =
    if is_null x.own then first_level [] (tail_of (thread_part x)) else first_level (tail_of x.own) (thread_part x)

-- the level once the lock that the innermost frame acquired last is free; the level where it holds none
abbrev pub freed_in : Frames → ℕ
freed_in x = option_map_or freed_level (innermost x) 0

-- a region is entered
abbrev pub is_open : Regions → Bool
is_open r = not ((r.crit == 0) && (r.guard == 0))

-- a count that wasn't 0 is 0 now
abbrev pub came_to_0 : ℕ → ℕ → Bool
came_to_0 before now = not (before == 0) && (now == 0)

abbrev pub some_came_to_0 : Regions → Regions → Bool
some_came_to_0 before now = came_to_0 before.crit now.crit || came_to_0 before.guard now.guard

-- ---- owed sweeps

abbrev pub sweep_begun : Begun → Bool → Bool
sweep_begun (begun.Int level) old = (level == clock_class) || old
sweep_begun (begun.Dpc d) old = old
sweep_begun (begun.Threaded d) old = old
sweep_begun (begun.Apc a) old = old

abbrev pub sweep_called : TimerCall → Reply → Bool → Bool
sweep_called (StartTimer t due period) y old = (is_answer y && (due == 0)) || old
sweep_called (StopTimer t) y old = old

-- profile: a processor owes a sweep of the timers from the beginning of a clock interrupt on it, and from its own set
-- of a timer that is due already, until its next Clean of dispatch
abbrev pub sweep_after : What → Bool → Bool
sweep_after w old =
    in_begin (λ b from. sweep_begun b old)
    (in_call (λ f c y. by_timer_call (λ k. sweep_called k y old) old c)
    (in_clean (λ class. not (class == dispatch_class) && old) old w) w) w

abbrev pub owes_sweep : CpuNo → List Event → Bool
owes_sweep p [] = false
owes_sweep p (e ∷ past) = if is_of e p then sweep_after e.what (owes_sweep p past) else owes_sweep p past

-- ---- where a processor stands

abbrev pub stand_of : CpuNo → Frames → Bool → Stand
stand_of p x sweep =
    record {
      cpu = p;
      thread = x.running;
      frame = option_map_or (λ f. f.name) (innermost x) 0;
      body = option_map (λ f. f.body) (innermost x);
      level = level_in x;
      regions = regions_of (thread_part x);
      below = below_in x;
      ended_level = ended_level_in x;
      after = freed_in x;
      again = option_and_then (λ f. f.again) (innermost x);
      sweep = sweep;
    }

abbrev pub stand_at : Script → CpuNo → List Event → Stand
stand_at s p past = stand_of p (frames_of s p past) (owes_sweep p past)
