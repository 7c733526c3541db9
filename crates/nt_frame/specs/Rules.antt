-- Where a routine may begin, and which commands the frames refuse.
use Rattle.std.specs.Option.{ForSome, option_map_or}
use Rattle.std.specs.Prelude.{Bool, Option, Some, false, is_none, nat_lt, not, option_and_then, option_map, true, ℕ}
use Rattle.std.specs.Prelude.{◌&&◌, ◌+◌, ◌<◌, ◌==◌, ◌^◌, ◌||◌, ◌≡◌, ◌≤◌}
use Rattle.nt_event.specs.declared.commands.ApcKind.TheVariants.{User as UserApc}
use Rattle.nt_event.specs.declared.commands.Command.{Command}
use Rattle.nt_event.specs.declared.commands.Command.TheVariants.{EnterCrit, EnterGuard, LeaveCrit, LeaveGuard, ToUser}
use Rattle.nt_event.specs.declared.commands.Refusal.{Refusal}
use Rattle.nt_event.specs.declared.commands.Refusal.TheVariants.{NotThread}
use Rattle.nt_event.specs.declared.commands.Regions.{Regions}
use Rattle.nt_event.specs.declared.frames.Body.{Body}
use Rattle.nt_event.specs.declared.frames.Body.TheVariants.{Apc, Base, Dpc, Int, Rundown, Threaded}
use Rattle.nt_event.specs.declared.frames.Region.{Region}
use Rattle.nt_event.specs.declared.frames.Region.TheVariants.{Crit, Guard}
use Rattle.nt_event.specs.declared.numbers.LockNo.{LockNo}
use Rattle.nt_event.specs.Apcs.{lets_through}
use Rattle.nt_event.specs.Commands.{refusal}
use Rattle.nt_event.specs.Frames.{Frames, base_of, innermost, is_base_body, is_normal_apc_body, is_on_thread, level_in}
use Rattle.nt_event.specs.Frames.{thread_part}
use Rattle.nt_event.specs.Jobs.{has_normal}
use Rattle.nt_event.specs.Regions.{below_in, regions_of, some_came_to_0}
use Rattle.nt_event.specs.Classes.{is_isr_level}
use Rattle.nt_event.specs.Lists.{head_of, is_null}
use Rattle.nt_event.specs.Numbers.{is_thread}
use Rattle.nt_frame.specs.declared.change.Change.{Change}
use Rattle.nt_frame.specs.declared.change.Change.TheVariants.{Acquire, AdvancePlace, EndBase, Free, GoOn, SetAgain}
use Rattle.nt_frame.specs.declared.change.Change.TheVariants.{SetEntered, SetLevel, SpinOn}
use Rattle.nt_frame.specs.Changes.{entered}
use Rattle.nt_event.specs.Families.{by_level_call, by_region_call}

-- the regions of the running thread
abbrev pub regions_in : Frames → Regions
regions_in x = regions_of (thread_part x)

-- the refusal of a command called in the innermost frame; where there is none, no thread calls it
abbrev pub refusal_in : Command → Frames → Option Refusal
refusal_in c x =
    option_map_or (λ f. refusal (level_in x) (not (is_null x.own)) (regions_in x) f c) (innermost x) (Some NotThread)

-- the commands of levels and regions, which the frames alone answer
abbrev pub is_frames_own : Command → Bool
is_frames_own c = by_level_call (λ k. true) (by_region_call (λ k. true) false c) c

-- the lock that the innermost frame acquired last among those that it holds, and the one on which it spins
abbrev pub last_held_in : Frames → Option LockNo
last_held_in x = option_and_then (λ f. option_map (λ h. h.lock) (head_of f.held)) (innermost x)

abbrev pub spinning_in : Frames → Option LockNo
spinning_in x = option_and_then (λ f. option_map (λ h. h.lock) f.spin) (innermost x)

-- the command that enters a region, and the one that leaves it
abbrev pub enter_of : Region → Command
enter_of Crit = EnterCrit
enter_of Guard = EnterGuard

abbrev pub leave_of : Region → Command
leave_of Crit = LeaveCrit
leave_of Guard = LeaveGuard

-- how often regions of the kind are entered and not left
abbrev pub count_of : Region → Regions → ℕ
count_of Crit r = r.crit
count_of Guard r = r.guard

-- the innermost frame is the base of a leaving thread
abbrev pub is_leaving : Frames → Bool
is_leaving x = option_map_or (λ f. f.leaving) (innermost x) false

-- the innermost frame is a base
abbrev pub is_at_base : Frames → Bool
is_at_base x = option_map_or (λ f. is_base_body f.body) (innermost x) false

-- the innermost frame is an APC in its kernel routine, with a normal routine behind it
abbrev pub may_go_on : Frames → Bool
may_go_on x = option_map_or (λ f. f.kernel_phase && has_normal f.body) (innermost x) false

-- a routine may begin here, as far as the frames tell: an interrupt above the level; a DPC below DISPATCH_LEVEL; a
-- threaded DPC at PASSIVE_LEVEL with no frame on the own part (profile); a kernel APC at PASSIVE_LEVEL in a thread
-- whose regions let it through; a user APC where the base routine stands at `touser`; the base of a thread that was
-- just taken up for the first time; a rundown routine in a leaving thread
abbrev pub may_begin : Body → Frames → Bool
may_begin (Int level) x = is_isr_level level && nat_lt (level_in x) level
may_begin (Dpc d) x = nat_lt (level_in x) 2
may_begin (Threaded d) x = (level_in x == 0) && is_null x.own
may_begin (Apc a UserApc) x = is_none (refusal_in ToUser x)
may_begin (Apc a kind) x = is_on_thread x && ((level_in x == 0) && lets_through (regions_in x) kind)
may_begin (Base t) x = is_thread x.running t && (is_null x.own && is_null (thread_part x))
may_begin (Rundown a) x = is_leaving x

-- the end of the innermost frame, which is no base, asks for class 1: it is a normal kernel APC, or its regions held
-- back kernel APCs
abbrev pub end_asks_apc : Frames → Bool
end_asks_apc x =
    option_map_or (λ f. is_normal_apc_body f.body) (innermost x) false || some_came_to_0 (regions_in x) (below_in x)

-- what a change of the innermost frame must meet, so that the frames stay nested
abbrev pub KeepsNested : Change → Frames → Type 0
KeepsNested (SetLevel level) x = ForSome (innermost x) (λ f. base_of f ≤ level)
KeepsNested (SetEntered r n) x = ForSome (innermost x) (λ f. count_of r (regions_in x) + n < 2 ^ 32 + entered r f)
KeepsNested GoOn x = may_go_on x ≡ true
KeepsNested EndBase x = is_at_base x ≡ true
KeepsNested (Acquire k) x = ForSome (innermost x) (λ f. f.level ≤ 2)
KeepsNested (SpinOn k) x = ForSome (innermost x) (λ f. f.level ≤ 2)
KeepsNested (SetAgain a) x = Unit {0}
KeepsNested AdvancePlace x = Unit {0}
KeepsNested Free x = Unit {0}
