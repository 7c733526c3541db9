-- The things that are left, kind after kind, each kind in the order of its numbers.
use Rattle.std.specs.Prelude.{List, None, Option, Some, if◌then◌else◌, length, map, nat_lt, not}
use Rattle.std.specs.Prelude.{option_and_then}
use Rattle.std.specs.Prelude.{option_map, reverse, ℕ, ◌++◌}
use Rattle.nt_event.specs.declared.events.Event.{Event}
use Rattle.nt_event.specs.declared.frames.Held.{Held}
use Rattle.nt_event.specs.declared.frames.Region.{Region}
use Rattle.nt_event.specs.declared.frames.Region.TheVariants.{Crit, Guard}
use Rattle.nt_event.specs.declared.inserts.Pick.{Pick}
use Rattle.nt_event.specs.declared.inserts.Setting.{Setting}
use Rattle.nt_event.specs.declared.inserts.Standing.{Standing}
use Rattle.nt_event.specs.declared.numbers.CpuNo.{CpuNo}
use Rattle.nt_event.specs.declared.numbers.DpcNo.{DpcNo}
use Rattle.nt_event.specs.declared.numbers.ThreadNo.{ThreadNo}
use Rattle.nt_event.specs.declared.numbers.TimerNo.{TimerNo}
use Rattle.nt_event.specs.declared.scripts.Script.{Script}
use Rattle.nt_event.specs.declared.threads.Doing.{Doing}
use Rattle.nt_event.specs.declared.threads.Doing.TheVariants as doings
use Rattle.nt_event.specs.Frame.{Frame}
use Rattle.nt_event.specs.Frames.{Frames, base_of, innermost, level_in, own_frames, thread_frames}
use Rattle.nt_event.specs.Jobs.{spins_still}
use Rattle.nt_event.specs.Lists.{head_of, is_null, when}
use Rattle.nt_event.specs.Numbers.{cpu, dpc, thread, timer}
use Rattle.nt_event.specs.Objects.{standing}
use Rattle.nt_event.specs.Own.{Own, own_of}
use Rattle.nt_event.specs.Routines.{cpu_of}
use Rattle.nt_event.specs.Step.{is_cut}
use Rattle.nt_event.specs.Threads.{ThreadFacts}
use Rattle.nt_event.specs.Timers.{timer_setting}
use Rattle.nt_event.specs.Waits.{facts}
use Rattle.nt_frame.specs.Rules.{spinning_in}
use Rattle.nt_left.specs.declared.kinds.Left.{Left}
use Rattle.nt_left.specs.declared.kinds.Left.TheVariants as left
use Rattle.nt_left.specs.Causes.{apc_cause, cpu_cause}
use Rattle.nt_left.specs.Lists.{along, as_list, joined}

-- ---- processors

abbrev pub innermost_name : Frames → Option ℕ
innermost_name x = option_map (λ f. f.name) (innermost x)

abbrev pub cut_item : CpuNo → Frames → Left
cut_item p x = left.Cut p x.running (level_in x) (innermost_name x)

-- a processor that keeps this is cut, or spins still
abbrev pub cpu_item : ℕ → CpuNo → Own → Option Left
cpu_item limit p x =
    if is_cut limit x then Some (cut_item p x.frames)
    else when (spins_still x) (option_map (λ k. left.Spins p k) (spinning_in x.frames))

abbrev pub cpu_part : Script → ℕ → List Event → List Left
cpu_part s limit past = joined s.cpus (λ p. as_list (cpu_item limit (cpu p) (own_of s (cpu p) past)))

-- ---- threads

-- when the delay is due in which the thread of these frames is blocked
abbrev pub due_in : List Frame → Option ℕ
due_in fs = option_and_then (λ f. option_and_then (λ w. w.due) f.again) (head_of fs)

-- a thread that does so and has these frames is blocked, or ready
abbrev pub thread_item : ThreadNo → Doing → List Frame → Option Left
thread_item t (doings.Blocked w) fs = Some (left.Blocked t w (due_in fs))
thread_item t (doings.Ready level status) fs = Some (left.Ready t (not (is_null fs)))
thread_item t doings.Running fs = None
thread_item t doings.Gone fs = None

abbrev pub frames_at : Script → ThreadNo → List Event → List Frame
frames_at s t past = thread_frames s (cpu_of s t) t past

abbrev pub thread_at : Script → List Event → ThreadNo → Option Left
thread_at s past t = thread_item t (facts s t past).doing (frames_at s t past)

abbrev pub thread_part : Script → List Event → List Left
thread_part s past = joined (length s.threads) (λ t. as_list (thread_at s past (thread t)))

-- ---- timers

abbrev pub timer_item : TimerNo → Option Setting → Option Left
timer_item t x = option_map (λ k. left.Timer t k) x

abbrev pub timer_part : Script → List Event → List Left
timer_part s past = joined (length s.timers) (λ t. as_list (timer_item (timer t) (timer_setting (timer t) past)))

-- ---- frames

abbrev pub raised_item : CpuNo → Option ThreadNo → Frame → Option Left
raised_item p o f = when (nat_lt (base_of f) f.level) (Some (left.Raised p o f.name f.level (base_of f)))

abbrev pub inside_item : CpuNo → Option ThreadNo → ℕ → Region → ℕ → Option Left
inside_item p o n r count = when (nat_lt 0 count) (Some (left.Inside p o n r count))

abbrev pub holds_item : CpuNo → Option ThreadNo → ℕ → Held → Left
holds_item p o n h = left.Holds p o n h.lock

-- what a frame leaves: its level, its regions, and its locks in the order in which it acquired them
abbrev pub frame_items : CpuNo → Option ThreadNo → Frame → List Left
frame_items p o f =
    as_list (raised_item p o f) ++ as_list (inside_item p o f.name Crit f.crit)
    ++ as_list (inside_item p o f.name Guard f.guard) ++ map (holds_item p o f.name) (reverse f.held)

-- of frames, the outermost first
abbrev pub frames_items : CpuNo → Option ThreadNo → List Frame → List Left
frames_items p o fs = along (frame_items p o) (reverse fs)

-- of the parts of threads on a processor
abbrev pub threads_on : Script → List Event → CpuNo → List Left
threads_on s past p =
    joined (length s.threads) (λ t. frames_items p (Some (thread t)) (thread_frames s p (thread t) past))

-- of a processor: its own part, then those
abbrev pub frames_on : Script → List Event → CpuNo → List Left
frames_on s past p = frames_items p None (own_frames p past) ++ threads_on s past p

abbrev pub frame_part : Script → List Event → List Left
frame_part s past = joined s.cpus (λ p. frames_on s past (cpu p))

-- ---- inserts

abbrev pub dpc_item : Script → ℕ → List Event → DpcNo → Option Standing → Option Left
dpc_item s limit past d x =
    option_map (λ i. left.Dpc d i.number i.queue (cpu_cause limit (own_of s i.queue past))) x

abbrev pub dpc_part : Script → ℕ → List Event → List Left
dpc_part s limit past =
    joined (length s.dpcs) (λ d. as_list (dpc_item s limit past (dpc d) (standing (dpc d) past)))

abbrev pub apc_item : ℕ → Own → ThreadNo → Doing → Pick → Left
apc_item limit x t doing i = left.Apc i.apc i.number t (apc_cause limit x doing i.kind)

-- of a thread with these facts, whose processor keeps this, in the order in which they came
abbrev pub apc_items : ℕ → Own → ThreadNo → ThreadFacts → List Left
apc_items limit x t y = map (apc_item limit x t y.doing) (reverse y.apcs.pending)

abbrev pub apc_part : Script → ℕ → List Event → List Left
apc_part s limit past =
    joined (length s.threads)
    (λ t. apc_items limit (own_of s (cpu_of s (thread t)) past) (thread t) (facts s (thread t) past))

-- ---- the whole

abbrev pub left_of : Script → ℕ → List Event → List Left
left_of s limit past =
    cpu_part s limit past ++ thread_part s past ++ timer_part s past ++ frame_part s past ++ dpc_part s limit past
    ++ apc_part s limit past
