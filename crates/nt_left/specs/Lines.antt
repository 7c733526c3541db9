-- The lines of what is left, each field with a space before it.
use Rattle.std.specs.Prelude.{Bool, List, None, Option, Some, [], codes, decimal, false, if◌then◌else◌, length, nat_lt}
use Rattle.std.specs.Prelude.{true, ℕ, ◌++◌, ◌==◌, ◌∷◌}
use Rattle.std.specs.List.{flat_map}
use Rattle.nt_event.specs.declared.frames.Region.{Region}
use Rattle.nt_event.specs.declared.frames.Region.TheVariants.{Crit, Guard}
use Rattle.nt_event.specs.declared.inserts.Setting.{Setting}
use Rattle.nt_event.specs.declared.numbers.ApcNo.{ApcNo}
use Rattle.nt_event.specs.declared.numbers.CpuNo.{CpuNo}
use Rattle.nt_event.specs.declared.numbers.DpcNo.{DpcNo}
use Rattle.nt_event.specs.declared.numbers.LockNo.{LockNo}
use Rattle.nt_event.specs.declared.numbers.ThreadNo.{ThreadNo}
use Rattle.nt_event.specs.declared.numbers.TimerNo.{TimerNo}
use Rattle.nt_event.specs.declared.threads.Waiting.{Waiting}
use Rattle.nt_line.specs.Fields.{alertable_text, mode_text}
use Rattle.nt_line.specs.NameLists.{show_apc, show_dpc, show_lock, show_thread, show_timer}
use Rattle.nt_script.specs.declared.walk.Input.{Input}
use Rattle.nt_text.specs.Lines.{spaced}
use Rattle.nt_left.specs.declared.kinds.ApcCause.{ApcCause}
use Rattle.nt_left.specs.declared.kinds.ApcCause.TheVariants as apc
use Rattle.nt_left.specs.declared.kinds.CpuCause.{CpuCause}
use Rattle.nt_left.specs.declared.kinds.CpuCause.TheVariants as cpu
use Rattle.nt_left.specs.declared.kinds.Left.{Left}
use Rattle.nt_left.specs.declared.kinds.Left.TheVariants as left

abbrev pub field : List ℕ → List ℕ
field word = spaced (word ∷ [])

-- ---- things: `p` and the number of a processor; else the name, or the number of what the script does not have

abbrev pub cpu_field : CpuNo → List ℕ
cpu_field p = codes " p" ++ decimal p.0

abbrev pub named_field : Bool → List ℕ → ℕ → List ℕ
named_field true name number = field name
named_field false name number = field (decimal number)

abbrev pub thread_field : Input → ThreadNo → List ℕ
thread_field input t = named_field (nat_lt t.0 (length input.script.threads)) (show_thread input.names t) t.0

abbrev pub timer_field : Input → TimerNo → List ℕ
timer_field input x = named_field (nat_lt x.0 (length input.script.timers)) (show_timer input.names x) x.0

abbrev pub dpc_field : Input → DpcNo → List ℕ
dpc_field input d = named_field (nat_lt d.0 (length input.script.dpcs)) (show_dpc input.names d) d.0

abbrev pub apc_field : Input → ApcNo → List ℕ
apc_field input a = named_field (nat_lt a.0 (length input.script.apcs)) (show_apc input.names a) a.0

abbrev pub lock_field : Input → LockNo → List ℕ
lock_field input k = named_field (nat_lt k.0 input.script.locks) (show_lock input.names k) k.0

-- a word and a number
abbrev pub counted : List ℕ → ℕ → List ℕ
counted word number = field word ++ field (decimal number)

-- the thread, the frame and the due time, where there is one
abbrev pub owner_field : Input → Option ThreadNo → List ℕ
owner_field input None = []
owner_field input (Some t) = thread_field input t

abbrev pub innermost_fields : Option ℕ → List ℕ
innermost_fields None = []
innermost_fields (Some frame) = counted (codes "frame") frame

abbrev pub due_fields : Option ℕ → List ℕ
due_fields None = []
due_fields (Some due) = counted (codes "due") due

-- a frame: its processor, the thread on whose part it stands, if any, and its number
abbrev pub frame_fields : Input → CpuNo → Option ThreadNo → ℕ → List ℕ
frame_fields input p owner frame = cpu_field p ++ (owner_field input owner ++ counted (codes "frame") frame)

-- ---- words

abbrev pub wait_word : Bool → List ℕ
wait_word true = codes "delay"
wait_word false = codes "wait"

abbrev pub wait_fields : Waiting → List ℕ
wait_fields w = field (wait_word w.delay) ++ (field (mode_text w.mode) ++ field (alertable_text w.alertable))

abbrev pub ready_word : Bool → List ℕ
ready_word true = codes "ready"
ready_word false = codes "unstarted"

abbrev pub region_word : Region → List ℕ
region_word Crit = codes "critical"
region_word Guard = codes "guarded"

-- a timer that expires once has no period
abbrev pub period_fields : ℕ → List ℕ
period_fields period = if period == 0 then [] else counted (codes "period") period

-- what a processor is that does nothing more
abbrev pub stopped_text : CpuCause → List ℕ
stopped_text cpu.Cut = codes " is cut"
stopped_text cpu.Spins = codes " spins"

-- what holds back an APC
abbrev pub apc_text : ApcCause → List ℕ
apc_text apc.Gone = codes " is gone"
apc_text (apc.Stopped cpu.Cut) = codes " is of a cut processor"
apc_text (apc.Stopped cpu.Spins) = codes " is of a spinning processor"
apc_text apc.Wait = codes " is in a wait that takes no user APC"
apc_text apc.Level = codes " is blocked above level 0"
apc_text apc.Guarded = codes " is blocked in a guarded region"
apc_text apc.Critical = codes " is blocked in a critical region"
apc_text apc.InProgress = codes " is blocked in a normal kernel APC"

-- ---- lines

-- a thing that is left, without the end of its line
abbrev pub thing_text : Input → Left → List ℕ
thing_text input (left.Cut p t level frame) = codes "cut"
    ++ (cpu_field p ++ (owner_field input t ++ (innermost_fields frame ++ counted (codes "level") level)))
thing_text input (left.Spins p k) = codes "spins" ++ (cpu_field p ++ lock_field input k)
thing_text input (left.Blocked t w due) = codes "blocked"
    ++ (thread_field input t ++ (wait_fields w ++ (due_fields due ++ counted (codes "of") w.event)))
thing_text input (left.Ready t begun) = ready_word begun ++ thread_field input t
thing_text input (left.Timer x set) = codes "set" ++ (timer_field input x
    ++ (counted (codes "due") set.due ++ (period_fields set.period ++ counted (codes "of") set.number)))
thing_text input (left.Raised p owner frame level base) = codes "raised"
    ++ (frame_fields input p owner frame ++ (counted (codes "level") level ++ counted (codes "above") base))
thing_text input (left.Inside p owner frame region count) = codes "inside"
    ++ (frame_fields input p owner frame ++ counted (region_word region) count)
thing_text input (left.Holds p owner frame k) = codes "holds"
    ++ (frame_fields input p owner frame ++ lock_field input k)
thing_text input (left.Dpc d number queue cause) = codes "waits" ++ (field (decimal number) ++ (codes " dpc"
    ++ (dpc_field input d ++ (codes " as" ++ (cpu_field queue ++ stopped_text cause)))))
thing_text input (left.Apc a number t cause) = codes "waits" ++ (field (decimal number) ++ (codes " apc"
    ++ (apc_field input a ++ (codes " as" ++ (thread_field input t ++ apc_text cause)))))

abbrev pub thing_line : Input → Left → List ℕ
thing_line input x = thing_text input x ++ 10 ∷ []

-- a line for each thing
abbrev pub left_text : Input → List Left → List ℕ
left_text input xs = if length xs == 0 then codes "nothing is left\n" else flat_map (thing_line input) xs
