-- The words by which a thing of a script is named.
use Rattle.std.specs.Prelude.{Err, List, None, Ok, Option, Result, Some, [], codes, if◌then◌else◌, ℕ, ◌==◌, ◌∷◌}
use Rattle.std.specs.Str.{bytes_eq}
use Rattle.nt_event.specs.declared.numbers.ApcNo.{ApcNo}
use Rattle.nt_event.specs.declared.numbers.CpuNo.{CpuNo}
use Rattle.nt_event.specs.declared.numbers.DpcNo.{DpcNo}
use Rattle.nt_event.specs.declared.numbers.ThreadNo.{ThreadNo}
use Rattle.nt_event.specs.declared.numbers.TimerNo.{TimerNo}
use Rattle.nt_text.specs.declared.kind.ScriptKind.{ScriptKind}
use Rattle.nt_line.specs.Fields.{read_apc, read_cpu, read_dpc, read_isr_level, read_thread, read_timer}
use Rattle.nt_line.specs.NameLists.{NameLists}
use Rattle.nt_why.specs.declared.fates.Object.TheVariants.{Apc, Dpc}
use Rattle.nt_why.specs.declared.things.Thing.{Thing}
use Rattle.nt_why.specs.declared.things.Thing.TheVariants as thing

abbrev pub as_dpc : Result DpcNo ScriptKind → Option Thing
as_dpc (Ok d) = Some (thing.Object (Dpc d))
as_dpc (Err k) = None

abbrev pub as_apc : Result ApcNo ScriptKind → Option Thing
as_apc (Ok a) = Some (thing.Object (Apc a))
as_apc (Err k) = None

abbrev pub as_timer : Result TimerNo ScriptKind → Option Thing
as_timer (Ok t) = Some (thing.Timer t)
as_timer (Err k) = None

abbrev pub as_thread : Result ThreadNo ScriptKind → Option Thing
as_thread (Ok t) = Some (thing.Thread t)
as_thread (Err k) = None

-- the thing that two words name among these names: `dpc`, `apc`, `thread` or `timer`, and the name of such a thing
abbrev pub read_words : NameLists → List ℕ → List ℕ → Option Thing
read_words names kind name =
    if bytes_eq kind (codes "dpc") then as_dpc (read_dpc names name)
    else (if bytes_eq kind (codes "apc") then as_apc (read_apc names name)
    else (if bytes_eq kind (codes "thread") then as_thread (read_thread names name)
    else (if bytes_eq kind (codes "timer") then as_timer (read_timer names name) else None)))

-- the word of a processor, without a `p` before its number
abbrev pub bare : List ℕ → List ℕ
bare [] = []
bare (x ∷ xs) = if x == 112 then xs else (x ∷ xs)

abbrev pub as_interrupt : Result CpuNo ScriptKind → Result ℕ ScriptKind → Option Thing
as_interrupt (Ok p) (Ok level) = Some (thing.Interrupt p level)
as_interrupt (Ok p) (Err k) = None
as_interrupt (Err k) level = None

-- the interrupt that two words name: a processor of so many, as `1` or `p1`, and a level that an interrupt may have
abbrev pub read_interrupt_words : ℕ → List ℕ → List ℕ → Option Thing
read_interrupt_words cpus cpu level = as_interrupt (read_cpu cpus (bare cpu)) (read_isr_level level)
