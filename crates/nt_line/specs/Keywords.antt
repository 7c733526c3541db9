-- The keywords that begin a line.
use Rattle.std.specs.Prelude.{ℕ, Bool, true, false, ◌&&◌, nat_le, List, Option, Some, None, codes, find, if◌then◌else◌}
use Rattle.std.specs.Str.{bytes_eq}
use Rattle.nt_event.specs.declared.commands.ApcKind.TheVariants.{Special, Normal, User}
use Rattle.nt_line.specs.declared.names.Kind.{Kind}
use Rattle.nt_line.specs.declared.names.Kind.TheVariants as kind
use Rattle.nt_line.specs.declared.keywords.Verb.{Verb}
use Rattle.nt_line.specs.declared.keywords.Verb.TheVariants as verb
use Rattle.nt_line.specs.declared.keywords.Keyword.{Keyword}
use Rattle.nt_line.specs.declared.keywords.Keyword.TheVariants.{Version, Cpus, Depth, Threaded, Isr, Dpc, Timer, Thread}
use Rattle.nt_line.specs.declared.keywords.Keyword.TheVariants.{Apc, Spinlock, Routine, Exit, Call}
use Rattle.nt_line.specs.declared.keywords.Place.{Place}
use Rattle.nt_line.specs.declared.keywords.Place.TheVariants.{Start, HasVersion, HasCpus, HasDepth, HasThreaded, InIsrs}
use Rattle.nt_line.specs.declared.keywords.Place.TheVariants.{InDpcs, InTimers, InThreads, InApcs, InLocks, InRoutines}
use Rattle.nt_line.specs.declared.keywords.Place.TheVariants.{InRoutine}
use Rattle.nt_line.specs.declared.keywords.TheConstants.{KEYWORDS}

abbrev pub verb_text : Verb → List ℕ
verb_text verb.Raise = codes "raise"
verb_text verb.Lower = codes "lower"
verb_text verb.Queue = codes "queue"
verb_text verb.Unqueue = codes "unqueue"
verb_text verb.SetImportance = codes "importance"
verb_text verb.SetTarget = codes "target"
verb_text verb.SetTimer = codes "settimer"
verb_text verb.CancelTimer = codes "canceltimer"
verb_text verb.InsertApc = codes "apc"
verb_text verb.RemoveApc = codes "unapc"
verb_text verb.EnterCrit = codes "entercrit"
verb_text verb.EnterGuard = codes "enterguard"
verb_text verb.LeaveCrit = codes "leavecrit"
verb_text verb.LeaveGuard = codes "leaveguard"
verb_text verb.StartWait = codes "wait"
verb_text verb.Delay = codes "delay"
verb_text verb.Release = codes "release"
verb_text verb.Alert = codes "alert"
verb_text verb.TestAlert = codes "testalert"
verb_text verb.Interrupt = codes "interrupt"
verb_text verb.Clock = codes "clock"
verb_text verb.ToUser = codes "touser"
verb_text verb.Yield = codes "yield"
verb_text verb.Acquire = codes "acquire"
verb_text verb.Unlock = codes "unlock"
verb_text verb.Note = codes "note"

abbrev pub text_of : Keyword → List ℕ
text_of Version = codes "version"
text_of Cpus = codes "cpus"
text_of Depth = codes "depth"
text_of Threaded = codes "threaded"
text_of Isr = codes "isr"
text_of (Dpc false) = codes "dpc"
text_of (Dpc true) = codes "tdpc"
text_of Timer = codes "timer"
text_of Thread = codes "thread"
text_of (Apc Special) = codes "special"
text_of (Apc Normal) = codes "normal"
text_of (Apc User) = codes "user"
text_of Spinlock = codes "spinlock"
text_of Routine = codes "routine"
text_of Exit = codes "exit"
text_of (Call verb) = verb_text verb

-- the first version of scripts that has the keyword
abbrev pub verb_since : Verb → ℕ
verb_since verb.Raise = 1
verb_since verb.Lower = 1
verb_since verb.Queue = 1
verb_since verb.Unqueue = 1
verb_since verb.SetImportance = 1
verb_since verb.SetTarget = 1
verb_since verb.SetTimer = 1
verb_since verb.CancelTimer = 1
verb_since verb.InsertApc = 1
verb_since verb.RemoveApc = 1
verb_since verb.EnterCrit = 1
verb_since verb.EnterGuard = 1
verb_since verb.LeaveCrit = 1
verb_since verb.LeaveGuard = 1
verb_since verb.StartWait = 1
verb_since verb.Delay = 1
verb_since verb.Release = 1
verb_since verb.Alert = 1
verb_since verb.TestAlert = 1
verb_since verb.Interrupt = 1
verb_since verb.Clock = 1
verb_since verb.ToUser = 1
verb_since verb.Yield = 1
verb_since verb.Acquire = 2
verb_since verb.Unlock = 2
verb_since verb.Note = 1

abbrev pub since : Keyword → ℕ
since Version = 2
since Cpus = 1
since Depth = 1
since Threaded = 1
since Isr = 1
since (Dpc threaded) = 1
since Timer = 1
since Thread = 1
since (Apc k) = 1
since Spinlock = 2
since Routine = 1
since Exit = 1
since (Call verb) = verb_since verb

-- the keyword that a field is, of whatever version
unfoldable pub word_of : List ℕ → Option Keyword
word_of field = find (λ w. bytes_eq field (text_of w)) KEYWORDS

-- a keyword that this version has
abbrev pub in_version : ℕ → Option Keyword → Option Keyword
in_version version (Some keyword) = if nat_le (since keyword) version then Some keyword else None
in_version version None = None

-- the keyword that a field is in texts of this version
abbrev pub keyword_of : ℕ → List ℕ → Option Keyword
keyword_of version field = in_version version (word_of field)

-- how many fields follow
abbrev pub verb_arity : Verb → ℕ
verb_arity verb.Raise = 1
verb_arity verb.Lower = 1
verb_arity verb.Queue = 1
verb_arity verb.Unqueue = 1
verb_arity verb.SetImportance = 2
verb_arity verb.SetTarget = 2
verb_arity verb.SetTimer = 3
verb_arity verb.CancelTimer = 1
verb_arity verb.InsertApc = 1
verb_arity verb.RemoveApc = 1
verb_arity verb.EnterCrit = 0
verb_arity verb.EnterGuard = 0
verb_arity verb.LeaveCrit = 0
verb_arity verb.LeaveGuard = 0
verb_arity verb.StartWait = 2
verb_arity verb.Delay = 3
verb_arity verb.Release = 1
verb_arity verb.Alert = 2
verb_arity verb.TestAlert = 1
verb_arity verb.Interrupt = 2
verb_arity verb.Clock = 1
verb_arity verb.ToUser = 0
verb_arity verb.Yield = 0
verb_arity verb.Acquire = 1
verb_arity verb.Unlock = 1
verb_arity verb.Note = 1

abbrev pub arity : Keyword → ℕ
arity Version = 1
arity Cpus = 1
arity Depth = 1
arity Threaded = 1
arity Isr = 3
arity (Dpc threaded) = 2
arity Timer = 2
arity Thread = 3
arity (Apc Special) = 3
arity (Apc Normal) = 4
arity (Apc User) = 5
arity Spinlock = 1
arity Routine = 1
arity Exit = 0
arity (Call verb) = verb_arity verb

-- of what kind a thing is that such a line declares
abbrev pub declaring : Keyword → Option Kind
declaring (Dpc threaded) = Some kind.Dpc
declaring Timer = Some kind.Timer
declaring Thread = Some kind.Thread
declaring (Apc k) = Some kind.Apc
declaring Spinlock = Some kind.Lock
declaring Routine = Some kind.Routine
declaring Version = None
declaring Cpus = None
declaring Depth = None
declaring Threaded = None
declaring Isr = None
declaring Exit = None
declaring (Call verb) = None

-- ---- the order of the lines

abbrev pub order : Place → ℕ
order Start = 0
order HasVersion = 1
order HasCpus = 2
order HasDepth = 3
order HasThreaded = 4
order InIsrs = 5
order InDpcs = 6
order InTimers = 7
order InThreads = 8
order InApcs = 9
order InLocks = 10
order InRoutines = 11
order InRoutine = 12

-- the first and the last place behind which such a line may stand
abbrev pub earliest : Keyword → ℕ
earliest Version = 0
earliest Cpus = 1
earliest Depth = 2
earliest Threaded = 2
earliest Isr = 2
earliest (Dpc threaded) = 2
earliest Timer = 2
earliest Thread = 2
earliest (Apc k) = 2
earliest Spinlock = 2
earliest Routine = 2
earliest Exit = 12
earliest (Call verb) = 12

abbrev pub latest : Keyword → ℕ
latest Version = 0
latest Cpus = 1
latest Depth = 2
latest Threaded = 3
latest Isr = 5
latest (Dpc threaded) = 6
latest Timer = 7
latest Thread = 8
latest (Apc k) = 9
latest Spinlock = 10
latest Routine = 11
latest Exit = 12
latest (Call verb) = 12

-- whether such a line may stand behind what was read last
abbrev pub stands : Place → Keyword → Bool
stands place keyword = nat_le (earliest keyword) (order place) && nat_le (order place) (latest keyword)
