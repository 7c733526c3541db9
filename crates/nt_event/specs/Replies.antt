-- Replies: which are done, yes, an answer, blocked or refused; and the statuses of waits.
use Rattle.std.specs.Prelude.{Bool, None, Option, Some, false, true, ℕ}
use Rattle.nt_event.specs.declared.commands.Mode.{Mode}
use Rattle.nt_event.specs.declared.commands.Mode.TheVariants.{Kernel as KernelMode, User as UserMode}
use Rattle.nt_event.specs.declared.commands.Reply.{Reply}
use Rattle.nt_event.specs.declared.commands.Reply.TheVariants.{Blocked, Done, No, Refused, Spin, Status, Yes}

abbrev pub is_done : Reply → Bool
is_done Done = true
is_done Yes = false
is_done No = false
is_done (Status status) = false
is_done Blocked = false
is_done Spin = false
is_done (Refused r) = false

abbrev pub is_yes : Reply → Bool
is_yes Yes = true
is_yes Done = false
is_yes No = false
is_yes (Status status) = false
is_yes Blocked = false
is_yes Spin = false
is_yes (Refused r) = false

abbrev pub is_no : Reply → Bool
is_no No = true
is_no Done = false
is_no Yes = false
is_no (Status status) = false
is_no Blocked = false
is_no Spin = false
is_no (Refused r) = false

-- the thing that a command with reply yes is about
abbrev pub some_if_yes : {A : Type 0} → A → Reply → Option A
some_if_yes x Yes = Some x
some_if_yes x Done = None
some_if_yes x No = None
some_if_yes x (Status status) = None
some_if_yes x Blocked = None
some_if_yes x Spin = None
some_if_yes x (Refused r) = None

-- yes or no
abbrev pub is_answer : Reply → Bool
is_answer Yes = true
is_answer No = true
is_answer Done = false
is_answer (Status status) = false
is_answer Blocked = false
is_answer Spin = false
is_answer (Refused r) = false

abbrev pub is_blocked : Reply → Bool
is_blocked Blocked = true
is_blocked Done = false
is_blocked Yes = false
is_blocked No = false
is_blocked (Status status) = false
is_blocked Spin = false
is_blocked (Refused r) = false

abbrev pub is_refused : Reply → Bool
is_refused (Refused r) = true
is_refused Done = false
is_refused Yes = false
is_refused No = false
is_refused (Status status) = false
is_refused Blocked = false
is_refused Spin = false

-- the lock is held by another frame
abbrev pub is_spin : Reply → Bool
is_spin Spin = true
is_spin Done = false
is_spin Yes = false
is_spin No = false
is_spin (Status status) = false
is_spin Blocked = false
is_spin (Refused r) = false

abbrev pub yes_if : Bool → Reply
yes_if true = Yes
yes_if false = No

-- STATUS_SUCCESS: the wait is satisfied, or the delay is over
abbrev pub satisfied : ℕ
satisfied = 0

-- STATUS_USER_APC
abbrev pub user_apc : ℕ
user_apc = 192

-- STATUS_KERNEL_APC
abbrev pub kernel_apc : ℕ
kernel_apc = 256

-- STATUS_ALERTED
abbrev pub alerted : ℕ
alerted = 257

abbrev pub is_user : Mode → Bool
is_user UserMode = true
is_user KernelMode = false
