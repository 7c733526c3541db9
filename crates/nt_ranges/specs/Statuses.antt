-- The statuses that a run tells.
use Rattle.std.specs.Prelude.{Bool, IfSome, List, true, ℕ, ◌==◌, ◌||◌, ◌∷◌, ◌≡◌}
use Rattle.nt_event.specs.declared.commands.Reply.{Reply}
use Rattle.nt_event.specs.declared.commands.Reply.TheVariants.{Blocked, Done, No, Refused, Spin, Status, Yes}
use Rattle.nt_event.specs.declared.events.Event.{Event}
use Rattle.nt_event.specs.declared.events.What.{What}
use Rattle.nt_event.specs.declared.events.What.TheVariants.{Begin, Call, Clean, End, Expire, Fire, Flush, Free, Gone}
use Rattle.nt_event.specs.declared.events.What.TheVariants.{Look, Normal, Rest, Rewait, Switch}
use Rattle.nt_event.specs.declared.scripts.Script.{Script}
use Rattle.nt_event.specs.Replies.{alerted, kernel_apc, satisfied, user_apc}
use Rattle.nt_event.specs.Step.{IsRun}

-- the status with which a wait may end
abbrev pub is_wait_status : ℕ → Bool
is_wait_status x = (x == satisfied) || ((x == user_apc) || ((x == kernel_apc) || (x == alerted)))

abbrev pub IsWaitStatus : ℕ → Type 0
IsWaitStatus x = is_wait_status x ≡ true

abbrev pub ReplyIsOfWait : Reply → Type 0
ReplyIsOfWait (Status x) = IsWaitStatus x
ReplyIsOfWait Done = Unit {0}
ReplyIsOfWait Yes = Unit {0}
ReplyIsOfWait No = Unit {0}
ReplyIsOfWait Blocked = Unit {0}
ReplyIsOfWait Spin = Unit {0}
ReplyIsOfWait (Refused r) = Unit {0}

-- the status that an event tells, if it tells one, is that of a wait
abbrev pub TellsWaitStatus : What → Type 0
TellsWaitStatus (Call frame c reply) = ReplyIsOfWait reply
TellsWaitStatus (Fire d reply) = ReplyIsOfWait reply
TellsWaitStatus (Rewait frame reply) = ReplyIsOfWait reply
TellsWaitStatus (Switch t status) = IfSome status IsWaitStatus
TellsWaitStatus (Look rises) = Unit {0}
TellsWaitStatus (Begin begun from) = Unit {0}
TellsWaitStatus (Normal frame) = Unit {0}
TellsWaitStatus (End frame) = Unit {0}
TellsWaitStatus (Expire key from) = Unit {0}
TellsWaitStatus (Clean class) = Unit {0}
TellsWaitStatus (Flush a from) = Unit {0}
TellsWaitStatus (Gone t) = Unit {0}
TellsWaitStatus (Free frame l) = Unit {0}
TellsWaitStatus Rest = Unit {0}

-- in a run each status that is told is that of a wait
abbrev pub StatusesAreThoseOfWaits : Type 0
StatusesAreThoseOfWaits = (s : Script) (limit : ℕ) (e : Event) (past : List Event) → IsRun s limit (e ∷ past) →
    TellsWaitStatus e.what
