-- Calls: which commands begin a wait, and which end the thread's turn on its processor.
use Rattle.std.specs.Prelude.{Bool, None, Option, Some, ℕ, ◌||◌}
use Rattle.nt_event.specs.declared.commands.Command.{Command}
use Rattle.nt_event.specs.declared.commands.Reply.{Reply}
use Rattle.nt_event.specs.declared.frames.Again.{Again}
use Rattle.nt_event.specs.Replies.{is_blocked}
use Rattle.nt_event.specs.Families.{DelaysIn, GivesWay, OwnCall, TestsAlert, WaitsIn, by_own_call}
use Rattle.nt_event.specs.Replies.{is_done}

abbrev pub own_wait : Option ℕ → OwnCall → Option Again
own_wait due (WaitsIn m a) = Some (record { mode = m; alertable = a; due = None })
own_wait due (DelaysIn m a units) = Some (record { mode = m; alertable = a; due = due })
own_wait due (TestsAlert m) = None
own_wait due GivesWay = None

-- the wait that a command begins; that of a delay has this due time
abbrev pub wait_begun : Option ℕ → Command → Option Again
wait_begun due c = by_own_call (λ k. own_wait due k) None c

abbrev pub own_stops : OwnCall → Reply → Bool
own_stops GivesWay y = is_done y || is_blocked y
own_stops (WaitsIn m a) y = is_blocked y
own_stops (DelaysIn m a units) y = is_blocked y
own_stops (TestsAlert m) y = is_blocked y

-- the thread that calls the command runs no more: it blocks, or gives way
abbrev pub stops : Command → Reply → Bool
stops c y = by_own_call (λ k. own_stops k y) (is_blocked y) c
