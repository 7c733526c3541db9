-- The worked row refused-turns: turns that give no event, after a thread asked another processor for an interrupt.
use Rattle.std.specs.Prelude.{Err, List, [], length, ℕ, ◌∷◌, ◌≡◌}
use Rattle.nt_event.specs.declared.commands.Command.TheVariants.{Interrupt}
use Rattle.nt_event.specs.declared.events.Event.{Event}
use Rattle.nt_event.specs.declared.events.ScheduleKind.TheVariants.{BadChoice, BadLook, NoSuchCpu, NothingToDo}
use Rattle.nt_event.specs.declared.events.Turn.{Turn}
use Rattle.nt_event.specs.declared.events.Turn.TheVariants.{Look, Next, Switch}
use Rattle.nt_event.specs.declared.numbers.RoutineNo.{RoutineNo}
use Rattle.nt_event.specs.declared.numbers.ThreadNo.{ThreadNo}
use Rattle.nt_event.specs.declared.scripts.Script.{Script}
use Rattle.nt_event.specs.Lists.{table}
use Rattle.nt_event.specs.Numbers.{cpu, routine, thread}
use Rattle.nt_event.specs.Step.{step}
use Rattle.nt_rows.specs.Plain.{plain}
use Rattle.nt_rows.specs.Rows.{made_by, risen, runs, thread_on}

abbrev pub a : ThreadNo
a = thread 0

abbrev pub ra : RoutineNo
ra = routine 0

-- the script
abbrev pub script : Script
script =
    record plain {
      cpus = 2;
      threads = thread_on 0 ra ∷ [];
      routines = runs (Interrupt (cpu 1) 5 ∷ []) ∷ [];
    }

-- the thread is taken up, the other processor rests, and event 2 asks it for class 5
abbrev pub schedule : List Turn
schedule = Switch (cpu 0) a ∷ Next (cpu 1) ∷ Next (cpu 0) ∷ []

abbrev pub past : List Event
past = made_by script 10000 schedule []

-- a look of processor 1 at which class 5 rises to this value, or to 0 and then does not rise
abbrev pub look : ℕ → Turn
look value = Look (cpu 1) (record { value = table 16 (risen ((5, value) ∷ [])) })

-- none of the turns is refused, and each of these would be after them
pub record AreRefused : Type 0 where
  pub made : length past ≡ 3
  pub no_such_cpu : step script 10000 (Next (cpu 2)) past ≡ Err NoSuchCpu
  pub rests : step script 10000 (Next (cpu 1)) past ≡ Err NothingToDo
  pub not_asked : step script 10000 (look 2) past ≡ Err BadLook
  pub no_rise : step script 10000 (look 0) past ≡ Err BadLook
  pub not_its_own : step script 10000 (Switch (cpu 1) a) past ≡ Err BadChoice
  pub not_ready : step script 10000 (Switch (cpu 0) a) past ≡ Err BadChoice
