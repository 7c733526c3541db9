-- What stands on processors, by their frames.
use Rattle.std.specs.List.{list_any}
use Rattle.std.specs.Prelude.{Bool, List, [], false, ◌&&◌, ◌++◌, ◌||◌, ◌∷◌, ◌≡◌, ℕ}
use Rattle.nt_event.specs.declared.events.Event.{Event}
use Rattle.nt_event.specs.declared.frames.Body.{Body}
use Rattle.nt_event.specs.declared.scripts.Script.{Script}
use Rattle.nt_event.specs.Frame.{Frame}
use Rattle.nt_event.specs.Frames.{Frames, thread_part}
use Rattle.nt_event.specs.Numbers.{is_thread}
use Rattle.nt_event.specs.Step.{IsRun}
use Rattle.nt_cpu.specs.States.{CpuState}
use Rattle.nt_cpus.specs.Following.{cpus_of}
use Rattle.nt_expect.specs.declared.expectations.Activity.{Activity}
use Rattle.nt_expect.specs.declared.expectations.Activity.TheVariants as act
use Rattle.nt_expect.specs.Meaning.{apc_in, dpc_in, int_in}

-- the routine is one of the activity
abbrev pub body_in : Activity → Body → Bool
body_in (act.Int level) b = int_in level b
body_in (act.Dpc d) b = dpc_in d b
body_in (act.Apc a) b = apc_in a b
body_in (act.Thread t) b = false

-- one of these frames is of the activity
abbrev pub is_open : Activity → List Frame → Bool
is_open x fs = list_any (λ f. body_in x f.body) fs

-- it stands on the processor of these frames: one of the open frames is of it, or the thread runs
abbrev pub stands_in : Activity → Frames → Bool
stands_in (act.Int level) x = is_open (act.Int level) (x.own ++ thread_part x)
stands_in (act.Dpc d) x = is_open (act.Dpc d) (x.own ++ thread_part x)
stands_in (act.Apc a) x = is_open (act.Apc a) (x.own ++ thread_part x)
stands_in (act.Thread t) x = is_thread x.running t

abbrev pub stands_at : Activity → CpuState → Bool
stands_at x c = stands_in x c.own.frames

-- one stands on the first of these processors, and the other on a later one
abbrev pub stand_apart : Activity → Activity → CpuState → List CpuState → Bool
stand_apart x y c later = stands_at x c && list_any (stands_at y) later

-- both stand on two of these processors
abbrev pub stand_together : Activity → Activity → List CpuState → Bool
stand_together x y [] = false
stand_together x y (c ∷ later) = stand_apart x y c later || (stand_apart y x c later || stand_together x y later)

-- this past is a run of the script, and the processors are as it leaves them
pub record StandAfter (s : Script) (past : List Event) (cpus : List CpuState) : Type 0 where
  pub limit : ℕ
  pub run : IsRun s limit past
  pub every : cpus ≡ cpus_of s limit past
