-- The commands that a run calls have the ranges of the script's.
use Rattle.std.proofs.Common.{subst}
use Rattle.std.specs.List.{AllByRecursion}
use Rattle.std.specs.Option.{option_map_or}
use Rattle.std.specs.Prelude.{Bool, List, None, Option, Some, [], false, if◌then◌else◌, refl, slice_get, true, ℕ, ◌∷◌, ◌≡◌}
use Rattle.nt_event.specs.declared.commands.Command.{Command}
use Rattle.nt_event.specs.declared.commands.Reply.{Reply}
use Rattle.nt_event.specs.declared.events.Event.{Event}
use Rattle.nt_event.specs.declared.events.What.TheVariants.{Call}
use Rattle.nt_event.specs.Frame.{Frame}
use Rattle.nt_event.specs.declared.numbers.CpuNo.{CpuNo}
use Rattle.nt_event.specs.declared.numbers.RoutineNo.{RoutineNo}
use Rattle.nt_event.specs.declared.scripts.Routine.{Routine}
use Rattle.nt_event.specs.declared.scripts.Script.{Script}
use Rattle.nt_event.specs.Lanes.{lanes_at}
use Rattle.nt_event.specs.Own.{own_of}
use Rattle.nt_event.specs.Routines.{command_at, commands_of, next_command, routine_of}
use Rattle.nt_event.specs.Step.{IsRun}
use Rattle.nt_runs.proofs.Known.{Known, KnownCall, legal_known}
use Rattle.nt_runs.proofs.Turns.{is_next}
use Rattle.nt_line.specs.Fits.{HasRange}
use Rattle.nt_ranges.proofs.Lists.{each_at}

abbrev pub CommandsHaveRange : Script → Type 0
CommandsHaveRange s = AllByRecursion (λ r. AllByRecursion HasRange r.commands) s.routines

-- a command at a place of a routine has its range, if all commands of the script have theirs
in_routine : (s : Script) (o : Option RoutineNo) (i : ℕ) (c : Command) → CommandsHaveRange s → slice_get (commands_of s o) i ≡ Some c → HasRange c
in_routine s None i c h e = each_at HasRange [] i c tt e
in_routine s (Some r) i c h e = go (slice_get s.routines r.0) refl e
  where
    go : (o : Option Routine) → slice_get s.routines r.0 ≡ o → slice_get (option_map_or (λ x. x.commands) o []) i ≡ Some c → HasRange c
    go None p q = each_at HasRange [] i c tt q
    go (Some x) p q =
        each_at HasRange x.commands i c (each_at (λ r. AllByRecursion HasRange r.commands) s.routines r.0 x h p) q

-- the next command of a frame has its range, if all commands of the script have theirs
next_has_range : (s : Script) (p : CpuNo) (f : Frame) (c : Command) → CommandsHaveRange s → next_command s p f ≡ Some c → HasRange c
next_has_range s p f c h e = go f.leaving e
  where
    go : (b : Bool) → (if b then None else command_at s p f.body f.kernel_phase f.place) ≡ Some c → HasRange c
    go true q = absurd (no q)
      where
        no : ◌≡◌ {A = Option Command} None (Some c) → ⊥
        no k = cc
    go false q = in_routine s (routine_of s p f.body f.kernel_phase) f.place c h q

-- a command that a run calls has its range, if the commands of the script have theirs
pub called_has_range : (s : Script) (limit : ℕ) (e : Event) (past : List Event) (f : ℕ) (c : Command) (y : Reply) → CommandsHaveRange s →
    IsRun s limit (e ∷ past) → e.what ≡ Call f c y → HasRange c
called_has_range s limit e past f c y h r k =
    let next : is_next e.what ≡ true = rw k refl in
    let q : KnownCall s e.cpu (own_of s e.cpu past) (lanes_at s past) f c y = subst (Known s e.cpu (own_of s e.cpu past) (lanes_at s past)) k
    (legal_known s limit e past r.0 next) in
    next_has_range s e.cpu q.frame c h q.command
