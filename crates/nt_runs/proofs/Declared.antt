-- What a script that fits declares fits: the commands of its routines, and the objects of its timers.
use Rattle.std.proofs.Common.{subst}
use Rattle.std.proofs.lemmas.List.Sums.{AllPass-from_list_all}
use Rattle.std.proofs.lemmas.Option.{get_or_from_slice_get, slice_get_within}
use Rattle.std.specs.List.{list_all}
use Rattle.std.specs.Option.{option_map_or}
use Rattle.std.specs.Prelude.{Bool, IfSome, List, None, Option, Some, false, if◌then◌else◌, length, option_and_then, refl, slice_get, true, ℕ, ◌<◌, ◌∷◌, []}
use Rattle.std.specs.Prelude.{◌≡◌}
use Rattle.nt_event.specs.declared.commands.Command.{Command}
use Rattle.nt_event.specs.declared.commands.TimerKey.TheVariants.{Delay as OfDelay, Timer as OfTimer}
use Rattle.nt_event.specs.declared.events.Event.{Event}
use Rattle.nt_event.specs.declared.events.What.{What}
use Rattle.nt_event.specs.declared.events.What.TheVariants.{Expire, Fire}
use Rattle.nt_event.specs.Frame.{Frame}
use Rattle.nt_event.specs.declared.numbers.CpuNo.{CpuNo}
use Rattle.nt_event.specs.declared.numbers.DpcNo.{DpcNo}
use Rattle.nt_event.specs.declared.numbers.RoutineNo.{RoutineNo}
use Rattle.nt_event.specs.declared.scripts.Routine.{Routine}
use Rattle.nt_event.specs.declared.scripts.Script.{Script}
use Rattle.nt_event.specs.declared.scripts.TimerDecl.{TimerDecl}
use Rattle.nt_event.specs.Own.{fire, fire_after}
use Rattle.nt_event.specs.Routines.{commands_of, next_command, routine_of}
use Rattle.nt_event.specs.Script.{command_fits, fits, has_dpc, routine_fits, timer_fits, where_given}
use Rattle.nt_event.specs.Numbers.{is_of}
use Rattle.nt_event.proofs.Options.{both}

-- what holds of all holds of each
pub each : {A : Type 0} (p : A → Bool) (xs : List A) (i : ℕ) (x : A) → list_all p xs ≡ true → slice_get xs i ≡ Some x → p x ≡ true
each p xs i x h e =
    let b : i < length xs = slice_get_within xs i x e in
    subst (λ (y : _). p y ≡ true) (get_or_from_slice_get xs i x x e) (AllPass-from_list_all p xs h i x b)

-- in a script that fits each command of a routine fits
in_routine : (s : Script) (r : Option RoutineNo) (i : ℕ) (k : Command) → fits s ≡ true → slice_get (commands_of s r) i ≡ Some k → command_fits s k ≡ true
in_routine s None i k h e = absurd cc
in_routine s (Some r) i k h e = go (slice_get s.routines r.0) refl e
  where
    go : (o : Option Routine) → slice_get s.routines r.0 ≡ o → slice_get (option_map_or (λ x. x.commands) o []) i ≡ Some k → command_fits s k ≡ true
    go None p q = absurd cc
    go (Some x) p q =
        each (command_fits s) x.commands i k (each (routine_fits s) s.routines r.0 x (both _ _ h).1 p) q

-- the next command of a frame is one of the script's
pub next_fits : (s : Script) (p : CpuNo) (f : Frame) (k : Command) → fits s ≡ true → next_command s p f ≡ Some k → command_fits s k ≡ true
next_fits s p f k h e = go f.leaving e
  where
    go : (b : Bool) → (if b then None else slice_get (commands_of s (routine_of s p f.body f.kernel_phase)) f.place) ≡ Some k → command_fits s k ≡ true
    go true q = absurd cc
    go false q = in_routine s (routine_of s p f.body f.kernel_phase) f.place k h q

-- in a script that fits each declared timer fits
timer_declared : (s : Script) (t : ℕ) (x : TimerDecl) → fits s ≡ true → slice_get s.timers t ≡ Some x → timer_fits s x ≡ true
timer_declared s t x h e =
    let a = both _ _ h in
    let b = both _ _ a.0 in
    let c = both _ _ b.0 in
    let d = both _ _ c.0 in
    each (timer_fits s) s.timers t x d.1 e

abbrev pub IsDeclared : Script → Option DpcNo → Type 0
IsDeclared s o = IfSome o (λ d. has_dpc s d ≡ true)

-- after an event, the object that a processor has to fire is one of the script's, if it was before
pub fire_after_fits : (s : Script) (w : What) (old : Option DpcNo) → fits s ≡ true → IsDeclared s old → IsDeclared s (fire_after s w old)
fire_after_fits s (Expire (OfTimer t) from) old h k = go (slice_get s.timers t.0) refl
  where
    given : (o : Option DpcNo) → where_given (has_dpc s) o ≡ true → IsDeclared s o
    given None q = tt
    given (Some d) q = q

    go : (o : Option TimerDecl) → slice_get s.timers t.0 ≡ o → IsDeclared s (option_and_then (λ x. x.dpc) o)
    go None e = tt
    go (Some x) e = given x.dpc (timer_declared s t.0 x h e)
fire_after_fits s (Expire (OfDelay t) from) old h k = tt
fire_after_fits s (Fire d y) old h k = tt
fire_after_fits s w old h k = k

-- the object that a processor has to fire is one of the script's
pub fire_fits : (s : Script) (p : CpuNo) (past : List Event) → fits s ≡ true → IfSome (fire s p past) (λ d. has_dpc s d ≡ true)
fire_fits s p [] h = tt
fire_fits s p (e ∷ past) h = go (is_of e p) (fire_fits s p past h)
  where
    go : (b : Bool) → IsDeclared s (fire s p past) → IsDeclared s (if b then fire_after s e.what (fire s p past) else fire s p past)
    go true k = fire_after_fits s e.what (fire s p past) h k
    go false k = k
