-- What one turn of a worker needs and leaves.
use Rattle.std.specs.Prelude.{Err, List, Ok, Result, [], ℕ, ◌++◌, ◌∷◌, ◌≡◌}
use Rattle.std.specs.declared.alloc.AllocError.{AllocError}
use Rattle.atomic_table.specs.Seated.{TableId}
use Rattle.nt_cpu.specs.States.{CpuState}
use Rattle.nt_cpu.specs.declared.steps.Turned.{Turned}
use Rattle.nt_cpu.specs.declared.steps.Turned.TheVariants as turned
use Rattle.nt_cpu.specs.declared.steps.Turned.TheVariants.{Cut, Quiet}
use Rattle.nt_event.specs.declared.events.Event.{Event}
use Rattle.nt_event.specs.declared.scripts.Script.{Script}
use Rattle.nt_lane.specs.Seats.{AreListed}
use Rattle.nt_mark.specs.declared.seats.Pass.{Pass}
use Rattle.nt_mark.specs.Names.{pass_table, pass_view}
use Rattle.nt_live.specs.declared.worker.Outcome.{Outcome}
use Rattle.nt_live.specs.declared.worker.Outcome.TheVariants.{Did, Stopped}
use Rattle.nt_live.specs.Workers.{GoesOnFrom, HasWorked, IsAtWork, KnowsSeen, WorkerState, pairs_of}

-- a processor and its pass
abbrev pub at_work : CpuState → Pass → WorkerState
at_work c p = record { cpu = c; view = pass_view p }

-- the pass is of the table, and is what the events of its processor made of it
pub record IsSeated (table : TableId) (s : Script) (limit : ℕ) (c : CpuState) (p : Pass) : Type 0 where
  pub at : pass_table p ≡ table
  pub listed : ∥ AreListed (pass_view p) ∥₁
  pub work : IsAtWork s limit (at_work c p)
  pub knows : KnowsSeen c (pass_view p)

-- where the processor has nothing to do, it has done its work
abbrev pub IsDoneWhere : Result Outcome AllocError → WorkerState → WorkerState → Type 0
IsDoneWhere (Ok Stopped) old new = HasWorked old new
IsDoneWhere (Ok Did) old new = Unit {0}
IsDoneWhere (Err e) old new = Unit {0}

-- an advance of the processor over the lanes: it made this event, or none, as the pass tells, and came to this
pub record IsAdvanced (table : TableId) (s : Script) (limit : ℕ) (c d : CpuState) (p q : Pass)
    (made : List (ℕ × Event)) (outcome : Result Outcome AllocError) : Type 0 where
  pub seated : IsSeated table s limit d q
  pub goes : GoesOnFrom (at_work c p) (at_work d q)
  pub list : pairs_of (pass_view q) ≡ pairs_of (pass_view p) ++ made
  pub done : IsDoneWhere outcome (at_work c p) (at_work d q)

-- the parts of a worker are a processor, its pass and the list of its pass
pub record IsTakenApart (table : TableId) (s : Script) (limit : ℕ) (w : WorkerState) (c : CpuState) (p : Pass)
    (list : List (ℕ × Event)) : Type 0 where
  pub state : w ≡ at_work c p
  pub seated : IsSeated table s limit c p
  pub list_is : list ≡ pairs_of (pass_view p)

-- the event that was made, if one was, with this number, which was drawn last
abbrev pub made_of : ℕ → Result Turned AllocError → List (ℕ × Event)
made_of n (Ok (turned.Did e)) = (n, e) ∷ []
made_of n (Ok Quiet) = []
made_of n (Ok Cut) = []
made_of n (Err x) = []

-- what the turn came to
abbrev pub outcome_of : Result Turned AllocError → Result Outcome AllocError
outcome_of (Ok (turned.Did e)) = Ok Did
outcome_of (Ok Quiet) = Ok Stopped
outcome_of (Ok Cut) = Ok Stopped
outcome_of (Err x) = Err x
