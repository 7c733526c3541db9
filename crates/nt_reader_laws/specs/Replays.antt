-- When a replay is refused: the turns before a place make a run, and the turn there is refused by the step; or all
-- turns were taken, and the history isn't settled.
use Rattle.nt_core.specs.Replays.{Refused, replayed}
use Rattle.nt_event.specs.Robin.{is_settled}
use Rattle.nt_event.specs.Step.{IsRun, step, turns}
use Rattle.nt_event.specs.declared.events.Event.{Event}
use Rattle.nt_event.specs.declared.events.ScheduleKind.TheVariants.{Unfinished}
use Rattle.nt_event.specs.declared.events.Turn.{Turn}
use Rattle.nt_event.specs.declared.scripts.Script.{Script}
use Rattle.std.proofs.Common.{◌++◌}
use Rattle.std.specs.Prelude.{Err, List, false, length, ℕ, ◌↔◌, ◌∷◌, ◌≡◌, ◌⊎◌}

-- the turn at the place is refused so, after the run that the turns before it make
pub record RefusesTurn (s : Script) (limit : ℕ) (list : List Turn) (r : Refused) : Type 0 where
  pub before : List Turn
  pub turn : Turn
  pub after : List Turn
  pub parts : list ≡ before ++ turn ∷ after
  pub place : r.at ≡ length before
  pub history : List Event
  pub run : IsRun s limit history
  pub turns : turns history ≡ before
  pub refused : step s limit turn history ≡ Err r.kind

-- all turns make a run that isn't settled; the place is their number
pub record IsUnsettled (s : Script) (limit : ℕ) (list : List Turn) (r : Refused) : Type 0 where
  pub history : List Event
  pub run : IsRun s limit history
  pub turns : turns history ≡ list
  pub unsettled : is_settled s limit history ≡ false
  pub place : r.at ≡ length list
  pub kind : r.kind ≡ Unfinished

-- a list of turns is refused at a place exactly where the turns before it make a run and the turn there is refused so
-- by the step, or where all of them make a run that isn't settled. (It would refuse a replay that goes on behind a
-- refused turn, tells the place from 1, or takes an unsettled history.)
abbrev pub ReplaysAreRefused : Type 0
ReplaysAreRefused = (s : Script) (limit : ℕ) (list : List Turn) (r : Refused) →
    (replayed s limit list ≡ Err r) ↔ (RefusesTurn s limit list r ⊎ IsUnsettled s limit list r)
