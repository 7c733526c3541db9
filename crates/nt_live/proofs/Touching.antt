-- The lanes that an event of a history touches are those that it touched in the states that it met.
use Rattle.std.proofs.Common.{ap, subst, sym, ◌∙◌}
use Rattle.std.specs.Prelude.{List, Some, [], length, ℕ, ◌++◌, ◌∷◌, ◌≡◌}
use Rattle.nt_event.specs.declared.jobs.Lane.{Lane}
use Rattle.nt_event.specs.declared.jobs.Stand.{Stand}
use Rattle.nt_event.specs.declared.numbers.ThreadNo.{ThreadNo}
use Rattle.nt_event.specs.declared.scripts.Script.{Script}
use Rattle.nt_event.specs.Frames.{running}
use Rattle.nt_event.specs.LaneStates.{LaneState, lane_state}
use Rattle.nt_event.specs.Lanes.{lanes_at, lanes_of, what_lanes}
use Rattle.nt_event.specs.Numbers.{thread}
use Rattle.nt_event.specs.Own.{stand_in}
use Rattle.nt_event.specs.Regions.{stand_at}
use Rattle.nt_event.specs.Routines.{cpu_of}
use Rattle.nt_event.specs.Waits.{facts}
use Rattle.nt_event.proofs.Tables.{length-table_from}
use Rattle.nt_event.specs.Acts.{Found}
use Rattle.nt_runs.proofs.Locality.Jobs.{SameOn}
use Rattle.nt_runs.proofs.Locality.Leaves.{lanes_same}
use Rattle.nt_runs.proofs.Running.{own_runs}
use Rattle.nt_compose.specs.Choices.{AreStepped}
use Rattle.nt_compose.specs.Composition.{AreLeft, IsComposed, Placed, events, left, stood}
use Rattle.nt_compose.specs.Parts.{own_by, part}
use Rattle.nt_compose.proofs.Choosing.{steps_compose}
use Rattle.nt_compose.proofs.Parting.{keeps_by_part}

-- the events before some of a history
pub stepped_before : (s : Script) (limit : ℕ) (front past : List Placed) → AreStepped s limit (front ++ past) → AreStepped s limit past
stepped_before s limit [] past a = a
stepped_before s limit (z ∷ front) past a = stepped_before s limit front past a.1

-- lanes that were found as the placed events left them were found in their states after the history
same_on : (s : Script) (f : Found) (past : List Placed) (states : (x : Lane) → left s x past ≡ lane_state s x (events past)) (xs : List Lane) →
    AreLeft s f past xs → SameOn s f.lanes (lanes_at s (events past)) xs
same_on s f past states [] a = tt
same_on s f past states (x ∷ xs) a =
    (a.0.content ∙ ap (λ (z : LaneState). z.content) (states x), same_on s f past states xs a.1)

module _ (s : Script) (limit : ℕ) (y : Placed) (past : List Placed) (a : AreStepped s limit (y ∷ past)) where
  before : IsComposed s limit past
  before = steps_compose s limit past a.1

  stood_there : stood s y past ≡ stand_at s y.event.cpu (events past)
  stood_there = ap (stand_in y.event.cpu) (before.own y.event.cpu)

  stood_so : stand_in y.event.cpu (own_by s y.event.cpu (part y.event.cpu past)) ≡ stand_at s y.event.cpu (events past)
  stood_so = ap (stand_in y.event.cpu) (sym (keeps_by_part s y.event.cpu past)) ∙ stood_there

  met : AreLeft s y.found past (what_lanes s (stand_at s y.event.cpu (events past)) y.event.what y.found.lanes)
  met = subst (λ (st : Stand). AreLeft s y.found past (what_lanes s st y.event.what y.found.lanes)) stood_there a.0.states

  runs : (t : ThreadNo) → running y.event.cpu (events past) ≡ Some t → (cpu_of s t).0 ≡ y.event.cpu.0
  runs = own_runs s limit y.event.cpu (events past) before.run

  -- the lanes that an event touches by what its processor kept are those that it touches in the history
  pub lanes_met : what_lanes s (stand_in y.event.cpu (own_by s y.event.cpu (part y.event.cpu past))) y.event.what y.found.lanes
      ≡ lanes_of s y.event (events past)
  lanes_met =
      ap (λ (st : Stand). what_lanes s st y.event.what y.found.lanes) stood_so
      ∙ lanes_same s y.found.lanes (lanes_at s (events past)) a.0.threads
      (length-table_from 0 (length s.threads) (λ t. facts s (thread t) (events past))) (stand_at s y.event.cpu (events past)) runs y.event.what
      (same_on s y.found past before.states _ met)
