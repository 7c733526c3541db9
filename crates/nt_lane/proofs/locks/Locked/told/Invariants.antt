use Rattle.std.proofs.Common.{drop, length, max, ℕ, ◌<◌, ◌≡◌}
use Rattle.nt_event.specs.Lists.{value_at}
use Rattle.nt_event.specs.Acts.{told_over}
use Rattle.nt_lane.specs.Answers.{IsHeld}
use Rattle.nt_lane.specs.Locks.{states_of, told_in}
use Rattle.nt_states.specs.Reads.{AreHeld}
use Rattle.nt_lane.proofs.locks.Locked.told.Given as goal

-- what is left and the values so far are what all tell
abbrev pub invariant-loop-lane : goal.invariant-loop-lane
invariant-loop-lane g l = record {
  rest : (c : ℕ) → c < 16 → max (told_over (told_in l.self) (drop l.lane-index l.lanes) l.p c) (value_at l.values c)
      ≡ told_over (told_in l.self) l.lanes l.p c;
  len : length l.values ≡ 16;
  held : AreHeld (IsHeld (states_of g.N.Plan.script l.self)) (drop l.lane-index l.lanes);
}
