use Rattle.std.proofs.Common.{drop, false, max, ℕ, ◌<◌, ◌≡◌}
use Rattle.nt_event.specs.Lists.{value_at}
use Rattle.nt_event.specs.Acts.{told_over}
use Rattle.nt_floor.specs.Seen.{SameInterrupts}
use Rattle.nt_plain.specs.Places.{row_value}
use Rattle.nt_plain.proofs.told.ToldValues.raise_over.Given as goal

abbrev pub invariant-loop-lane : goal.invariant-loop-lane
invariant-loop-lane l = record {
  rest : (c : ℕ) → c < 16 → max (value_at l.seen c) (told_over (row_value l.script l.self) (drop l.lane-index l.lanes) l.p c)
      ≡ max (value_at l.fn.seen c) (told_over (row_value l.script l.self) l.lanes l.p c);
  interrupts : l.interrupts ≡ false → SameInterrupts l.fn.seen l.seen;
}
