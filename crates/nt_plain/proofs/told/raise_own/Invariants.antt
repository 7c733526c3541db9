use Rattle.std.proofs.Common.{drop, false, max, ℕ, ◌<◌, ◌≡◌}
use Rattle.std.specs.List.{list_any}
use Rattle.std.specs.Prelude.{if◌then◌else◌}
use Rattle.nt_event.specs.Lists.{value_at}
use Rattle.nt_event.specs.Requests.{is_ask}
use Rattle.nt_floor.specs.Seen.{SameInterrupts}
use Rattle.nt_states.specs.LaneLists.{as_asks}
use Rattle.nt_plain.proofs.told.raise_own.Given as goal

abbrev pub invariant-loop-ask : goal.invariant-loop-ask
invariant-loop-ask l = record {
  rest : (c : ℕ) → c < 16 → max (value_at l.seen c) (if list_any (is_ask l.p c) (as_asks (drop l.ask-index l.asks)) then l.to else 0)
      ≡ max (value_at l.fn.seen c) (if list_any (is_ask l.p c) (as_asks l.asks) then l.to else 0);
  interrupts : l.interrupts ≡ false → SameInterrupts l.fn.seen l.seen;
}
