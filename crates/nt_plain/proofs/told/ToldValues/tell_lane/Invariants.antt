use Rattle.std.proofs.Common.{drop, length, ◌≡◌}
use Rattle.nt_states.specs.LaneLists.{as_asks}
use Rattle.nt_plain.specs.Made.{tell_lane}
use Rattle.nt_plain.proofs.told.ToldValues.tell_lane.Given as goal

abbrev pub invariant-loop-ask : goal.invariant-loop-ask
invariant-loop-ask l = record {
  rest : tell_lane l.script l.to l.fn.lane (as_asks (drop l.ask-index l.asks)) l.self ≡ tell_lane l.script l.to l.fn.lane (as_asks l.asks) l.initial.self;
  len : length l.self ≡ length l.initial.self;
}
