use Rattle.std.proofs.Common.{drop, length, ◌≡◌}
use Rattle.nt_states.specs.LaneLists.{as_asks}
use Rattle.nt_lane_record.specs.Records.{raised_list}
use Rattle.nt_lane_record.proofs.record.tell.Given as goal

abbrev pub invariant-loop-ask : goal.invariant-loop-ask
invariant-loop-ask l = record {
  rest : raised_list l.n (as_asks (drop l.ask-index l.asks)) l.told.items ≡ raised_list l.n (as_asks l.asks) l.initial.told.items;
  len : length l.told.items ≡ length l.initial.told.items;
}
