use Rattle.std.proofs.Common.{drop, length, take, ◌++◌, ◌≡◌, ◌≤◌}
use Rattle.nt_event.specs.Requests.{spinner_asks}
use Rattle.nt_states.specs.LaneLists.{as_asks}
use Rattle.nt_states.proofs.asking.Asks.add_spinners.Given as goal

abbrev pub invariant-loop-cpu : goal.invariant-loop-cpu
invariant-loop-cpu l = record {
  rest : as_asks (take l.count l.asks) ++ spinner_asks l.cpu (drop l.cpu l.spinners) ≡ spinner_asks 0 l.spinners;
  count : l.count ≤ l.cpu;
  here : l.cpu ≤ length l.spinners;
  room : length l.asks ≡ 64;
}
