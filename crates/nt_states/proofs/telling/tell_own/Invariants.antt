use Rattle.std.proofs.Common.{drop, length, ℕ, ◌<◌, ◌≡◌}
use Rattle.std.specs.List.{list_any}
use Rattle.std.specs.Prelude.{if◌then◌else◌}
use Rattle.nt_event.specs.Requests.{is_ask}
use Rattle.nt_event.specs.Lists.{value_at}
use Rattle.nt_states.specs.LaneLists.{as_asks}
use Rattle.nt_states.proofs.telling.tell_own.Given as goal

abbrev pub invariant-loop-ask : goal.invariant-loop-ask
invariant-loop-ask l = record {
  rest : (c : ℕ) → c < 16 → (if list_any (is_ask l.p c) (as_asks (drop l.ask-index l.asks)) then l.to else value_at l.values c)
      ≡ (if list_any (is_ask l.p c) (as_asks l.asks) then l.to else value_at l.fn.values c);
  len : length l.values ≡ 16;
}
