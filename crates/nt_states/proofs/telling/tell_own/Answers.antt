use Rattle.std.specs.List.{list_any}
use Rattle.std.specs.Prelude.{if◌then◌else◌}
use Rattle.nt_event.specs.Requests.{is_ask}
use Rattle.nt_event.specs.Lists.{value_at}
use Rattle.nt_event.proofs.Tables.{is_table}
use Rattle.nt_states.specs.LaneLists.{as_asks}
use Rattle.nt_states.proofs.Requests.{none_left}
use Rattle.nt_states.proofs.telling.tell_own.Goals as goal

pub returns : goal.returns
returns c =
    is_table c.loop-ask.values 16 (λ k. if list_any (is_ask c.args.p k) (as_asks c.args.asks.now) then c.args.to
    else value_at c.args.values.now k) c.loop-ask.invariant.len
    (λ k h. none_left c.args.asks.now c.loop-ask.ask-index c.args.p k c.args.to (value_at c.loop-ask.values k) _ c.loop-ask-test.false
    (c.loop-ask.invariant.rest k h))
