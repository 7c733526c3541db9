use Rattle.std.proofs.Common.{ap, ◌∙◌}
use Rattle.std.specs.Prelude.{Option}
use Rattle.nt_event.specs.Numbers.{cpu}
use Rattle.nt_event.specs.Own.{Own, own_of}
use Rattle.nt_left.specs.declared.kinds.Left.{Left}
use Rattle.nt_left.specs.Items.{cpu_item}
use Rattle.nt_left.specs.Lists.{as_list}
use Rattle.nt_left.specs.Walks.{past_of}
use Rattle.nt_left.proofs.Lists.{joined_on}
use Rattle.nt_left.proofs.gathering.put_cpus.Goals as goal

pub loop-number-preserved : goal.loop-number-preserved
loop-number-preserved c =
    let e = c.args.end.now in
    let s = e.script.now in
    let past = past_of e.events in
    let n = c.loop-number.number in
    joined_on n (λ p. as_list (cpu_item e.limit (cpu p) (own_of s (cpu p) past))) _ _ _ (as_list c.cpu_left.result) c.loop-number.invariant c.in_ok-put.ensures
    (ap (λ (o : Option Left). as_list o) (c.cpu_left.ensures ∙ ap (λ (x : Own). cpu_item e.limit (cpu n) x) c.cpu.ensures))
