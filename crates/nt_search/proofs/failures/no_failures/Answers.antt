use Rattle.std.proofs.Common.{None, ap, get_or, length, ◌+◌, ◌∙◌}
use Rattle.std.proofs.lemmas.List.{length-append}
use Rattle.nt_search.proofs.Progress.{push_none}
use Rattle.nt_search.proofs.failures.no_failures.Goals as goal

pub loop-place-init : goal.loop-place-init
loop-place-init c = (ap length c.in_ok-failures.ensures.items, λ j. ap (λ xs. get_or xs j None) c.in_ok-failures.ensures.items)

pub loop-place-preserved : goal.loop-place-preserved
loop-place-preserved c = (
  ap length c.in_ok-push.ensures.items ∙ length-append c.loop-place.failures.items _ ∙ ap (λ n. n + 1) c.loop-place.invariant.0,
  push_none c.loop-place.failures.items c.push.new.self.items c.loop-place.invariant.1 c.in_ok-push.ensures.items,
)
