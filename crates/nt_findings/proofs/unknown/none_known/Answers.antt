use Rattle.std.proofs.Common.{None, ap, get_or, length, ◌+◌, ◌∙◌}
use Rattle.std.proofs.lemmas.List.{length-append}
use Rattle.nt_findings.proofs.Knowing.{push_none}
use Rattle.nt_findings.proofs.unknown.none_known.Goals as goal

pub loop-place-init : goal.loop-place-init
loop-place-init c = record {
  count = ap length c.in_ok-fails.ensures.items;
  none = λ j. ap (λ xs. get_or xs j None) c.in_ok-fails.ensures.items;
}

pub loop-place-preserved : goal.loop-place-preserved
loop-place-preserved c = record {
  count = ap length c.in_ok-push.ensures.items ∙ length-append c.loop-place.fails.items _ ∙ ap (λ n. n + 1) c.loop-place.invariant.count;
  none = push_none c.loop-place.fails.items c.push.new.self.items c.loop-place.invariant.none c.in_ok-push.ensures.items;
}
