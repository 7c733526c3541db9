use Rattle.std.proofs.Common.{rules}
use Rattle.std.proofs.lemmas.Fn.{filter_same}
use Rattle.std.specs.Prelude.{not}
use Rattle.nt_shade_dpcs.specs.Keys.{same_key}
use Rattle.nt_shade_dpcs.proofs.timers.keep_others.Goals as goal

pub returns : goal.returns
returns c = filter_same _ (λ x. not (same_key c.args.key x.key)) _ (λ x b q k. search rules) _ _ c.retain.ensures.filtered
