use Rattle.std.proofs.Common.{rules}
use Rattle.std.proofs.lemmas.Fn.{filter_same}
use Rattle.nt_work.specs.Changes.{stays_by}
use Rattle.nt_work.proofs.waiting.keep_others.Goals as goal

pub returns-clause-kept : goal.returns-clause-kept
returns-clause-kept c = filter_same _ (stays_by c.args.change) _ (λ x b q k. search rules) _ _ c.retain.ensures.filtered
