use Rattle.nt_shown.specs.declared.refusal.ShownRefusal.TheVariants as refusal
use Rattle.nt_bench.proofs.unshown.event_refused.Goals as goal

pub returns-in-Ok : goal.returns-in-Ok
returns-in-Ok c = rw (c.made.ensures.status) (refusal.Event c.args.number, c.requires, tt)
