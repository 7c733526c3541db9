use Rattle.std.proofs.Common.{reverse, sym, subst}
use Rattle.nt_event.specs.Step.{IsRun}
use Rattle.nt_plain.specs.States.{view_of}
use Rattle.nt_plain.proofs.Openings.{fresh_opening}
use Rattle.nt_cpus.specs.States.{CpusState}
use Rattle.nt_cpus.proofs.Starting.{start_after}
use Rattle.nt_live.proofs.finishing.finished.Goals as goal

pub finished_by-history-requires-clause-start : goal.finished_by-history-requires-clause-start
finished_by-history-requires-clause-start c =
    let s = c.args.script.now in
    let f = c.in_ok-floor.floor in
    let fresh = c.in_ok-floor.ensures in
    start_after s c.args.turns c.in_ok-processors.processors f.script (view_of f) c.requires.script c.requires.turns.1 c.requires.all
    c.in_ok-processors.ensures fresh.script (fresh_opening s c.args.turns f fresh)

pub finished_by-history-requires-clause-run : goal.finished_by-history-requires-clause-run
finished_by-history-requires-clause-run c =
    subst (λ (x : CpusState). IsRun x.script x.limit (reverse c.args.events)) (sym c.in_ok-processors.ensures) c.requires.run
