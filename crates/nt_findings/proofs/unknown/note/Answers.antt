use Rattle.nt_findings.proofs.Knowing.{noted_either, noted_none}
use Rattle.nt_findings.proofs.unknown.note.Goals as goal

pub loop-index-init : goal.loop-index-init
loop-index-init c = noted_none c.args.places.now c.args.failures.now c.args.fails.now.items

pub loop-index-preserved : goal.loop-index-preserved
loop-index-preserved c =
    noted_either c.args.places.now c.args.failures.now c.args.fails.now.items c.loop-index.fails.items c.note_one.new.fails.items c.loop-index.index
    c.loop-index.invariant (c.requires.low c.loop-index.index 0 c.loop-index-test.true) c.note_one.ensures.kept c.note_one.ensures.noted
