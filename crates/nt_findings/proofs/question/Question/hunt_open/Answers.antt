use Rattle.std.proofs.Common.{refl}
use Rattle.nt_findings.proofs.Opened.{open_fit, open_known, open_low}
use Rattle.nt_findings.proofs.question.Question.hunt_open.Goals as goal

pub hunt-requires-clause-named : goal.hunt-requires-clause-named
hunt-requires-clause-named c =
    open_fit c.args.self.now c.args.fails.now.items c.args.left.now c.as_slice-expectations.result.now c.requires.left c.requires.known.count
    c.requires.question.named c.as_slice-expectations.ensures.value

pub note-requires-clause-low : goal.note-requires-clause-low
note-requires-clause-low c =
    open_low c.args.self.now c.args.fails.now.items c.args.fails.now.items c.args.left.now c.as_slice-places.result.now c.requires.left refl
    c.as_slice-places.ensures.value

pub returns-clause-known : goal.returns-clause-known
returns-clause-known c =
    open_known c.args.self.now c.args.fails.now.items c.args.fails.now.items c.note.new.fails.items c.args.left.now
    c.as_slice-expectations.result.now c.as_slice-places.result.now c.as_slice.result.now c.in_ok-hunted.hunted.found.failures.items c.requires.known
    c.requires.left refl c.as_slice-expectations.ensures.value c.as_slice-places.ensures.value c.as_slice.ensures.value
    c.note.ensures c.in_ok-hunted.ensures.fails
