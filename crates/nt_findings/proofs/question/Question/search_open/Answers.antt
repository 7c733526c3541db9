use Rattle.std.proofs.Common.{refl}
use Rattle.nt_search.specs.Ends.{is_whole}
use Rattle.nt_findings.proofs.Finishing.{counted_so, finished_so, whole_so}
use Rattle.nt_findings.proofs.Opened.{open_fit, open_hold, open_known, open_low}
use Rattle.nt_findings.proofs.question.Question.search_open.Goals as goal

pub search-requires-clause-named : goal.search-requires-clause-named
search-requires-clause-named c =
    open_fit c.args.self.now c.args.fails.now.items c.args.left.now c.as_slice-expectations.result.now c.requires.left c.requires.known.count
    c.requires.question.named c.as_slice-expectations.ensures.value

pub note-requires-clause-low : goal.note-requires-clause-low
note-requires-clause-low c =
    open_low c.args.self.now c.args.fails.now.items c.args.fails.now.items c.args.left.now c.as_slice-places.result.now c.requires.left refl
    c.as_slice-places.ensures.value

pub returns-clause-known : goal.returns-clause-known
returns-clause-known c =
    open_known c.args.self.now c.args.fails.now.items c.args.fails.now.items c.note.new.fails.items c.args.left.now
    c.as_slice-expectations.result.now c.as_slice-places.result.now c.as_slice.result.now c.in_ok-searched.searched.found.failures.items c.requires.known
    c.requires.left refl c.as_slice-expectations.ensures.value c.as_slice-places.ensures.value c.as_slice.ensures.value
    c.note.ensures c.in_ok-searched.ensures.fails

pub returns-clause-finished : goal.returns-clause-finished
returns-clause-finished c =
    finished_so c.args.self.now c.args.wanted c.note.new.fails.items (is_whole c.in_ok-searched.searched.end) c.finished_by-finished.result
    (open_hold c.args.self.now c.args.fails.now.items c.args.fails.now.items c.note.new.fails.items c.args.left.now
    c.as_slice-expectations.result.now c.as_slice-places.result.now c.as_slice.result.now c.in_ok-searched.searched.found.failures.items c.requires.known
    c.requires.left refl c.as_slice-expectations.ensures.value c.as_slice-places.ensures.value c.as_slice.ensures.value
    c.note.ensures (is_whole c.in_ok-searched.searched.end) c.in_ok-searched.ensures.holds)
    (whole_so c.finished_by-finished.result c.in_ok-searched.searched.end c.finished_by-finished.ensures.whole c.finished_by-finished.ensures.cut)
    (counted_so c.args.self.now.script.now _ c.args.self.now.limit c.args.self.now.most c.finished_by-finished.result c.in_ok-searched.searched
    c.in_ok-searched.ensures.shown c.finished_by-finished.ensures.states c.finished_by-finished.ensures.cut)
    c.finished_by-finished.ensures.whole c.finished_by-finished.ensures.ends c.finished_by-finished.ensures.shown
