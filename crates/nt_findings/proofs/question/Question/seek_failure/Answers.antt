use Rattle.std.proofs.Common.{arith, length, sym, ◌<◌, ◌∙◌}
use Rattle.std.proofs.lemmas.List.{get_or_default}
use Rattle.std.specs.Prelude.{None}
use Rattle.nt_findings.proofs.question.Question.seek_failure.Goals as goal

pub returns : goal.returns
returns c =
    let all = c.settle.new.fails.items in
    let count = c.in_ok-finished.ensures.known.count in
    let place = c.requires.place in
    let inside : c.args.place < length all = omega (arith, count, place) in
    c.sought_by.ensures c.args.self.now c.args.place all c.in_ok-finished.ensures.finished c.requires.place
    (get_or_default all c.args.place None c.index.result.now inside ∙ sym c.index.ensures) c.requires.other
