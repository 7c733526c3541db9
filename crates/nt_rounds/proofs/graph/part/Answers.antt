use Rattle.std.proofs.Common.{arith, ◌≤◌, get_or, length, rules, sym}
use Rattle.nt_rounds.proofs.Cutting.{end_within, get_or-cut, start_below}
use Rattle.nt_rounds.proofs.graph.part.Goals as goal

pub offset_bounds-all-from : goal.offset_bounds-all-from
offset_bounds-all-from c =
    let low = start_below 0 c.args.ends.now (length c.args.all.now) c.args.place 0 c.requires.ends c.requires.place in
    let high = end_within 0 c.args.ends.now (length c.args.all.now) c.args.place 0 c.requires.ends c.requires.place in
    let bound : c.start-from.result ≤ length c.args.all.now = omega (arith, low, high, c.start-from.ensures) in
    search rules

pub slice_bounds-result-count : goal.slice_bounds-result-count
slice_bounds-result-count c =
    let low = start_below 0 c.args.ends.now (length c.args.all.now) c.args.place 0 c.requires.ends c.requires.place in
    omega (arith, low, c.start-from.ensures)

pub slice_bounds-result-start : goal.slice_bounds-result-start
slice_bounds-result-start c =
    let low = start_below 0 c.args.ends.now (length c.args.all.now) c.args.place 0 c.requires.ends c.requires.place in
    let bound : c.start-from.result ≤ get_or c.args.ends.now c.args.place 0 = omega (arith, low, c.start-from.ensures) in
    search rules

pub slice_bounds-result-end : goal.slice_bounds-result-end
slice_bounds-result-end c =
    let high = end_within 0 c.args.ends.now (length c.args.all.now) c.args.place 0 c.requires.ends c.requires.place in
    search rules

pub returns : goal.returns
returns c =
    let is = get_or-cut c.args.all.now 0 c.args.ends.now c.args.place 0 c.requires.place in
    rw c.start-from.ensures (sym is)
