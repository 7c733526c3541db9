use Rattle.std.proofs.Common.{ap, ◌∙◌}
use Rattle.nt_mark.specs.declared.view.View.{View}
use Rattle.nt_mark.specs.Names.{keeper_views}
use Rattle.nt_mark.specs.Closing.{gathered}
use Rattle.nt_mark.proofs.Gathering.{closes}
use Rattle.nt_mark.proofs.marks.Marks.close.Goals as goal

pub returns : goal.returns
returns c =
    let met = c.meet_all-pass.ensures.all in
    let taken = c.take_all-seat.ensures.all in
    let same = taken ∙ ap (λ (v : View). gathered v (keeper_views c.args.keepers.items)) met in
    let e =
    closes _ _ _ c.args.pass c.args.others.items c.args.keepers.items _ _ _ c.close_with-closed.ensures.values.2 c.word-count.ensures same c.requires.parts
    c.requires.keepers in
    record {
      count = e.count_is;
      each_once = e.each_once;
      lanes = e.lanes_once;
      rise = e.rise;
      notes = e.notes;
      known = e.known;
      prefixes = e.prefixes;
      looks = e.looks;
    }
