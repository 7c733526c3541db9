use Rattle.std.proofs.Common.{ap, subst, ◌∙◌}
use Rattle.std.specs.Prelude.{List}
use Rattle.nt_mark.specs.declared.view.LaneList.{LaneList}
use Rattle.nt_mark.specs.Names.{keeper_lane, keeper_view, pass_view}
use Rattle.nt_mark.specs.Rule.{IsLongest}
use Rattle.nt_mark.specs.Views.{first_notes}
use Rattle.nt_lane_record.specs.Records.{LaneRecord}
use Rattle.nt_lane_record.proofs.Tying.{kept_told, longest_kept, tied_met}
use Rattle.nt_lane_record.proofs.record.Record.compare.Goals as goal

pub invariant_of-self : goal.invariant_of-self
invariant_of-self g c =
    let s = c.compare.ensures in (
      c.self.invariant.0,
      tied_met _ _ _ _ _ _ _ _ (keeper_view c.self.inside.keeper) (pass_view c.args.pass.now) (keeper_view c.compare.new.keeper) c.self.invariant.1 s.same.0
          s.same.2 s.keeper,
    )

pub returns-clause-same : goal.returns-clause-same
returns-clause-same g c =
    let kept = kept_told (keeper_view c.self.inside.keeper) (pass_view c.args.pass.now) (keeper_view c.compare.new.keeper) c.compare.ensures.keeper in (
      ap (λ (r : LaneRecord). r.lane) c.self.view_is,
      ap (λ (ks : List LaneList). first_notes ks) kept ∙ ap (λ (r : LaneRecord). r.notes) c.self.view_is,
      ap (λ (r : LaneRecord). r.told) c.self.view_is,
    )

pub returns-clause-longest : goal.returns-clause-longest
returns-clause-longest g c =
    let s = c.compare.ensures in
    let i = c.self.inside in
    let p = pass_view c.compare.new.pass in
    subst (λ (r : LaneRecord). IsLongest r.lane r.notes p) c.self.view_is
    (longest_kept i.number (keeper_lane i.keeper) (keeper_lane c.compare.new.keeper) (keeper_view i.keeper) (pass_view c.args.pass.now)
    (keeper_view c.compare.new.keeper) p c.self.invariant.1.its_lane_is s.same.2 s.keeper s.longest)
