use Rattle.std.proofs.Common.{ap, arith, subst, sym, ◌∙◌}
use Rattle.std.specs.Prelude.{Contains, List, ℕ, ◌≤◌}
use Rattle.nt_mark.specs.declared.view.LaneList.{LaneList}
use Rattle.nt_mark.specs.Names.{keeper_view, pass_view}
use Rattle.nt_mark.specs.Views.{first_notes, reach, step_word}
use Rattle.nt_lane_record.specs.Records.{AreKnown, LaneRecord, told_rows}
use Rattle.nt_lane_record.proofs.Tying.{here, kept_told, known_more, learns_told, list_told, reach_told, tied_met}
use Rattle.nt_mark.proofs.Noting.{kept_of}
use Rattle.nt_lane_record.proofs.Ends.{next_below}
use Rattle.nt_lane_record.proofs.record.Record.meet.Goals as goal

pub invariant_of-self : goal.invariant_of-self
invariant_of-self g c =
    let s = c.share.ensures in (
      c.self.invariant.0,
      tied_met _ _ _ _ _ _ _ _ (keeper_view c.self.inside.keeper) (pass_view c.args.pass.now) (keeper_view c.share.new.keeper) c.self.invariant.1 s.same.0
          s.same.2 s.keeper,
    )

pub returns-clause-met : goal.returns-clause-met
returns-clause-met g c =
    let s = c.share.ensures in
    let i = c.self.inside in
    let k0 = keeper_view i.keeper in
    let k1 = keeper_view c.share.new.keeper in
    let p0 = pass_view c.args.pass.now in
    let p1 = pass_view c.share.new.pass in
    let ke : (u : ℕ) → reach u k0 ≤ reach u p1 = λ u. let r = reach_told p0 k0 p1 s.pass u in omega arith in
    let one = kept_of k0.kept i.keeper.lane i.keeper.word i.keeper.one_lane i.keeper.its_word in
    let lane = ap (λ (r : LaneRecord). r.lane) c.self.view_is in
    let notes = ap (λ (r : LaneRecord). r.notes) c.self.view_is in
    let told = ap (λ (r : LaneRecord). r.told) c.self.view_is in
    record {
      lane = lane;
      notes = ap (λ (ks : List LaneList). first_notes ks) (kept_told k0 p0 k1 s.keeper) ∙ notes;
      told = told;
      room = ap (λ (r : LaneRecord). r.room) c.self.view_is;
      known = (let a = reach_told p0 k0 p1 s.pass step_word in let b = reach_told k0 p0 k1 s.keeper step_word in omega arith);
      tells = subst (λ (t : List (List ℕ)). AreKnown t p1) told
          (known_more (told_rows g.N.Plan.script.cpus i.told.items) k0 p1 ke c.self.invariant.1.asked);
      knows = (
        one.0,
        list_told p0 k0 p1 s.pass one.0 (subst (λ (ks : List LaneList). Contains ks one.0) (sym one.1) (here one.0)),
        one.2 ∙ (c.self.invariant.1.its_lane_is ∙ lane),
        sym (ap (λ (ks : List LaneList). first_notes ks) one.1) ∙ notes,
      );
      learns = learns_told p0 k0 p1 s.pass;
    }

pub returns-clause-above : goal.returns-clause-above
returns-clause-above g c =
    let s = c.share.ensures in
    let k1 = keeper_view c.share.new.keeper in
    let tied = tied_met _ _ _ _ _ _ _ _ (keeper_view c.self.inside.keeper) (pass_view c.args.pass.now) k1 c.self.invariant.1 s.same.0 s.same.2 s.keeper in
    next_below (reach step_word k1) (first_notes k1.kept) tied.above
