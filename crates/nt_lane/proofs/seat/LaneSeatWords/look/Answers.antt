use Rattle.std.proofs.Common.{ap, append-nil, refl, sym, ◌∙◌}
use Rattle.std.proofs.Math.Logic.{∥∥₁_map}
use Rattle.std.specs.Prelude.{[]}
use Rattle.nt_mark.specs.declared.view.View.{View}
use Rattle.nt_mark.specs.Names.{pass_view}
use Rattle.nt_lane_record.specs.Passes.{Grows}
use Rattle.nt_lane_record.proofs.Growing.{grows_by}
use Rattle.nt_lane.proofs.Passes.{listed_grows}
use Rattle.nt_lane.proofs.seat.LaneSeatWords.look.Goals as goal

pub returns-clause-grows : goal.returns-clause-grows
returns-clause-grows g c =
    let v = pass_view c.args.self.now.pass in
    let e = c.look.ensures.looked in
    record {
      view = grows_by v (pass_view c.look.new.pass) (ap (λ (u : View). u.parts) e) [] (ap (λ (u : View). u.entries) e ∙ sym (append-nil v.entries)) []
          (ap (λ (u : View). u.known) e ∙ sym (append-nil v.known)) [] (ap (λ (u : View). u.prefixes) e ∙ sym (append-nil v.prefixes));
      more = [];
      entries = ap (λ (u : View). u.entries) e ∙ sym (append-nil v.entries);
      last = refl;
    }

pub invariant_of-self : goal.invariant_of-self
invariant_of-self g c =
    let v = pass_view c.args.self.now.pass in
    let w = pass_view c.look.new.pass in
    let e = c.look.ensures.looked in
    let more : Grows v w = grows_by v w (ap (λ (u : View). u.parts) e) [] (ap (λ (u : View). u.entries) e ∙ sym (append-nil v.entries)) []
    (ap (λ (u : View). u.known) e ∙ sym (append-nil v.known)) [] (ap (λ (u : View). u.prefixes) e ∙ sym (append-nil v.prefixes)) in
    record {
      words = c.args.self.now.words;
      cpus = c.args.self.now.cpus;
      all_lanes = c.args.self.now.all_lanes;
      seat = c.look.ensures.table ∙ c.args.self.now.seat;
      listed = ∥∥₁_map c.args.self.now.listed (listed_grows v w (ap (λ (u : View). u.entries) e) more);
    }
