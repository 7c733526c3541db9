use Rattle.std.proofs.Common.{ap, append-nil, refl, subst, sym, ◌∙◌}
use Rattle.std.proofs.Math.Logic.{∥∥₁_map}
use Rattle.std.proofs.lemmas.List.Elements.{Contains-append_right}
use Rattle.std.specs.Prelude.{Contains, [], ◌∷◌}
use Rattle.nt_mark.specs.declared.view.Entry.{Entry}
use Rattle.nt_mark.specs.declared.view.View.{View}
use Rattle.nt_mark.specs.Names.{pass_view}
use Rattle.nt_mark.specs.Views.{entry}
use Rattle.nt_lane.specs.Seats.{AreListed}
use Rattle.nt_lane_record.proofs.Growing.{grows_by}
use Rattle.nt_lane.proofs.Passes.{listed_drawn}
use Rattle.nt_lane_record.proofs.Tying.{here}
use Rattle.nt_lane.proofs.seat.LaneSeatWords.draw.Goals as goal

pub returns-clause-grows : goal.returns-clause-grows
returns-clause-grows g c =
    let v = pass_view c.args.self.now.pass in
    let e = c.draw-self.ensures.drew in
    record {
      view = grows_by v (pass_view c.draw-self.new.pass) (ap (λ (u : View). u.parts) e) _ (ap (λ (u : View). u.entries) e) []
          (ap (λ (u : View). u.known) e ∙ sym (append-nil v.known)) [] (ap (λ (u : View). u.prefixes) e ∙ sym (append-nil v.prefixes));
      more = entry c.draw-self.result c.args.event.now [] ∷ [];
      entries = ap (λ (u : View). u.entries) e;
      last = refl;
    }

pub returns-clause-mine : goal.returns-clause-mine
returns-clause-mine g c =
    let v = pass_view c.args.self.now.pass in
    let x : Entry = entry c.draw-self.result c.args.event.now [] in (
      x,
      subst (λ (u : View). Contains u.entries x) (sym c.draw-self.ensures.drew) (Contains-append_right v.entries (x ∷ []) x (here x)),
      refl,
    )

pub invariant_of-self : goal.invariant_of-self
invariant_of-self g c =
    let v = pass_view c.args.self.now.pass in
    record {
      words = c.args.self.now.words;
      cpus = c.args.self.now.cpus;
      all_lanes = c.args.self.now.all_lanes;
      seat = c.draw-self.ensures.table ∙ c.args.self.now.seat;
      listed = ∥∥₁_map c.args.self.now.listed (λ h. subst AreListed (sym c.draw-self.ensures.drew) (listed_drawn v c.draw-self.result c.args.event.now h));
    }
