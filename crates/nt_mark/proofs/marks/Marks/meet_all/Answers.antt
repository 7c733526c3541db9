use Rattle.std.proofs.Common.{ap, sym, ◌∙◌, ◌≡◌, Some}
use Rattle.std.proofs.lemmas.List.Elements.{All-pop}
use Rattle.nt_mark.specs.declared.view.View.{View}
use Rattle.nt_mark.specs.declared.seats.Pass.{Pass}
use Rattle.nt_mark.specs.Names.{table_of, pass_table, pass_view, pass_views}
use Rattle.nt_mark.specs.Closing.{gathered}
use Rattle.nt_mark.proofs.Gathering.{gathered_pass}
use Rattle.nt_mark.proofs.marks.Marks.meet_all.Goals as goal

pub loop-other-preserved : goal.loop-other-preserved
loop-other-preserved c =
    let i = c.loop-other.invariant in
    let popped = c.in-Some.ensures.items in
    let rest = All-pop (λ (p : Pass). pass_table p ≡ table_of c.args.self.now) _ c.pop.new.self.items (Some c.in-Some.other) popped i.others_at in
    let same = gathered_pass (pass_view c.loop-other.pass) _ _ c.in-Some.other popped in
    record {
      at = c.meet.ensures.table ∙ i.at;
      others_at = rest.0;
      same = ap (λ (v : View). gathered v (pass_views c.pop.new.self.items)) c.meet.ensures.both ∙ (sym same ∙ i.same);
    }
