use Rattle.std.proofs.Common.{ap, sym, ◌∙◌, ◌≡◌, Some}
use Rattle.std.proofs.lemmas.List.Elements.{All-pop}
use Rattle.nt_mark.specs.declared.view.View.{View}
use Rattle.nt_mark.specs.declared.seats.Keeper.{Keeper}
use Rattle.nt_mark.specs.Names.{table_of, keeper_table, keeper_views}
use Rattle.nt_mark.specs.Closing.{gathered}
use Rattle.nt_mark.proofs.Gathering.{gathered_keeper}
use Rattle.nt_mark.proofs.marks.Marks.take_all.Goals as goal

pub loop-keeper-preserved : goal.loop-keeper-preserved
loop-keeper-preserved c =
    let i = c.loop-keeper.invariant in
    let popped = c.in-Some.ensures.items in
    let rest = All-pop (λ (k : Keeper). keeper_table k ≡ table_of c.args.self.now) _ c.pop.new.self.items (Some c.in-Some.keeper) popped i.keepers_at in
    let same = gathered_keeper c.loop-keeper.seat.me.0 _ _ c.in-Some.keeper popped in
    record {
      at = c.take.ensures.table ∙ i.at;
      keepers_at = rest.0;
      same = ap (λ (v : View). gathered v (keeper_views c.pop.new.self.items)) c.take.ensures.both ∙ (sym same ∙ i.same);
    }
