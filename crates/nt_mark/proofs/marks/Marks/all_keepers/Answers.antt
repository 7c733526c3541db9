use Rattle.std.proofs.Common.{◌≡◌, ◌+◌, ◌-◌, ◌<◌, [], ◌∷◌, length, arith, subst, ap, sym, ◌∙◌, length-append, All}
use Rattle.nt_mark.specs.declared.view.View.{View}
use Rattle.nt_mark.specs.declared.view.LaneList.{LaneList}
use Rattle.nt_mark.specs.Views.{first_notes, known_entries, known_lists}
use Rattle.nt_mark.specs.Rule.{empty_lists}
use Rattle.nt_mark.specs.Names.{table_of, cpus_of}
use Rattle.nt_mark.specs.Closing.{AreNewKeepers}
use Rattle.nt_mark.proofs.Opening.{all_empty, next_kept, one_given, AreNewKeepers-push}
use Rattle.nt_mark.proofs.marks.Marks.all_keepers.Goals as goal

pub keeper-keeper-requires-clause-first : goal.keeper-keeper-requires-clause-first
keeper-keeper-requires-clause-first c =
    let i = c.loop-lane.invariant in
    let n = c.args.lanes - (c.loop-lane.lane + 1) in
    let e : c.args.lanes - c.loop-lane.lane ≡ n + 1 = omega arith in
    (n, ap (λ m. m.0.kept) i.me ∙ ap (empty_lists (cpus_of c.args.self.now) c.loop-lane.lane) e)

pub loop-lane-preserved : goal.loop-lane-preserved
loop-lane-preserved c =
    let i = c.loop-lane.invariant in
    let k = c.keeper-keeper.ensures in
    let p = c.push_reserved.ensures in
    let key = c.args.self.now.table.shared.key in
    let n = c.args.lanes - c.loop-lane.lane in
    let pos : 0 < n = omega arith in
    let kept = ap (λ m. m.0.kept) i.me in
    let next = next_kept c.loop-lane.seat.me.0.kept key.cpus c.loop-lane.lane n kept pos in
    let less : n - 1 ≡ c.args.lanes - (c.loop-lane.lane + 1) = omega arith in
    record {
      at = k.table.0 ∙ i.at;
      me = one_given key c.loop-lane.lane n _ c.loop-lane.seat.me c.keeper-keeper.new.seat.me i.me pos (sym less) k.seat;
      made = subst (AreNewKeepers (table_of c.args.self.now)) (sym p.items)
          (AreNewKeepers-push _ c.loop-lane.keepers.items c.keeper-keeper.result i.made record {
            table_is = k.table.1 ∙ (i.at ∙ c.requires.seat.0);
            lane_is = let a = i.count in let b = k.keeper.0 in omega arith;
            notes = ap (λ (v : View). first_notes v.kept) k.keeper.1 ∙ next.1;
            known = ap (λ (v : View). v.known) k.keeper.1 ∙ ap (λ m. known_entries m.0) i.me;
            reached = ap (λ (v : View). v.reached) k.keeper.1 ∙ ap (λ m. m.0.reached) i.me;
            prefixes = subst (All (λ (q : LaneList). q.notes ≡ [])) (sym (ap (λ (v : View). v.prefixes) k.keeper.1 ∙ ap (λ m. known_lists m.0) i.me))
                (all_empty key.cpus c.loop-lane.lane n);
          });
      count = ap length p.items ∙ (length-append c.loop-lane.keepers.items (c.keeper-keeper.result ∷ []) ∙ (let a = i.count in omega arith));
      room = let a = i.room in let b = p.capacity in omega arith;
    }
