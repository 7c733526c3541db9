use Rattle.std.proofs.Common.{ap, arith, refl, subst, sym, ◌∙◌}
use Rattle.std.proofs.lemmas.List.Elements.{Contains-append_left}
use Rattle.std.specs.Prelude.{Contains, List, [], get_or, length, ℕ, ◌++◌, ◌∷◌, ◌≡◌, ◌≤◌, ◌<◌}
use Rattle.nt_event.specs.declared.events.Event.{Event}
use Rattle.nt_mark.specs.declared.view.Entry.{Entry}
use Rattle.nt_mark.specs.declared.view.LaneList.{LaneList}
use Rattle.nt_mark.specs.declared.view.Note.{Note}
use Rattle.nt_mark.specs.declared.view.View.{View}
use Rattle.nt_mark.specs.Names.{keeper_lane, keeper_view, pass_view}
use Rattle.nt_mark.specs.Rule.{IsAbove}
use Rattle.nt_mark.specs.Views.{entry, first_notes, note_of, reach, request_word, step_word}
use Rattle.nt_states.specs.LaneLists.{as_asks}
use Rattle.nt_lane_record.specs.Records.{AreKnown, LaneRecord, told_rows, told_then}
use Rattle.nt_lane_record.proofs.Rows.{all_within, known_then, length-raised_list, places_within, rows_then}
use Rattle.nt_lane_record.proofs.Tying.{here, items_more, kept_told, known_more, known_told, learns_through, learns_told, list_told, noted_kept, numbers_more}
use Rattle.nt_lane_record.proofs.Tying.{own_told, reach_told}
use Rattle.nt_mark.proofs.Noting.{IsAbove-le, IsAbove-push, kept_of}
use Rattle.nt_lane_record.proofs.record.Record.note.Goals as goal

pub tell-requires-clause-places : goal.tell-requires-clause-places
tell-requires-clause-places g c =
    places_within g.N.Plan.script c.args.asks.now c.self.inside.told.items c.self.invariant.0 c.requires.asks

pub note-requires-clause-knows : goal.note-requires-clause-knows
note-requires-clause-knows g c =
    let i = c.self.inside in
    let s = c.share.ensures in
    let k1 = keeper_view c.share.new.keeper in
    let x : Entry = entry c.args.n c.args.event.now c.args.lanes.now in
    let lane : c.args.self.now.lane ≡ keeper_lane c.share.new.keeper = sym (ap (λ (r : LaneRecord). r.lane) c.self.view_is)
    ∙ sym (s.same.2 ∙ c.self.invariant.1.its_lane_is) in
    let told : Contains k1.known x = own_told (keeper_view i.keeper) (pass_view c.args.pass.now) k1 s.keeper x c.requires.drew in
    (x, Contains-append_left k1.known k1.entries x told, refl, subst (λ (y : ℕ). Contains c.args.lanes.now y) lane c.requires.touched)

pub note-requires-clause-above : goal.note-requires-clause-above
note-requires-clause-above g c =
    let i = c.self.inside in
    let s = c.share.ensures in
    let k0 = keeper_view i.keeper in
    let k1 = keeper_view c.share.new.keeper in
    let known : reach step_word k0 ≡ c.args.self.now.known = ap (λ (r : LaneRecord). r.known) c.self.view_is in
    let le : reach step_word k0 ≤ c.args.n = let a = c.requires.above.0 in omega arith in
    subst (λ (ks : List LaneList). IsAbove c.args.n (first_notes ks)) (sym (kept_told k0 (pass_view c.args.pass.now) k1 s.keeper))
    (IsAbove-le (reach step_word k0) c.args.n (first_notes k0.kept) c.self.invariant.1.above le)

pub invariant_of-self : goal.invariant_of-self
invariant_of-self g c =
    let i = c.self.inside in
    let v = c.self.invariant.1 in
    let s1 = c.share.ensures in
    let s2 = c.share-2.ensures in
    let m = c.note.ensures in
    let k0 = keeper_view i.keeper in
    let k1 = keeper_view c.share.new.keeper in
    let k2 = keeper_view c.note.new.keeper in
    let k3 = keeper_view c.share-2.new.keeper in
    let p0 = pass_view c.args.pass.now in
    let p1 = pass_view c.share.new.pass in
    let n = c.args.n in
    let cpus = g.N.Plan.script.cpus in
    let asks = as_asks c.args.asks.now in
    let raised = c.tell.new.told.items in
    let rows : told_rows cpus raised ≡ told_then cpus n asks (told_rows cpus i.told.items) = ap (told_rows cpus) c.tell.ensures
    ∙ rows_then cpus n asks i.told.items c.self.invariant.0 (all_within g.N.Plan.script asks c.requires.asks) in
    let e : Event = c.args.event.now in
    let x : Note = note_of n (record { content = g.C.Holds.content c.args.content.now; told = told_rows cpus raised } ∷ []) in
    let notes : first_notes k3.kept ≡ first_notes k0.kept ++ x ∷ [] = ap (λ (ks : List LaneList). first_notes ks) (kept_told k2 p1 k3 s2.keeper)
    ∙ (m.notes ∙ ap (λ (ks : List LaneList). first_notes ks ++ x ∷ []) (kept_told k0 p0 k1 s1.keeper)) in
    let r2 : (u : ℕ) → reach u k2 ≡ reach u k1 = λ u. ap (reach u) m.noted in
    let up : (u : ℕ) → reach u k0 ≤ reach u k3 = λ u. let a = reach_told k0 p0 k1 s1.keeper u in let b = r2 u in
    let d = reach_told k2 p1 k3 s2.keeper u in omega arith in
    let pass : (u : ℕ) → reach u p0 ≤ reach u k3 = λ u. let a = reach_told k0 p0 k1 s1.keeper u in let b = r2 u in
    let d = reach_told k2 p1 k3 s2.keeper u in omega arith in
    let beyond : n < reach step_word k3 = let a = c.requires.above.1 in let b = pass step_word in omega arith in
    let z : Entry = entry n e c.args.lanes.now in
    let k13 : (y : Entry) → Contains k1.known y → Contains k3.known y = λ y h. known_told k2 p1 k3 s2.keeper y
    (subst (λ (u : View). Contains u.known y) (sym m.noted) h) in
    let lane : c.args.self.now.lane ≡ i.number = sym (ap (λ (r : LaneRecord). r.lane) c.self.view_is) in
    let asked : AreKnown (told_rows cpus raised) k3 = subst (λ (t : List (List ℕ)). AreKnown t k3) (sym rows)
    (known_then cpus n asks (told_rows cpus i.told.items) k3 (known_more (told_rows cpus i.told.items) k0 k3 up v.asked)
    (λ k d l. let a = c.requires.asked k d l in let b = pass (request_word (get_or asks k d).cpu (get_or asks k d).class) in omega arith)
    (omega (arith, beyond))) in (
      ap length c.tell.ensures ∙ (length-raised_list n asks i.told.items ∙ c.self.invariant.0),
      record {
        at = s2.same.0 ∙ (m.same.0 ∙ (s1.same.0 ∙ v.at));
        its_lane_is = s2.same.2 ∙ (m.same.1 ∙ (s1.same.2 ∙ v.its_lane_is));
        numbers = numbers_more i.numbers.items c.push_reserved.new.self.items (first_notes k0.kept) (first_notes k3.kept) n x v.numbers
            c.push_reserved.ensures.items notes refl;
        known = items_more i.number i.numbers.items c.push_reserved.new.self.items n e c.args.lanes.now k0 k3 c.push_reserved.ensures.items v.known
            (λ y h. k13 y (known_told k0 p0 k1 s1.keeper y h)) (subst (λ (y : ℕ). Contains c.args.lanes.now y) lane c.requires.touched)
            (k13 z (own_told k0 p0 k1 s1.keeper z c.requires.drew));
        above = subst (λ (l : List Note). IsAbove (reach step_word k3) l) (sym notes)
            (IsAbove-push (reach step_word k3) (first_notes k0.kept) x beyond);
        asked = asked;
      },
    )

pub returns-clause-noted : goal.returns-clause-noted
returns-clause-noted g c =
    let i = c.self.inside in
    let v = c.self.invariant.1 in
    let s1 = c.share.ensures in
    let s2 = c.share-2.ensures in
    let m = c.note.ensures in
    let k0 = keeper_view i.keeper in
    let k1 = keeper_view c.share.new.keeper in
    let k2 = keeper_view c.note.new.keeper in
    let k3 = keeper_view c.share-2.new.keeper in
    let p0 = pass_view c.args.pass.now in
    let p1 = pass_view c.share.new.pass in
    let p2 = pass_view c.share-2.new.pass in
    let n = c.args.n in
    let cpus = g.N.Plan.script.cpus in
    let asks = as_asks c.args.asks.now in
    let raised = c.tell.new.told.items in
    let view : told_rows cpus i.told.items ≡ c.args.self.now.told = ap (λ (r : LaneRecord). r.told) c.self.view_is in
    let rows : told_rows cpus raised ≡ told_then cpus n asks c.args.self.now.told = ap (told_rows cpus) c.tell.ensures
    ∙ rows_then cpus n asks i.told.items c.self.invariant.0 (all_within g.N.Plan.script asks c.requires.asks)
    ∙ ap (told_then cpus n asks) view in
    let shown : List (List ℕ) → Note = λ t. note_of n (record { content = g.C.Holds.content c.args.content.now; told = t } ∷ []) in
    let x : Note = shown (told_rows cpus raised) in
    let same : x ≡ shown (told_then cpus n asks c.args.self.now.told) = ap shown rows in
    let first : first_notes k3.kept ≡ first_notes k0.kept ++ x ∷ [] = ap (λ (ks : List LaneList). first_notes ks) (kept_told k2 p1 k3 s2.keeper)
    ∙ (m.notes ∙ ap (λ (ks : List LaneList). first_notes ks ++ x ∷ []) (kept_told k0 p0 k1 s1.keeper)) in
    let old : first_notes k0.kept ≡ c.args.self.now.notes = ap (λ (r : LaneRecord). r.notes) c.self.view_is in
    let lane = ap (λ (r : LaneRecord). r.lane) c.self.view_is in
    let one = kept_of k0.kept i.keeper.lane i.keeper.word i.keeper.one_lane i.keeper.its_word in
    let q : LaneList = record { lane = one.0.lane; word = one.0.word; notes = one.0.notes ++ x ∷ [] } in
    let kept : k2.kept ≡ q ∷ [] = noted_kept one.0 k1 k2 x (kept_told k0 p0 k1 s1.keeper ∙ one.1) m.noted in
    record {
      lane = lane;
      notes = first ∙ (ap (λ (l : List Note). l ++ x ∷ []) old ∙ ap (λ (y : Note). c.args.self.now.notes ++ y ∷ []) same);
      told_is = rows;
      knows = (
        q,
        list_told p1 k2 p2 s2.pass q (subst (λ (ks : List LaneList). Contains ks q) (sym kept) (here q)),
        one.2 ∙ (v.its_lane_is ∙ lane),
        ap (λ (l : List Note). l ++ x ∷ []) (sym (ap (λ (ks : List LaneList). first_notes ks) one.1)) ∙ sym first,
      );
      learns = learns_through p0 p1 p2 (learns_told p0 k0 p1 s1.pass) (learns_told p1 k2 p2 s2.pass);
    }
