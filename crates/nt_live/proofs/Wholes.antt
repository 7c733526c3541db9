-- What closed passes and lanes show together is a run.
use Rattle.std.proofs.Common.{ap, append_assoc, inl, inr, subst, sym, ⊎_elim, ◌∙◌}
use Rattle.std.proofs.lemmas.List.Elements.{All-contains, All-head, All-tail}
use Rattle.std.specs.List.Sorted.{IsStrictlyIncreasing}
use Rattle.std.specs.Prelude.{All, Bool, Contains, List, [], false, if◌then◌else◌, refl, true, ℕ, ◌++◌, ◌∷◌, ◌≡◌}
use Rattle.nt_event.specs.declared.jobs.Lane.{Lane}
use Rattle.nt_event.specs.declared.numbers.CpuNo.{CpuNo}
use Rattle.nt_event.specs.declared.scripts.Script.{Script}
use Rattle.nt_event.specs.LaneStates.{LaneState, lane_state, told_at}
use Rattle.nt_event.specs.Lanes.{lane_count, lane_number, what_lanes}
use Rattle.nt_event.specs.Own.{Own, stand_in}
use Rattle.nt_states.specs.LaneLists.{LaneFits, lane_fits}
use Rattle.nt_mark.proofs.Sums.{in_none, with_number}
use Rattle.nt_mark.specs.declared.seats.Keeper.{Keeper}
use Rattle.nt_mark.specs.declared.view.Entry.{Entry}
use Rattle.nt_mark.specs.declared.view.LaneList.{LaneList}
use Rattle.nt_mark.specs.declared.view.Note.{Note}
use Rattle.nt_mark.specs.declared.view.View.{View}
use Rattle.nt_mark.specs.Closing.{IsOfEntry, IsOfKeeper}
use Rattle.nt_mark.specs.Names.{keeper_lane, keeper_notes}
use Rattle.nt_mark.specs.Rule.{IsBeginning}
use Rattle.nt_mark.specs.Views.{note_numbers, note_of}
use Rattle.nt_compose.proofs.Fitting.{parts_compose, parts_stepped}
use Rattle.nt_compose.specs.ByParts.{AreListed, FitTogether, IsIn, IsListed, IsOfEvent, IsOwnStep}
use Rattle.nt_compose.specs.Composition.{Placed, state_then}
use Rattle.nt_compose.specs.Noted.{Noted, Rises}
use Rattle.nt_compose.specs.Parts.{IsTail, Numbered, own_by, part}
use Rattle.nt_lane.specs.Seats.{AreFoundOn, IsFoundOn}
use Rattle.nt_live.specs.Gathering.{AreTogether, Gathers, IsClosed}
use Rattle.nt_live.proofs.LaneKept.{among, images, images_append, images_has, images_last, images_rise, kept_cases, kept_found, kept_list, kept_notes}
use Rattle.nt_live.proofs.LaneKept.{lane_list, one_lane}
use Rattle.nt_live.proofs.Looked.{looks_back}
use Rattle.nt_live.proofs.Once.{the_one}
use Rattle.nt_live.proofs.Picked.{inside, picked, step_in}

module _ (s : Script) (limit : ℕ) (v : View) (mine : CpuNo → List Numbered) (ks : List Keeper) (n : ℕ) (t : AreTogether s limit v mine)
    (c : IsClosed s v ks n) (h : List Placed) (parts : (p : CpuNo) → part p h ≡ mine p) where
  abbrev lists : Lane → List Noted
  lists = lane_list s ks

  -- the list of a lane of the script
  of_script : (x : Lane) → lane_fits s x ≡ true → lists x ≡ kept_list s ks x
  of_script x f = ap (λ (b : Bool). if b then kept_list s ks x else []) f

  -- a beginning that the pass knows is one of the lane's list
  begins : (x : ℕ) (q : LaneList) → Contains v.prefixes q → q.lane ≡ x → IsBeginning q.notes (kept_notes x ks)
  begins x q k e =
      let p = All-contains (λ (q : LaneList). IsOfKeeper ks q) v.prefixes q c.prefixes k in
      let f = kept_found x ks p.0 p.1 (p.2 ∙ e) in
      let same : p.0 ≡ f.0 = the_one keeper_lane (lane_count s) ks c.lanes p.0 f.0 p.1 f.1 (p.2 ∙ (e ∙ sym f.2)) in
      let list : keeper_notes p.0 ≡ kept_notes x ks = ap keeper_notes same ∙ sym f.3 in
      (p.3.0, sym list ∙ p.3.1)

  -- ---- the states that an event met

  listed_one : (p : CpuNo) (x : Own) (m : Numbered) (lane : Lane) → lane_fits s lane ≡ true →
      IsFoundOn s v m.number m.placed.event (stand_in p x) m.placed.found lane → IsListed s lists p x m lane
  listed_one p x m lane fits f = record {
    before = images start f.0;
    after = images mark.state b.0;
    is = of_script lane fits ∙ (ap (images start) whole ∙ split);
    content = f.1.content ∙ ap (λ (z : LaneState). z.content) (sym (images_last start f.0));
    told = λ q k l m. f.1.told q k l m ∙ ap (λ (z : LaneState). told_at z.told q k) (sym (images_last start f.0));
  }
    where
      start : LaneState
      start = lane_state s lane []

      mark : Noted
      mark = record { number = m.number; state = state_then s m.number (stand_in p x) m.placed lane }

      note : Note
      note = note_of m.number (mark.state ∷ [])

      b : IsBeginning f.2.0.notes (kept_notes (lane_number s lane) ks)
      b = begins (lane_number s lane) f.2.0 f.2.1 f.2.2

      whole : kept_notes (lane_number s lane) ks ≡ f.0 ++ note ∷ b.0
      whole = b.1 ∙ (ap (λ (ns : List Note). ns ++ b.0) f.2.3 ∙ append_assoc f.0 (note ∷ []) b.0)

      split : images start (f.0 ++ note ∷ b.0) ≡ images start f.0 ++ mark ∷ images mark.state b.0
      split = images_append start f.0 (note ∷ b.0)

  listed : (p : CpuNo) (x : Own) (m : Numbered) (lanes : List Lane) → All (LaneFits s) lanes →
      AreFoundOn s v m.number m.placed.event (stand_in p x) m.placed.found lanes → AreListed s lists p x m lanes
  listed p x m [] fits f = tt
  listed p x m (y ∷ ys) fits f =
      (listed_one p x m y (All-head (LaneFits s) y ys fits) f.0, listed p x m ys (All-tail (LaneFits s) y ys fits) f.1)

  -- ---- an event

  in_mine : (p : CpuNo) (m : Numbered) (ms : List Numbered) → IsIn h p m ms → IsTail (m ∷ ms) (mine p)
  in_mine p m ms i = subst (IsTail (m ∷ ms)) (parts p) i

  in_part : (p : CpuNo) (m : Numbered) (ms : List Numbered) → IsTail (m ∷ ms) (mine p) → IsIn h p m ms
  in_part p m ms i = subst (IsTail (m ∷ ms)) (sym (parts p)) i

  own_step : (p : CpuNo) (m : Numbered) (ms : List Numbered) → IsIn h p m ms → IsOwnStep s limit h lists p m ms
  own_step p m ms i =
      let tail = in_mine p m ms i in
      let a = step_in s limit v mine t p m ms tail in
      record {
        cpu = inside s limit v mine t p m ms tail;
        uncut = a.uncut;
        how = ⊎_elim (λ l. inl (looks_back s limit v mine h t c.looks parts p (own_by s p ms) m l)) (λ g. inr g) a.how;
        threads = a.found.threads;
        listed = listed p (own_by s p ms) m
            (what_lanes s (stand_in p (own_by s p ms)) m.placed.event.what m.placed.found.lanes) a.found.named a.found.on;
      }

  -- ---- a note

  rise : (lane : Lane) → Rises (lists lane)
  rise lane = go (lane_fits s lane)
    where
      start : LaneState
      start = lane_state s lane []

      kept : Rises (kept_list s ks lane)
      kept = ⊎_elim (λ z. subst (λ (ns : List Note). Rises (images start ns)) (sym z) tt)
          (λ o.
          let up = All-contains (λ k. IsStrictlyIncreasing (note_numbers (keeper_notes k))) ks o.0 c.rise o.1 in
          subst (λ (ns : List Note). Rises (images start ns)) (sym o.3) (images_rise start (keeper_notes o.0) up))
          (kept_cases (lane_number s lane) ks)

      go : (b : Bool) → Rises (if b then kept_list s ks lane else [])
      go true = kept
      go false = tt

  -- the entry of a number on a lane's list is that of an event that touched the lane
  of_entry : (lane : Lane) (y : Noted) → lane_fits s lane ≡ true → (e : Entry) → Contains v.entries e → e.number ≡ y.number →
      Contains e.lanes (lane_number s lane) → IsOfEvent s h lane y
  of_entry lane y fits e k is has =
      let d = t.entries e k in
      let a = step_in s limit v mine t d.by d.event d.before d.is_in in
      let lanes = what_lanes s (stand_in d.by (own_by s d.by d.before)) d.event.placed.event.what d.event.placed.found.lanes in
      let w = with_number (lane_number s) (lane_number s lane) lanes
      (subst (λ (e : Entry). Contains e.lanes (lane_number s lane)) d.is has) in
      let same : w.0 ≡ lane = one_lane s w.0 lane (All-contains (LaneFits s) lanes w.0 a.found.named w.1) fits w.2 in
      record {
        by = d.by;
        event = d.event;
        before = d.before;
        is_in = in_part d.by d.event d.before d.is_in;
        number = ap (λ (e : Entry). e.number) (sym d.is) ∙ is;
        touches = among lane lanes (subst (Contains lanes) same w.1);
      }

  noted : (lane : Lane) (y : Noted) → Contains (lists lane) y → IsOfEvent s h lane y
  noted lane y k = go (lane_fits s lane) refl k
    where
      of_note : lane_fits s lane ≡ true → (m : Note) → Contains (kept_notes (lane_number s lane) ks) m → m.number ≡ y.number → IsOfEvent s h lane y
      of_note fits m has is = ⊎_elim (λ z. absurd (in_none m (subst (λ (ns : List Note). Contains ns m) z has)))
          (λ o.
          let i = All-contains (IsOfEntry v.entries (keeper_lane o.0)) (keeper_notes o.0) m
          (All-contains (λ k. All (IsOfEntry v.entries (keeper_lane k)) (keeper_notes k)) ks o.0 c.notes o.1)
          (subst (λ (ns : List Note). Contains ns m) o.3 has) in
          of_entry lane y fits i.0 i.1 (i.2 ∙ is) (subst (Contains i.0.lanes) o.2 i.3))
          (kept_cases (lane_number s lane) ks)

      go : (b : Bool) → lane_fits s lane ≡ b → Contains (if b then kept_list s ks lane else []) y →
          IsOfEvent s h lane y
      go true fits k = let i = images_has (lane_state s lane []) (kept_notes (lane_number s lane) ks) y k in of_note fits i.0 i.1 i.2
      go false fits k = absurd (in_none y k)

  fit : FitTogether s limit h lists
  fit = record { steps = own_step; rise = rise; notes = noted }

-- the events that closed passes and lanes show together are those of one run
pub gathers : Gathers
gathers s limit v mine ks n t c =
    let p = picked s limit v mine t n c.once in (
      p.0,
      record {
        composed = parts_compose s limit p.0 (lane_list s ks) (fit s limit v mine ks n t c p.0 p.2);
        stepped = parts_stepped s limit p.0 (lane_list s ks) (fit s limit v mine ks n t c p.0 p.2);
        count = p.1;
        parts = p.2;
      },
    )
