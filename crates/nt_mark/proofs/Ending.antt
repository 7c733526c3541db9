-- What the rule says of a seat that has all parts and keeps all lanes.
use Rattle.std.proofs.Common.{◌≡◌, ◌≢◌, ℕ, ◌*◌, List, [], length, get_or, sym, ap, ◌∙◌, subst, inl, inr, ⊎_elim, arith, Contains, sum_by}
use Rattle.std.specs.List.Sorted.{IsStrictlyIncreasing}
use mathlib.Core.Logic.{dite}
use mathlib.Core.Option.{some, some-injective}
use native.Mathlib.Decide.{ℕ_discrete}
use lib.ListN.{get_elem?}
use Rattle.nt_mark.specs.declared.view.Entry.{Entry}
use Rattle.nt_mark.specs.declared.view.Mark.{Mark}
use Rattle.nt_mark.specs.declared.view.Look.{Look}
use Rattle.nt_mark.specs.declared.view.Note.{Note}
use Rattle.nt_mark.specs.declared.view.LaneList.{LaneList}
use Rattle.nt_mark.specs.declared.view.View.{View}
use Rattle.nt_mark.specs.declared.view.Sizes.{Sizes}
use Rattle.nt_mark.specs.Views.{note_numbers, mark_of}
use Rattle.nt_mark.specs.Rule.{sum_below, IsMarked, IsBeginning, Keeps}
use Rattle.nt_mark.specs.Closing.{IsOfEntry, WasAsked}
use Rattle.nt_mark.proofs.Sums.{in_none, none_left, sum_two, sum_ones, sum_only, ones_below, get_below, at_one, one_at, some_with}

-- the seat has all that was drawn and noted: `count` numbers, each once, and `lanes` lanes, each once
pub record IsWhole (lanes : ℕ) (v : View) (count : ℕ) : Type 0 where
  pub drawn_once : (h : ℕ → ℕ) → sum_by (λ (e : Entry). h e.number) v.entries ≡ sum_below h count
  pub kept_once : (h : ℕ → ℕ) → sum_by (λ (k : LaneList). h k.lane) v.kept ≡ sum_below h lanes
  pub rise : (k : LaneList) → Contains v.kept k → IsStrictlyIncreasing (note_numbers k.notes)
  pub notes : (k : LaneList) (n : Note) → Contains v.kept k → Contains k.notes n → IsOfEntry v.entries k.lane n
  pub known : (e : Entry) → Contains v.known e → Contains v.entries e
  pub prefixes : (q : LaneList) → Contains v.prefixes q → (k : LaneList) × Contains v.kept k × (k.lane ≡ q.lane) × IsBeginning q.notes k.notes
  pub looks : (l : Look) → Contains v.looks l → WasAsked v l

-- a seat with all parts and all lanes has each number drawn once, each lane once, and only looks at asked values
pub whole : (key : Sizes) (words : List ℕ) (views : List View) (log : List Entry) (lists : List (List Note)) → Keeps key words views log lists
    → (id : ℕ) (v : View) → get_elem? views id ≡ some v → v.parts ≡ key.parts → length v.kept ≡ key.lanes → IsWhole key.lanes v (get_or words 0 0)
whole key words views log lists r id v at parts lanes =
    let mine = r.each id v at in
    let none_drawn : (j : ℕ) (u : View) → j ≢ id → get_elem? views j ≡ some u → u.entries ≡ [] = λ j u ne g.
    let two = sum_two (λ (z : View). z.parts) views j id u v g at ne in
    let all = r.parts in
    let few = (r.each j u g).few in
    let no_parts : u.parts ≡ 0 = omega arith in
    let c : key.limit * u.parts ≡ key.limit * 0 = ap (λ (z : ℕ). key.limit * z) no_parts in
    none_left u.entries (omega arith) in
    let none_kept : (j : ℕ) (u : View) → j ≢ id → get_elem? views j ≡ some u → u.kept ≡ [] = λ j u ne g.
    let all = r.kept_once (λ _. 1) in
    let ones = ones_below key.lanes in
    let own = sum_ones v.kept in
    let two = sum_two (λ (z : View). sum_by (λ (k : LaneList). 1) z.kept) views j id u v g at ne in
    let theirs = sum_ones u.kept in
    none_left u.kept (omega arith) in
    let drawn_by : (h : ℕ → ℕ) → sum_by (λ (e : Entry). h e.number) v.entries ≡ sum_below h (length log) = λ h.
    sym (sum_only (λ (u : View). sum_by (λ (e : Entry). h e.number) u.entries) views id v at
    (λ j u ne g. ap (sum_by (λ (e : Entry). h e.number)) (none_drawn j u ne g))) ∙ r.drawn_once h in
    let kept_by : (h : ℕ → ℕ) → sum_by (λ (k : LaneList). h k.lane) v.kept ≡ sum_below h key.lanes = λ h.
    sym (sum_only (λ (u : View). sum_by (λ (k : LaneList). h k.lane) u.kept) views id v at
    (λ j u ne g. ap (sum_by (λ (k : LaneList). h k.lane)) (none_kept j u ne g))) ∙ r.kept_once h in
    let owned : (e : Entry) → get_elem? log e.number ≡ some e → Contains v.entries e = λ e g.
    let d = drawn_by (at_one e.number) in
    let o = one_at e.number (length log) (get_below log e.number e g) in
    let f = some_with (λ (x : Entry). x.number) e.number v.entries (omega arith) in
    let same : f.0 ≡ e = some-injective f.0 e (sym (mine.own f.0 f.1) ∙ (ap (get_elem? log) f.2 ∙ g)) in
    subst (λ (z : Entry). Contains v.entries z) same f.1 in
    let my_mark : (m : Mark) → IsMarked views m → Contains v.marks m = λ t m. dite (ℕ_discrete m.0 id)
    (λ e. let is : v ≡ m.1 = some-injective v m.1 (sym at ∙ subst (λ (k : ℕ). get_elem? views k ≡ some m.1) e m.2) in
    subst (λ (u : View). Contains u.marks t) (sym is) m.3)
    (λ ne. let e = (r.each m.0 m.1 m.2).marks t m.3 in absurd (in_none e.0 (subst (λ (q : List Entry). Contains q e.0) (none_drawn m.0 m.1 ne m.2) e.1))) in
    record {
      drawn_once = λ h. drawn_by h ∙ ap (sum_below h) (sym r.steps);
      kept_once = kept_by;
      rise = λ k h. let a = mine.kept k h in subst (λ (q : List Note). IsStrictlyIncreasing (note_numbers q)) (sym a.1) (r.rise k.lane a.0);
      notes = λ k n h m. let a = mine.kept k h in let o = r.of_entries k.lane n a.0 (subst (λ (q : List Note). Contains q n) a.1 m) in
          (o.0, owned o.0 o.1, o.2, o.3);
      known = λ e h. owned e (mine.known e h);
      prefixes = λ q hq.
          let f = mine.prefixes q hq in
          let d = kept_by (at_one q.lane) in
          let o = one_at q.lane key.lanes f.0 in
          let k = some_with (λ (x : LaneList). x.lane) q.lane v.kept (omega arith) in
          (k.0, k.1, k.2, subst (λ (l : List Note). IsBeginning q.notes l) (ap (λ (x : ℕ). get_or lists x []) (sym k.2) ∙ sym (mine.kept k.0 k.1).1) f.1);
      looks = λ l h. ⊎_elim (λ z. inl z)
          (λ s.
          let m = my_mark (mark_of l.cpu l.class s.0) s.2 in
          inr (s.0, s.1, m, mine.marks (mark_of l.cpu l.class s.0) m)) (mine.looks l h);
    }
