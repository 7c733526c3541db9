-- What one pass knows of the events of all workers, when one more meets it.
use Rattle.std.proofs.Common.{ap, arith, inl, inr, refl, subst, sym, ⊎_elim, ◌∙◌}
use Rattle.std.proofs.lemmas.Bool.{eqb-true}
use Rattle.std.proofs.lemmas.List.Elements.{Contains-append_cases, Contains-append_left, Contains-append_right, Contains-push_cases}
use Rattle.std.specs.List.{list_any}
use Rattle.std.specs.Prelude.{Bool, Contains, List, [], false, if◌then◌else◌, map, suc, true, zero, ℕ, ◌++◌, ◌<◌, ◌==◌, ◌∷◌, ◌≡◌, ◌≤◌, ◌⊎◌}
use Rattle.nt_event.specs.declared.events.Event.{Event}
use Rattle.nt_event.specs.declared.jobs.Lane.{Lane}
use Rattle.nt_event.specs.declared.jobs.Stand.{Stand}
use Rattle.nt_event.specs.declared.numbers.CpuNo.{CpuNo}
use Rattle.nt_event.specs.declared.scripts.Script.{Script}
use Rattle.nt_event.specs.Numbers.{cpu}
use Rattle.nt_event.specs.Own.{stand_in}
use Rattle.nt_event.specs.Requests.{Ask, is_ask}
use Rattle.nt_event.specs.Acts.{Found}
use Rattle.nt_compose.specs.Parts.{IsTail, Numbered, own_by}
use Rattle.nt_lane.specs.Marked.{mark_for}
use Rattle.nt_lane.specs.Seats.{AreFoundOn, FoundBy}
use Rattle.nt_mark.specs.declared.view.Entry.{Entry}
use Rattle.nt_mark.specs.declared.view.Mark.{Mark}
use Rattle.nt_mark.specs.declared.view.View.{View}
use Rattle.nt_mark.specs.Views.{both, request_word, step_word}
use Rattle.nt_mark.proofs.Reach.{reach_both}
use Rattle.nt_live.specs.Gathering.{AreTogether}
use Rattle.nt_live.specs.Teams.{Covers, HasLooked}
use Rattle.nt_live.specs.Workers.{AreMade, AreSteps, all_drawn, all_marks, asks_then, drawn_of, marks_of}

-- ---- a view that has and knows all that another has and knows

-- two passes joined have and know all that the first had and knew
pub both_left : (v w : View) → Covers v (both v w)
both_left v w = record {
  entries = λ e h. Contains-append_left v.entries w.entries e h;
  looks = λ l h. Contains-append_left v.looks w.looks l h;
  prefixes = λ k h. Contains-append_left v.prefixes w.prefixes k h;
  least = λ u. let b = reach_both u v w in omega (arith, b);
}

-- two passes joined have and know all that the second had and knew
pub both_right : (v w : View) → Covers w (both v w)
both_right v w = record {
  entries = λ e h. Contains-append_right v.entries w.entries e h;
  looks = λ l h. Contains-append_right v.looks w.looks l h;
  prefixes = λ k h. Contains-append_right v.prefixes w.prefixes k h;
  least = λ u. let b = reach_both u v w in omega (arith, b);
}

-- lanes that a pass found an event made on are found so by each pass that covers it
on_later : (s : Script) (v w : View) (n : ℕ) (e : Event) (st : Stand) (f : Found) (xs : List Lane) → Covers v w →
    AreFoundOn s v n e st f xs → AreFoundOn s w n e st f xs
on_later s v w n e st f [] g h = tt
on_later s v w n e st f (x ∷ xs) g h =
    ((h.0.0, h.0.1, (h.0.2.0, g.prefixes h.0.2.0 h.0.2.1, h.0.2.2, h.0.2.3)), on_later s v w n e st f xs g h.1)

-- an event that a pass found is found by each pass that covers it
found_later : (s : Script) (v w : View) (n : ℕ) (e : Event) (st : Stand) (f : Found) → Covers v w → FoundBy s v n e st f → FoundBy s w n e st f
found_later s v w n e st f g h =
    record { drawn = g.entries _ h.drawn; threads = h.threads; named = h.named; on = on_later s v w n e st f _ g h.on }

-- the steps of a processor's events by a pass are steps by each pass that covers it
steps_later : (s : Script) (limit : ℕ) (p : CpuNo) (v w : View) (ms : List Numbered) → Covers v w → AreSteps s limit p v ms → AreSteps s limit p w ms
steps_later s limit p v w [] g a = tt
steps_later s limit p v w (m ∷ ms) g a = (
  record {
    cpu = a.0.cpu;
    uncut = a.0.uncut;
    above = a.0.above;
    how = ⊎_elim
        (λ l. inl (
          record {
            answers = l.0.answers;
            behind = l.0.behind;
            below = l.0.below;
            looked = λ c b. ⊎_elim (λ z. inl z) (λ k. inr (g.looks _ k)) (l.0.looked c b);
          },
          l.1,
        ))
        (λ o. inr o)
        a.0.how;
    found = found_later s v w m.number m.placed.event (stand_in p (own_by s p ms)) m.placed.found g a.0.found;
  },
  steps_later s limit p v w ms g a.1,
)

-- the events that a processor made stay its made events for a pass that has and knows more
pub made_later : (s : Script) (limit : ℕ) (p : CpuNo) (v w : View) (ms : List Numbered) → Covers v w → AreMade s limit p v ms → AreMade s limit p w ms
made_later s limit p v w ms g a = record {
  steps = steps_later s limit p v w ms g a.steps;
  below = λ m h. let b = a.below m h in let l = g.least step_word in omega (arith, b, l);
  asked = λ m past t q c i j k. let b = a.asked m past t q c i j k in let l = g.least (request_word q c) in omega (arith, b, l);
}

-- ---- the entries and marks of a processor's events

-- no element is in an empty list, so anything follows if one is
nothing_in : {A B : Type 0} (x : A) → Contains [] x → B
nothing_in x h = absurd (let l : h.0 < 0 = h.1 in omega (arith, l))

-- an end of a list is an end of the list with one more in front
longer : {A : Type 0} (y : A) (xs ys : List A) → IsTail xs ys → IsTail xs (y ∷ ys)
longer y xs ys t = (y ∷ t.0, ap (λ zs. y ∷ zs) t.1)

-- a list is an end of itself
whole_tail : {A : Type 0} (xs : List A) → IsTail xs xs
whole_tail xs = ([], refl)

record IsEntryOf (s : Script) (p : CpuNo) (ms : List Numbered) (e : Entry) : Type 0 where
  pub event : Numbered
  pub before : List Numbered
  pub is_in : IsTail (event ∷ before) ms
  pub is : e ≡ drawn_of s p event before

-- each entry that a processor drew is the entry of one of its events
entry_of : (s : Script) (p : CpuNo) (ms : List Numbered) (e : Entry) → Contains (all_drawn s p ms) e → IsEntryOf s p ms e
entry_of s p [] e h = nothing_in e h
entry_of s p (m ∷ ms) e h = go (entry_of s p ms e) (Contains-push_cases (all_drawn s p ms) (drawn_of s p m ms) e h)
  where
    go : (Contains (all_drawn s p ms) e → IsEntryOf s p ms e) → Contains (all_drawn s p ms) e ⊎ (drawn_of s p m ms ≡ e) → IsEntryOf s p (m ∷ ms) e
    go more (inl k) = let r = more k in record { event = r.event; before = r.before; is_in = longer m _ _ r.is_in; is = r.is }
    go more (inr k) = record { event = m; before = ms; is_in = whole_tail (m ∷ ms); is = sym k }

record IsMarkOf (s : Script) (p : CpuNo) (ms : List Numbered) (k : Mark) : Type 0 where
  pub event : Numbered
  pub before : List Numbered
  pub is_in : IsTail (event ∷ before) ms
  pub number : k.number ≡ event.number
  pub asks : asks_then s p event before k.cpu k.class

-- each mark of an event's asks has the event's number and is for one of the asks
mark_asks : (n : ℕ) (asks : List Ask) (k : Mark) → Contains (map (mark_for n) asks) k → (k.number ≡ n) × (list_any (is_ask k.cpu k.class) asks ≡ true)
mark_asks n [] k h = nothing_in k h
mark_asks n (a ∷ asks) k h = go (mark_asks n asks k) (Contains-append_cases (mark_for n a ∷ []) (map (mark_for n) asks) k h)
  where
    same : (j : ℕ) → (j == j) ≡ true
    same j = grind arith

    or_true : (b : Bool) → b ≡ true → (rest : Bool) → (if b then true else rest) ≡ true
    or_true true e rest = refl
    or_true false e rest = cc

    here : mark_for n a ≡ k → (k.number ≡ n) × (list_any (is_ask k.cpu k.class) (a ∷ asks) ≡ true)
    here e = subst (λ (z : Mark). (z.number ≡ n) × (list_any (is_ask z.cpu z.class) (a ∷ asks) ≡ true)) e (refl, rw (same a.cpu.0, same a.class) refl)

    later : list_any (is_ask k.cpu k.class) asks ≡ true → (b : Bool) → is_ask k.cpu k.class a ≡ b → list_any (is_ask k.cpu k.class) (a ∷ asks) ≡ true
    later e true q = rw q refl
    later e false q = rw (q, e) refl

    only : Contains (mark_for n a ∷ []) k → mark_for n a ≡ k
    only (zero, l, e) = e
    only (suc j, l, e) = absurd (let z : suc j < 1 = l in omega (arith, z))

    go : (Contains (map (mark_for n) asks) k → (k.number ≡ n) × (list_any (is_ask k.cpu k.class) asks ≡ true)) →
        Contains (mark_for n a ∷ []) k ⊎ Contains (map (mark_for n) asks) k → (k.number ≡ n) × (list_any (is_ask k.cpu k.class) (a ∷ asks) ≡ true)
    go more (inl i) = here (only i)
    go more (inr i) = let r = more i in (r.0, later r.1 (is_ask k.cpu k.class a) refl)

-- each mark that a processor made is the mark of one of its events
mark_of_event : (s : Script) (p : CpuNo) (ms : List Numbered) (k : Mark) → Contains (all_marks s p ms) k → IsMarkOf s p ms k
mark_of_event s p [] k h = nothing_in k h
mark_of_event s p (m ∷ ms) k h = go (mark_of_event s p ms k) (Contains-append_cases (all_marks s p ms) (marks_of s p m ms) k h)
  where
    go : (Contains (all_marks s p ms) k → IsMarkOf s p ms k) → Contains (all_marks s p ms) k ⊎ Contains (marks_of s p m ms) k → IsMarkOf s p (m ∷ ms) k
    go more (inl i) =
        let r = more i in
        record { event = r.event; before = r.before; is_in = longer m _ _ r.is_in; number = r.number; asks = r.asks }
    go more (inr i) =
        let r = mark_asks m.number _ k i in
        record { event = m; before = ms; is_in = whole_tail (m ∷ ms); number = r.0; asks = r.1 }

-- ---- one worker more

-- the lists of events with the list of one processor replaced
pub with_mine : (CpuNo → List Numbered) → CpuNo → List Numbered → CpuNo → List Numbered
with_mine mine p ms q = if q.0 == p.0 then ms else mine q

-- after a processor's list is replaced, the processor has the new list
pub mine_here : (mine : CpuNo → List Numbered) (p : CpuNo) (ms : List Numbered) → with_mine mine p ms p ≡ ms
unfolding with_mine
mine_here mine p ms = let e : (p.0 == p.0) ≡ true = grind arith in rw e refl

-- after one processor's list is replaced, each other processor has its old list
pub mine_else : (mine : CpuNo → List Numbered) (p : CpuNo) (ms : List Numbered) (q : CpuNo) → (q.0 == p.0) ≡ false → with_mine mine p ms q ≡ mine q
unfolding with_mine
mine_else mine p ms q e = rw e refl

-- processors whose numbers test as equal are the same
same_cpu : (p q : CpuNo) → (q.0 == p.0) ≡ true → q ≡ p
same_cpu p q e = ap (λ (n : ℕ). cpu n) (eqb-true q.0 p.0 e)

-- what holds of a processor's events before, where its list was empty, and of the new ones, holds of all
each_mine : (P : CpuNo → List Numbered → Type 0) (mine : CpuNo → List Numbered) (p : CpuNo) (ms : List Numbered) →
    ((q : CpuNo) → P q (mine q)) → P p ms → (q : CpuNo) → P q (with_mine mine p ms q)
each_mine P mine p ms old new q = go (q.0 == p.0) refl
  where
    go : (b : Bool) → (q.0 == p.0) ≡ b → P q (with_mine mine p ms q)
    go true e =
        let i = same_cpu p q e in
        subst (λ (z : CpuNo). P z (with_mine mine p ms z)) (sym i) (subst (P p) (sym (mine_here mine p ms)) new)
    go false e = subst (P q) (sym (mine_else mine p ms q e)) (old q)

module _ (s : Script) (limit : ℕ) (v u : View) (mine : CpuNo → List Numbered) (p : CpuNo) (ms : List Numbered) (empty : mine p ≡ []) where
  kept_tail : (q : CpuNo) (xs : List Numbered) (m : Numbered) → IsTail (m ∷ xs) (mine q) → IsTail (m ∷ xs) (with_mine mine p ms q)
  kept_tail q xs m t = go (q.0 == p.0) refl
    where
      no_tail : {A : Type 0} (front : List Numbered) → [] ≡ front ++ m ∷ xs → A
      no_tail [] h = cc
      no_tail (x ∷ front) h = cc

      go : (b : Bool) → (q.0 == p.0) ≡ b → IsTail (m ∷ xs) (with_mine mine p ms q)
      go true e =
          let none : mine q ≡ [] = ap mine (same_cpu p q e) ∙ empty in
          no_tail t.0 (sym none ∙ t.1)
      go false e = subst (λ (zs : List Numbered). IsTail (m ∷ xs) zs) (sym (mine_else mine p ms q e)) t

  new_tail : (xs : List Numbered) (m : Numbered) → IsTail (m ∷ xs) ms → IsTail (m ∷ xs) (with_mine mine p ms p)
  new_tail xs m t = subst (λ (zs : List Numbered). IsTail (m ∷ xs) zs) (sym (mine_here mine p ms)) t

  -- a pass that knows all events, joined with that of a processor that had none, knows that one's events too
  pub joined : AreTogether s limit v mine → p.0 < s.cpus → AreMade s limit p u ms → u.entries ≡ all_drawn s p ms → u.marks ≡ all_marks s p ms →
      AreTogether s limit (both v u) (with_mine mine p ms)
  joined a inside made entries marks = record {
    made = each_mine (λ q xs. q.0 < s.cpus → AreMade s limit q (both v u) xs) mine p ms
        (λ q i. made_later s limit q v (both v u) (mine q) (both_left v u) (a.made q i))
        (λ i. made_later s limit p u (both v u) ms (both_right v u) made);
    others = each_mine (λ q xs. s.cpus ≤ q.0 → xs ≡ []) mine p ms (λ q i. a.others q i) (λ i. absurd (omega (arith, i, inside)));
    entries = λ e h. ⊎_elim
        (λ k. let r = a.entries e k in record { by = r.by; event = r.event; before = r.before; is_in = kept_tail r.by r.before r.event r.is_in; is = r.is })
        (λ k.
        let r = entry_of s p ms e (subst (λ (es : List Entry). Contains es e) entries k) in
        record { by = p; event = r.event; before = r.before; is_in = new_tail r.before r.event r.is_in; is = r.is })
        (Contains-append_cases v.entries u.entries e h);
    marks = λ z h. ⊎_elim
        (λ k.
        let r = a.marks z k in
        record { by = r.by; event = r.event; before = r.before; is_in = kept_tail r.by r.before r.event r.is_in; number = r.number; asks = r.asks })
        (λ k.
        let r = mark_of_event s p ms z (subst (λ (es : List Mark). Contains es z) marks k) in
        record { by = p; event = r.event; before = r.before; is_in = new_tail r.before r.event r.is_in; number = r.number; asks = r.asks })
        (Contains-append_cases v.marks u.marks z h);
  }

-- one worker alone
abbrev pub nothing_mine : CpuNo → List Numbered
nothing_mine q = []

-- the pass of one worker alone knows the events of its processor, with no events of others
pub alone : (s : Script) (limit : ℕ) (u : View) (p : CpuNo) (ms : List Numbered) → p.0 < s.cpus → AreMade s limit p u ms → u.entries ≡ all_drawn s p ms →
    u.marks ≡ all_marks s p ms → AreTogether s limit u (with_mine nothing_mine p ms)
alone s limit u p ms inside made entries marks = record {
  made = each_mine (λ q xs. q.0 < s.cpus → AreMade s limit q u xs) nothing_mine p ms
      (λ q i. record { steps = tt; below = λ m h. nothing_in m h; asked = λ m past t. no_tail m past t.0 t.1 })
      (λ i. made);
  others = each_mine (λ q xs. s.cpus ≤ q.0 → xs ≡ []) nothing_mine p ms (λ q i. refl) (λ i. absurd (omega (arith, i, inside)));
  entries = λ e h.
      let r = entry_of s p ms e (subst (λ (es : List Entry). Contains es e) entries h) in
      record { by = p; event = r.event; before = r.before; is_in = in_tail r.event r.before r.is_in; is = r.is };
  marks = λ z h.
      let r = mark_of_event s p ms z (subst (λ (es : List Mark). Contains es z) marks h) in
      record { by = p; event = r.event; before = r.before; is_in = in_tail r.event r.before r.is_in; number = r.number; asks = r.asks };
}
  where
    no_tail : {A : Type 0} (m : Numbered) (past front : List Numbered) → [] ≡ front ++ m ∷ past → A
    no_tail m past [] h = cc
    no_tail m past (x ∷ front) h = cc

    in_tail : (m : Numbered) (past : List Numbered) → IsTail (m ∷ past) ms → IsTail (m ∷ past) (with_mine nothing_mine p ms p)
    in_tail m past t = subst (λ (zs : List Numbered). IsTail (m ∷ past) zs) (sym (mine_here nothing_mine p ms)) t

-- a pass that only looked
pub looked_on : (s : Script) (limit : ℕ) (v w : View) (mine : CpuNo → List Numbered) → HasLooked v w → AreTogether s limit v mine → AreTogether s limit w mine
looked_on s limit v w mine l a = record {
  made = λ p i. made_later s limit p v w (mine p) l.covers (a.made p i);
  others = a.others;
  entries = λ e h. a.entries e (subst (λ (es : List Entry). Contains es e) l.entries h);
  marks = λ k h. a.marks k (subst (λ (ms : List Mark). Contains ms k) l.marks h);
}
