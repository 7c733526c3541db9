-- An advance of a worker's processor keeps what is known of its work, and so do looks alone.
use Rattle.std.proofs.Common.{ap, arith, inl, inr, subst, sym, ⊎_elim, ◌∙◌}
use Rattle.std.proofs.lemmas.Bool.{ltb-false, ltb-true}
use Rattle.std.proofs.lemmas.Bool.Decides.{nat_tests}
use Rattle.std.proofs.lemmas.List.{map-append}
use Rattle.std.proofs.lemmas.List.Elements.{All-nil, Contains-append_cases, Contains-append_left, Contains-append_right}
use Rattle.std.specs.Prelude.{All, Bool, Contains, List, None, Option, Some, [], false, if◌then◌else◌, map, nat_lt, option_map, refl, suc, true, zero, ℕ, ◌&&◌}
use Rattle.std.specs.Prelude.{◌++◌, ◌+◌, ◌<◌, ◌==◌, ◌∷◌, ◌≡◌, ◌≤◌, ◌⊎◌}
use Rattle.nt_compose.specs.Choices.{GoesOn}
use Rattle.nt_compose.specs.Parts.{Numbered, own_by}
use Rattle.nt_cpu.specs.States.{CpuState}
use Rattle.nt_cpu.specs.Steps.{Advanced, AllLooked, AreLooked, LooksBelow, local_answer, local_gives, local_task, look_if, looks_below, was_looked}
use Rattle.nt_cpu.specs.Turns.{state_then}
use Rattle.nt_cpu.specs.declared.steps.Local.TheVariants.{Cut as LocalCut, Did as LocalDid}
use Rattle.nt_cpu.specs.declared.steps.Turned.TheVariants.{Did}
use Rattle.nt_event.specs.declared.events.Event.{Event}
use Rattle.nt_event.specs.declared.events.What.{What}
use Rattle.nt_event.specs.declared.events.What.TheVariants.{Look as LookEvent}
use Rattle.nt_event.specs.declared.jobs.Lane.{Lane}
use Rattle.nt_event.specs.declared.jobs.Task.{Task}
use Rattle.nt_event.specs.declared.jobs.Task.TheVariants.{Alone, Shared}
use Rattle.nt_event.specs.declared.numbers.CpuNo.{CpuNo}
use Rattle.nt_event.specs.declared.scripts.Script.{Script}
use Rattle.nt_event.specs.Acting.{acted_event}
use Rattle.nt_event.specs.Classes.{is_used_class}
use Rattle.nt_event.specs.Jobs.{chosen_task, job_event}
use Rattle.nt_event.specs.Lanes.{lane_number, what_lanes}
use Rattle.nt_event.specs.Lists.{value_at}
use Rattle.nt_event.specs.Own.{Own, stand_in}
use Rattle.nt_event.specs.Requests.{asks_in, what_asks}
use Rattle.nt_event.specs.Robin.{is_behind, look_values}
use Rattle.nt_event.specs.Step.{event_at, is_cut}
use Rattle.nt_event.specs.Acts.{Found}
use Rattle.nt_floor.specs.Lists.{Lists, with_draw, with_marks}
use Rattle.nt_floor.specs.Views.{HasWord, IsMoved, View as WordsView}
use Rattle.nt_lane.specs.Marked.{mark_for}
use Rattle.nt_lane.specs.Seats.{AreFoundOn, FoundBy, found_later}
use Rattle.nt_lane_record.specs.Passes.{Grows}
use Rattle.nt_lane.specs.Views.{words_of}
use Rattle.nt_mark.specs.declared.marks.Marks.{Marks}
use Rattle.nt_mark.specs.declared.view.Entry.{Entry}
use Rattle.nt_mark.specs.declared.view.Look.{Look}
use Rattle.nt_mark.specs.declared.view.Mark.{Mark}
use Rattle.nt_mark.specs.declared.view.View.{View}
use Rattle.nt_mark.specs.Names.{cpus_of}
use Rattle.nt_mark.specs.Views.{entry, look_of, reach, request_word, step_word}
use Rattle.nt_states.specs.LaneLists.{LaneFits}
use Rattle.nt_cpu.proofs.StepsMade.{needed_job}
use Rattle.nt_lane_record.proofs.Tying.{here, one_of}
use Rattle.nt_live.proofs.Told.{Told, look_back, told_lists}
use Rattle.nt_live.specs.Going.{AdvancesKeepWork, LooksKeepWork}
use Rattle.nt_live.specs.Workers.{AreAsked, AreBelow, AreSteps, AtLook, IsAtWork, LooksAt, all_drawn, all_marks, asks_then}

-- ---- what was done stays told

-- looks that a pass had at a processor's requests stay had by a pass with at least its looks
more_looks : (p : CpuNo) (x : Own) (v w : View) (n : ℕ) → ((l : Look) → Contains v.looks l → Contains w.looks l) → LooksAt p x v n → LooksAt p x w n
more_looks p x v w n g l =
    record { answers = l.answers; behind = l.behind; below = l.below; looked = λ c b. ⊎_elim (λ z. inl z) (λ k. inr (g _ k)) (l.looked c b) }

-- the steps of a processor stay steps for a pass that knows more and has at least the same looks
pub steps_later : (s : Script) (limit : ℕ) (p : CpuNo) (v w : View) (ms : List Numbered) → Grows v w →
    ((l : Look) → Contains v.looks l → Contains w.looks l) → AreSteps s limit p v ms → AreSteps s limit p w ms
unfolding more_looks
steps_later s limit p v w [] g k a = tt
steps_later s limit p v w (m ∷ ms) g k a = (
  record {
    cpu = a.0.cpu;
    uncut = a.0.uncut;
    above = a.0.above;
    how = ⊎_elim (λ (l : AtLook s p (own_by s p ms) v m). inl (more_looks p (own_by s p ms) v w m.number k l.0, l.1))
        (λ (o : GoesOn s p (own_by s p ms) m.placed). inr o) a.0.how;
    found = found_later s v w m.number m.placed.event (stand_in p (own_by s p ms)) m.placed.found g a.0.found;
  },
  steps_later s limit p v w ms g k a.1,
)

-- ---- looks alone

-- a pass that only looked or learned leaves its worker at work
pub looks_keep_work : LooksKeepWork
looks_keep_work s limit c v w looks at o =
    let old : (l : Look) → Contains v.looks l → Contains w.looks l =
    λ l h. subst (λ (ls : List Look). Contains ls l) (sym o.looks_are) (Contains-append_left v.looks looks l h) in
    record {
      script = at.script;
      limit_is = at.limit_is;
      inside = at.inside;
      mine = at.mine;
      own = at.own;
      made = record {
        steps = steps_later s limit c.cpu v w at.mine o.grows old at.made.steps;
        below = λ m h. let a = at.made.below m h in let b = o.next in omega arith;
        asked = λ m past t q k i j h. let a = at.made.asked m past t q k i j h in let b = o.words q k i j in omega arith;
      };
      entries = o.entries ∙ at.entries;
      marks = o.marks ∙ at.marks;
      parts = o.grows.parts ∙ at.parts;
    }

-- ---- the words after looks

-- a conjunction of three that is true has each part true
both_of : (a m n : Bool) → (a && (m && n)) ≡ true → (a ≡ true) × (m ≡ true) × (n ≡ true)
both_of true true true z = (refl, refl, refl)
both_of true true false z = absurd cc
both_of true false n z = absurd cc
both_of false m n z = absurd cc

-- what is known of a word doesn't fall by looks
pub looks_never_fall : (n : ℕ) (p : CpuNo) (answers : List ℕ) (v u : WordsView) → LooksBelow n p answers v u → (q : CpuNo) (k : ℕ) → HasWord v q k →
    v.value q k ≤ u.value q k
looks_never_fall n p answers v u a q k h =
    subst (λ (x : ℕ). v.value q k ≤ x) (sym (a.value q k h)) (go (was_looked p n q k) refl)
  where
    same : (q.0 == p.0) ≡ true → p ≡ q
    same e = let f : p.0 ≡ q.0 = grind (arith, nat_tests) in ap (λ (x : ℕ). record { 0 = x }) f

    go : (b : Bool) → was_looked p n q k ≡ b → v.value q k ≤ (if b then value_at answers k else v.value q k)
    go false e = omega arith
    go true e =
        let b = both_of (q.0 == p.0) (nat_lt k n) (is_used_class k) e in
        subst (λ (x : CpuNo). v.value x k ≤ value_at answers k) (same b.0) (a.least k (ltb-true k n b.1) b.2)

-- ---- the looks

-- a look that is made is in the list of looks made of it
one_look : (p : CpuNo) (k a : ℕ) → Contains (map look_back (look_if true p k a)) (look_of p k a)
unfolding look_back
one_look p k a = here (look_of p k a)

-- one look at each used class
below_has : (p : CpuNo) (answers : List ℕ) (n k : ℕ) → k < n → is_used_class k ≡ true →
    Contains (map look_back (looks_below p n answers)) (look_of p k (value_at answers k))
below_has p answers zero k l h = absurd (omega arith)
below_has p answers (suc n) k l h =
    subst (λ (ls : List Look). Contains ls (look_of p k (value_at answers k)))
    (sym (map-append look_back (looks_below p n answers) (look_if (is_used_class n) p n (value_at answers n))))
    (go (nat_lt k n) refl (λ b. below_has p answers n k b h))
  where
    last : k ≡ n → Contains (map look_back (look_if (is_used_class n) p n (value_at answers n))) (look_of p k (value_at answers k))
    last e =
        subst (λ (j : ℕ). Contains (map look_back (look_if (is_used_class j) p j (value_at answers j))) (look_of p k (value_at answers k))) e
        (subst (λ (b : Bool). Contains (map look_back (look_if b p k (value_at answers k))) (look_of p k (value_at answers k))) (sym h)
        (one_look p k (value_at answers k)))

    go : (b : Bool) → nat_lt k n ≡ b → (k < n → Contains (map look_back (looks_below p n answers)) (look_of p k (value_at answers k))) →
        Contains (map look_back (looks_below p n answers) ++ map look_back (look_if (is_used_class n) p n (value_at answers n)))
        (look_of p k (value_at answers k))
    go true e more = Contains-append_left (map look_back (looks_below p n answers)) _ _ (more (ltb-true k n e))
    go false e more =
        Contains-append_right (map look_back (looks_below p n answers)) _ _ (last (let f : n ≤ k = ltb-false k n e in omega (arith, f, l)))

-- a pass with all looks made has looked at each class, unless the answer for it is 0
looked_at : (p : CpuNo) (answers : List ℕ) (v u : WordsView) (looks : List Look) → AllLooked p answers v u →
    ((l : Look) → Contains (map look_back (looks_below p 15 answers)) l → Contains looks l) → (k : ℕ) → k < 16 →
    (value_at answers k ≡ 0) ⊎ Contains looks (look_of p k (value_at answers k))
looked_at p answers v u looks a g k b = go (is_used_class k) refl (nat_lt k 15) refl
  where
    go : (x : Bool) → is_used_class k ≡ x → (y : Bool) → nat_lt k 15 ≡ y →
        (value_at answers k ≡ 0) ⊎ Contains looks (look_of p k (value_at answers k))
    go false e y f = inl (a.others k e)
    go true e false f = inl (a.later k (ltb-false k 15 f))
    go true e true f = inr (g _ (below_has p answers 15 k (ltb-true k 15 f) e))

-- each answer is at most the least next number
answers_below : (p : CpuNo) (answers : List ℕ) (v u : WordsView) → AllLooked p answers v u → (k : ℕ) → value_at answers k ≤ u.next
answers_below p answers v u a k = go (nat_lt k 15) refl
  where
    go : (y : Bool) → nat_lt k 15 ≡ y → value_at answers k ≤ u.next
    go true f = a.most k (ltb-true k 15 f)
    go false f = let z = a.later k (ltb-false k 15 f) in omega arith

-- ---- one event more

-- a tail that isn't all of it is one of the rest
tail_of_rest : (s : Script) (p : CpuNo) (w : View) (k : Numbered) (mine : List Numbered) →
    ((q : CpuNo) (c : ℕ) → q.0 < s.cpus → c < 16 → asks_then s p k mine q c → k.number + 1 ≤ reach (request_word q c) w) → AreAsked s p w mine →
    AreAsked s p w (k ∷ mine)
tail_of_rest s p w k mine first more m past t q c i j h = go t.0 t.1
  where
    go : (front : List Numbered) → k ∷ mine ≡ front ++ m ∷ past → m.number + 1 ≤ reach (request_word q c) w
    go [] e =
        let a : k ≡ m = cc in
        let b : mine ≡ past = cc in
        let f : asks_then s p k mine q c = subst (λ (x : Numbered). asks_then s p x mine q c) (sym a)
        (subst (λ (xs : List Numbered). asks_then s p m xs q c) (sym b) h) in
        subst (λ (x : Numbered). x.number + 1 ≤ reach (request_word q c) w) a (first q c i j f)
    go (x ∷ xs) e = let b : mine ≡ xs ++ m ∷ past = cc in more m past (xs, b) q c i j h

-- the numbers stay below where one more is
newest : (k : Numbered) (mine : List Numbered) (n : ℕ) → k.number + 1 ≤ n → AreBelow k.number mine → AreBelow n (k ∷ mine)
newest k mine n h a x c =
    ⊎_elim (λ d. subst (λ (y : Numbered). y.number < n) (one_of k x d) (omega arith)) (λ d. let b = a x d in omega arith)
    (Contains-append_cases (k ∷ []) mine x c)

-- the seat may have other marks afterwards, of which nothing is asked
module _ (m o : Marks) (c : CpuState) (v w : View) (answers : List ℕ) (u : WordsView) (e : Event) (cpus : cpus_of m ≡ c.script.cpus)
    (at : IsAtWork c.script c.limit (record { cpu = c; view = v })) (looks : AllLooked c.cpu answers (words_of m v) u) (g : Grows v w)
    (uncut : is_cut c.limit c.own ≡ false) where
  lanes_then : Found → List ℕ
  lanes_then f = map (lane_number c.script) (what_lanes c.script (stand_in c.cpu c.own) e.what f.lanes)

  -- what it looked
  seen_looks : List Look
  seen_looks = map look_back (looks_below c.cpu 15 answers)

  -- the pass knows what these events asked
  asked_later : (f : Found) (n : ℕ) → IsMoved c.script n e (stand_in c.cpu c.own) f u (words_of o w) → AreAsked c.script c.cpu w at.mine
  asked_later f n moved k past t q d i j h =
      let a = at.made.asked k past t q d i j h in
      let word : HasWord (words_of m v) q d = (omega arith, j) in
      let b = looks_never_fall 15 c.cpu answers (words_of m v) u looks q d word in
      let there : HasWord u q d = (let z = looks.same.cpus in omega arith, j) in
      let x = moved.never_falls q d there in
      omega arith

  -- it was made so
  one_more : (f : Found) (n : ℕ) → IsMoved c.script n e (stand_in c.cpu c.own) f u (words_of o w) →
      (Contains w.entries (entry n e (lanes_then f)) → FoundBy c.script w n e (stand_in c.cpu c.own) f) → e.cpu ≡ c.cpu →
      (((l : Look) → Contains seen_looks l → Contains w.looks l) → ((k : ℕ) → value_at answers k ≤ n) →
      AtLook c.script c.cpu c.own w (record { number = n; placed = record { event = e; found = f } })
      ⊎ GoesOn c.script c.cpu c.own (record { event = e; found = f })) →
      IsAtWork c.script c.limit (record { cpu = state_then c f n e; view = w })
  unfolding lanes_then seen_looks
  one_more f n moved found cpu how =
      let told : Told v w n e (lanes_then f) (what_asks c.script (stand_in c.cpu c.own) e.what f.lanes) (looks_below c.cpu 15 answers) =
      told_lists v w n e _ _ (looks_below c.cpu 15 answers)
      (moved.lists ∙ ap (λ (x : Option Lists). with_marks n (what_asks c.script (stand_in c.cpu c.own) e.what f.lanes) (with_draw n e (lanes_then f) x))
      looks.lists) in
      let old : (l : Look) → Contains v.looks l → Contains w.looks l =
      λ l h. subst (λ (ls : List Look). Contains ls l) (sym told.looks_are) (Contains-append_left v.looks seen_looks l h) in
      let new : (l : Look) → Contains seen_looks l → Contains w.looks l =
      λ l h. subst (λ (ls : List Look). Contains ls l) (sym told.looks_are) (Contains-append_right v.looks seen_looks l h) in
      let z : Entry = entry n e (lanes_then f) in
      let drawn : Contains w.entries z =
      subst (λ (es : List Entry). Contains es z) (sym told.entries) (Contains-append_right v.entries (z ∷ []) z (here z)) in
      let k : Numbered = record { number = n; placed = record { event = e; found = f } } in
      let from = moved.least.0 in
      let to : n + 1 ≤ reach step_word w = moved.least.1 in
      let next : reach step_word v ≤ u.next = looks.next in
      let above : AreBelow n at.mine = λ x h. (let a = at.made.below x h in omega arith) in
      record {
        script = refl;
        limit_is = refl;
        inside = at.inside;
        mine = k ∷ at.mine;
        made = record {
          steps = (
            record {
              cpu = cpu;
              uncut = ap (is_cut c.limit) (sym at.own) ∙ uncut;
              above = above;
              how = subst (λ (x : Own). AtLook c.script c.cpu x w k ⊎ GoesOn c.script c.cpu x k.placed) at.own
                  (how new (λ i. let a = answers_below c.cpu answers (words_of m v) u looks i in omega arith));
              found = subst (λ (x : Own). FoundBy c.script w n e (stand_in c.cpu x) f) at.own (found drawn);
            },
            steps_later c.script c.limit c.cpu v w at.mine g old at.made.steps,
          );
          below = newest k at.mine (reach step_word w) to above;
          asked = tail_of_rest c.script c.cpu w k at.mine
              (λ q d i j h. moved.asked q d (let y = looks.same.cpus in omega arith, j)
              (subst (λ (x : Own). asks_in c.script (stand_in c.cpu x) e.what f.lanes q d ≡ true) (sym at.own) h)) (asked_later f n moved);
        };
        own = ap (λ (x : Own). (state_then (record c { own = x }) f n e).own) at.own;
        entries = told.entries ∙ (ap (λ (es : List Entry). es ++ z ∷ []) at.entries
            ∙ ap (λ (x : Own). all_drawn c.script c.cpu at.mine
            ++ entry n e (map (lane_number c.script) (what_lanes c.script (stand_in c.cpu x) e.what f.lanes)) ∷ []) at.own);
        marks = told.marks ∙ (ap (λ (ms : List Mark). ms ++ map (mark_for n) (what_asks c.script (stand_in c.cpu c.own) e.what f.lanes)) at.marks
            ∙ ap (λ (x : Own). all_marks c.script c.cpu at.mine ++ map (mark_for n) (what_asks c.script (stand_in c.cpu x) e.what f.lanes)) at.own);
        parts = g.parts ∙ at.parts;
      }

-- ---- what a step alone did

-- a Look at what rose, or what it chose
pub AloneDid : CpuState → List ℕ → Event → Type 0
AloneDid c answers e = ((is_behind c.own (value_at answers) ≡ true)
    × (event_at c.script c.cpu (LookEvent (record { value = look_values c.own (value_at answers) })) c.own.frames ≡ e))
    ⊎ ((x : What) × (chosen_task c.script c.cpu c.own ≡ Some (Alone x)) × (event_at c.script c.cpu x c.own.frames ≡ e))

-- an event that a processor makes alone is a look at what rose or a task it chose, and the processor is not cut
pub alone_did : (c : CpuState) (answers : List ℕ) (e : Event) → local_gives c answers ≡ LocalDid e → (is_cut c.limit c.own ≡ false) × AloneDid c answers e
unfolding AloneDid
alone_did c answers e h = cut (is_cut c.limit c.own) refl h
  where
    chosen : (o : Option Task) → chosen_task c.script c.cpu c.own ≡ o → local_answer c o ≡ LocalDid e →
        (x : What) × (chosen_task c.script c.cpu c.own ≡ Some (Alone x)) × (event_at c.script c.cpu x c.own.frames ≡ e)
    chosen None q k = cc
    chosen (Some (Alone x)) q k = let i : event_at c.script c.cpu x c.own.frames ≡ e = cc in (x, q, i)
    chosen (Some (Shared j)) q k = cc

    behind : (b : Bool) → is_behind c.own (value_at answers) ≡ b → local_answer c (if b
        then Some (Alone (LookEvent (record { value = look_values c.own (value_at answers) }))) else chosen_task c.script c.cpu c.own) ≡ LocalDid e →
        AloneDid c answers e
    behind true q k =
        let i : event_at c.script c.cpu (LookEvent (record { value = look_values c.own (value_at answers) })) c.own.frames ≡ e = cc in inl (q, i)
    behind false q k = inr (chosen (chosen_task c.script c.cpu c.own) refl k)

    cut : (b : Bool) → is_cut c.limit c.own ≡ b → (if b then LocalCut else local_answer c (local_task c answers)) ≡ LocalDid e →
        (is_cut c.limit c.own ≡ false) × AloneDid c answers e
    cut true q k = absurd cc
    cut false q k = (q, behind (is_behind c.own (value_at answers)) refl k)

-- ---- the law

-- an advance of a worker's processor by an event keeps the worker at work, if the pass only grows
keeps : (m o : Marks) (c d : CpuState) (v w : View) (answers : List ℕ) (u : WordsView) (e : Event) → cpus_of m ≡ c.script.cpus →
    IsAtWork c.script c.limit (record { cpu = c; view = v }) → AreLooked c answers (words_of m v) u →
    Advanced c d answers (λ n e st f. FoundBy c.script w n e st f) (Did e) u (words_of o w) → Grows v w →
    IsAtWork c.script c.limit (record { cpu = d; view = w })
unfolding AloneDid lanes_then seen_looks
keeps m o c d v w answers u e cpus at l (inl a) g =
    let k = alone_did c answers e a.0 in
    let looks = l.looks k.0 in
    let f = a.1.0 in
    let n = a.1.1 in
    let p = a.1.2 in
    let found : Contains w.entries (entry n e (map (lane_number c.script) (what_lanes c.script (stand_in c.cpu c.own) e.what f.lanes))) →
    FoundBy c.script w n e (stand_in c.cpu c.own) f = λ z. record {
      drawn = z;
      threads = p.states.threads;
      named = subst (All (LaneFits c.script)) (sym p.lanes) (All-nil (LaneFits c.script));
      on = subst (λ (xs : List Lane). AreFoundOn c.script w n e (stand_in c.cpu c.own) f xs) (sym p.lanes) tt;
    } in
    let cpu : e.cpu ≡ c.cpu = ⊎_elim (λ x. sym (ap (λ (y : Event). y.cpu) x.1)) (λ x. sym (ap (λ (y : Event). y.cpu) x.2)) k.1 in
    let how : ((l : Look) → Contains (map look_back (looks_below c.cpu 15 answers)) l → Contains w.looks l) → ((k : ℕ) → value_at answers k ≤ n) →
    AtLook c.script c.cpu c.own w (record { number = n; placed = record { event = e; found = f } })
    ⊎ GoesOn c.script c.cpu c.own (record { event = e; found = f }) = λ new most. ⊎_elim (λ x. inl (
      record {
        answers = answers;
        behind = x.0;
        below = λ i b. most i;
        looked = looked_at c.cpu answers (words_of m v) u w.looks looks new;
      },
      x.1,
    )) (λ x. inr (record { task = Alone x.0; chosen = x.1; gives = ap (λ (y : Event). Some y) x.2 })) k.1 in
    subst (λ (x : CpuState). IsAtWork c.script c.limit (record { cpu = x; view = w })) (sym p.state)
    (one_more m o c v w answers u e cpus at looks g k.0 f n p.floor found cpu how)
keeps m o c d v w answers u e cpus at l (inr a) g =
    let job = a.0 in
    let k = needed_job c answers job (sym a.1) in
    let looks = l.looks k.0 in
    let f = a.2.0 in
    let n = a.2.1 in
    let h = a.2.2.0 in
    let gives : option_map (acted_event (stand_in c.cpu c.own) f.lanes) (job_event c.script (stand_in c.cpu c.own) f.lanes job) ≡ Some e =
    ap (option_map (acted_event (stand_in c.cpu c.own) f.lanes)) h.what ∙ ap (λ (y : Event). Some y) (sym h.event) in
    subst (λ (x : CpuState). IsAtWork c.script c.limit (record { cpu = x; view = w })) (sym h.state)
    (one_more m o c v w answers u e cpus at looks g k.0 f n h.floor (λ z. a.2.2.1) (ap (λ (y : Event). y.cpu) h.event)
    (λ new most. inr (record { task = Shared job; chosen = k.1; gives = gives })))

-- whatever marks the seat has afterwards
pub advances_keep : (s : Script) (limit : ℕ) (m o : Marks) (c d : CpuState) (v w : View) (answers : List ℕ) (u : WordsView) (e : Event) →
    cpus_of m ≡ s.cpus → IsAtWork s limit (record { cpu = c; view = v }) → AreLooked c answers (words_of m v) u →
    Advanced c d answers (λ n e st f. FoundBy s w n e st f) (Did e) u (words_of o w) → Grows v w → IsAtWork s limit (record { cpu = d; view = w })
advances_keep s limit m o c d v w answers u e cpus at l a g =
    subst (λ (s : Script). cpus_of m ≡ s.cpus → IsAtWork s limit (record { cpu = c; view = v }) →
    Advanced c d answers (λ n e st f. FoundBy s w n e st f) (Did e) u (words_of o w) → IsAtWork s limit (record { cpu = d; view = w })) at.script
    (λ cpus at a. subst (λ (limit : ℕ). IsAtWork c.script limit (record { cpu = c; view = v }) → IsAtWork c.script limit (record { cpu = d; view = w }))
    at.limit_is (λ at. keeps m o c d v w answers u e cpus at l a g) at) cpus at a

-- an advance of a worker's processor that made an event leaves the worker at work
pub advances_keep_work : AdvancesKeepWork
advances_keep_work s limit m c d v w answers u e cpus at l a g = advances_keep s limit m m c d v w answers u e cpus at l a g
