-- What one turn of a worker leaves.
use Rattle.std.proofs.Common.{ap, append-nil, arith, inl, inr, subst, sym, ◌∙◌}
use Rattle.std.proofs.lemmas.Bool.Decides.{nat_tests}
use Rattle.std.proofs.lemmas.List.{append_cancel_left, length-append, map-append}
use Rattle.std.specs.List.{list_any}
use Rattle.std.specs.Prelude.{Bool, Err, IfOk, List, None, Ok, OnErr, Option, Result, Some, [], false, if◌then◌else◌, length, map, nat_lt, refl, suc, true}
use Rattle.std.specs.Prelude.{zero, ℕ, ◌*◌, ◌++◌, ◌+◌, ◌<◌, ◌||◌, ◌∷◌, ◌≡◌, ◌≤◌}
use Rattle.std.specs.declared.alloc.AllocError.{AllocError}
use Rattle.atomic_table.specs.Seated.{TableId}
use Rattle.nt_compose.specs.Parts.{Numbered, own_by}
use Rattle.nt_cpu.specs.States.{CpuState}
use Rattle.nt_cpu.specs.Steps.{Advanced, AreLooked, Knows, local_answer, local_gives, local_task, look_if, looks_below, with_looks}
use Rattle.nt_cpu.specs.Turns.{Serves, state_then}
use Rattle.nt_cpu.specs.declared.steps.Local.TheVariants.{Cut as LocalCut, Quiet as LocalQuiet}
use Rattle.nt_cpu.specs.declared.steps.Turned.{Turned}
use Rattle.nt_cpu.specs.declared.steps.Turned.TheVariants.{Cut, Did, Quiet}
use Rattle.nt_event.specs.declared.events.Event.{Event}
use Rattle.nt_event.specs.declared.events.What.TheVariants.{Look as LookEvent}
use Rattle.nt_event.specs.declared.jobs.Task.{Task}
use Rattle.nt_event.specs.declared.jobs.Task.TheVariants.{Alone, Shared}
use Rattle.nt_event.specs.declared.numbers.CpuNo.{CpuNo}
use Rattle.nt_event.specs.declared.scripts.Script.{Script}
use Rattle.nt_event.specs.Classes.{is_used_class}
use Rattle.nt_event.specs.Jobs.{chosen_task}
use Rattle.nt_event.specs.Lanes.{lane_number, what_lanes}
use Rattle.nt_event.specs.Lists.{table_from, value_at}
use Rattle.nt_event.specs.Own.{Own, stand_in}
use Rattle.nt_event.specs.Requests.{what_asks}
use Rattle.nt_event.specs.Robin.{is_behind, look_value, look_values}
use Rattle.nt_event.specs.Step.{is_cut}
use Rattle.nt_event.specs.Acts.{Found}
use Rattle.nt_floor.specs.Lists.{Lists, Look as LookTold, with_draw, with_marks}
use Rattle.nt_floor.specs.Views.{HasWord, IsMoved, IsUnmoved, View as WordsView}
use Rattle.nt_lane.specs.Seats.{AreListed, FoundBy}
use Rattle.nt_lane_record.specs.Passes.{Grows}
use Rattle.nt_lane.specs.Views.{SeatGrows, drawable_of, last_drawn, lists_of, look_told, words_of}
use Rattle.nt_mark.specs.declared.marks.Marks.{Marks}
use Rattle.nt_mark.specs.declared.seats.Pass.{Pass}
use Rattle.nt_mark.specs.declared.view.Entry.{Entry}
use Rattle.nt_mark.specs.declared.view.Look.{Look}
use Rattle.nt_mark.specs.declared.view.View.{View}
use Rattle.nt_mark.specs.Names.{cpus_of, limit_of, pass_table, pass_view}
use Rattle.nt_mark.specs.Views.{entry, reach, request_word, step_word}
use Rattle.nt_cpu.proofs.StepsMade.{needed_job}
use Rattle.nt_live.proofs.Going.{advances_keep, alone_did, looks_keep_work, looks_never_fall}
use Rattle.nt_live.proofs.Told.{Told, ToldLooks, look_back, looks_told, told_lists, told_looks}
use Rattle.nt_live.specs.declared.worker.Outcome.{Outcome}
use Rattle.nt_live.specs.declared.worker.Outcome.TheVariants.{Stopped}
use Rattle.nt_live.specs.Going.{OnlyLooked}
use Rattle.nt_live.specs.Turning.{IsAdvanced, IsDoneWhere, IsSeated, at_work, made_of, outcome_of}
use Rattle.nt_live.specs.Workers.{GoesOnFrom, IsAtWork, KnowsSeen, LookedLast, all_drawn, drawn_of, pairs_of}

-- ---- what an advance needs

-- there is an entry for each event
counted : (s : Script) (p : CpuNo) (mine : List Numbered) → length (all_drawn s p mine) ≡ (own_by s p mine).made
counted s p [] = refl
counted s p (m ∷ past) = let a = counted s p past in let b = length-append (all_drawn s p past) (drawn_of s p m past ∷ []) in omega (arith, a, b)

-- the pass of a processor at work has an entry for each event that it made
pub entries_made : (s : Script) (limit : ℕ) (c : CpuState) (v : View) → IsAtWork s limit (record { cpu = c; view = v }) → length v.entries ≡ c.own.made
entries_made s limit c v at = ap length at.entries ∙ (counted s c.cpu at.mine ∙ ap (λ (x : Own). x.made) (sym at.own))

-- the words of its pass serve a processor at work
pub serves_at_work : (s : Script) (limit : ℕ) (m : Marks) (c : CpuState) (v : View) → cpus_of m ≡ s.cpus → limit_of m ≡ limit →
    IsAtWork s limit (record { cpu = c; view = v }) → KnowsSeen c v → Serves c (words_of m v)
serves_at_work s limit m c v cpus few at k = record {
  cpus = cpus ∙ ap (λ (x : Script). x.cpus) (sym at.script);
  drawable = λ h. room h;
  known = (k m).known;
  below = (k m).below;
  named = (k m).named;
  stands = tt;
  values = λ h. absurd cc;
}
  where
    room : is_cut c.limit c.own ≡ false → 1 ≤ drawable_of m v
    room h =
        let a : c.own.made < c.limit = grind (arith, nat_tests) in
        let b : limit_of m * v.parts ≡ c.limit = ap (λ (x : ℕ). limit_of m * x) at.parts ∙ (let y = few in let z = at.limit_is in omega arith) in
        let d = entries_made s limit c v at in
        omega arith

-- what the words know, the pass knows
pub knows_seen : (m : Marks) (c : CpuState) (v : View) → Knows c (words_of m v) → KnowsSeen c v
knows_seen m c v h n = record { known = h.known; below = h.below; named = h.named }

-- ---- where no event was made

-- the pass only looked
pub only_looked : (s : Script) (m o : Marks) (c : CpuState) (v w : View) (answers : List ℕ) (u : WordsView) → cpus_of m ≡ s.cpus →
    AreLooked c answers (words_of m v) u → IsUnmoved u (words_of o w) → Grows v w → (looks : List Look) × OnlyLooked s v w looks
only_looked s m o c v w answers u cpus l n g = go (is_cut c.limit c.own) refl
  where
    go : (b : Bool) → is_cut c.limit c.own ≡ b → (looks : List Look) × OnlyLooked s v w looks
    go true e =
        let same = l.cut e in
        let lists : Some (lists_of w) ≡ with_looks [] (Some (lists_of v)) =
        n.lists ∙ (ap (λ (x : WordsView). x.lists) same
        ∙ ap (λ (x : List LookTold). Some (record (lists_of v) { looks = x })) (sym (append-nil (map look_told v.looks)))) in
        let t : ToldLooks v w [] = told_looks v w [] lists in (
          [],
          record {
            entries = t.entries;
            marks = t.marks;
            looks_are = t.looks_are;
            next = subst (λ (x : WordsView). x.next ≤ reach step_word w) same n.next;
            words = λ q k i j. subst (λ (x : WordsView). x.value q k ≤ reach (request_word q k) w) same
                (n.never_falls q k (subst (λ (x : WordsView). HasWord x q k) (sym same) (omega arith, j)));
            grows = g;
          },
        )
    go false e =
        let looks = l.looks e in
        let t : ToldLooks v w (looks_below c.cpu 15 answers) = told_looks v w (looks_below c.cpu 15 answers) (n.lists ∙ looks.lists) in (
          map look_back (looks_below c.cpu 15 answers),
          record {
            entries = t.entries;
            marks = t.marks;
            looks_are = t.looks_are;
            next = let a = looks.next in let b = n.next in omega arith;
            words = λ q k i j.
                let word : HasWord (words_of m v) q k = (omega arith, j) in
                let there : HasWord u q k = (let z = looks.same.cpus in omega arith, j) in
                let a = looks_never_fall 15 c.cpu answers (words_of m v) u looks q k word in
                let b = n.never_falls q k there in
                omega arith;
            grows = g;
          },
        )

-- words that are the same are unmoved
pub unmoved_same : (u w : WordsView) → w ≡ u → IsUnmoved u w
unmoved_same u w e = subst (λ (x : WordsView). IsUnmoved u x) (sym e) (record {
  same = record { cpus = refl; alone = refl; states = refl; told = λ x p c h. refl };
  drawable = refl;
  lists = refl;
  next = omega arith;
  never_falls = λ q c h. omega arith;
  marked = λ k q c h. refl;
  exact = λ h. (refl, λ q c i. refl);
})

-- the work goes on, with no entry more
pub record StaysAtWork (s : Script) (limit : ℕ) (c : CpuState) (v w : View) : Type 0 where
  pub work : IsAtWork s limit (record { cpu = c; view = w })
  pub goes : GoesOnFrom (record { cpu = c; view = v }) (record { cpu = c; view = w })
  pub list : pairs_of w ≡ pairs_of v ++ []

-- a worker whose pass only looked stays at work, goes on from before, and has no event more
pub stays_at_work : (s : Script) (limit : ℕ) (c : CpuState) (v w : View) (looks : List Look) → IsAtWork s limit (record { cpu = c; view = v }) →
    OnlyLooked s v w looks → StaysAtWork s limit c v w
stays_at_work s limit c v w looks at o = record {
  work = looks_keep_work s limit c v w looks at o;
  goes = record {
    script = refl;
    cpu = refl;
    limit = refl;
    parts = o.grows.parts;
    entries = [];
    entries_are = o.entries ∙ sym (append-nil v.entries);
    looks = looks;
    looks_are = o.looks_are;
  };
  list = ap (λ (es : List Entry). map (λ (e : Entry). (e.number, e.event)) es) o.entries ∙ sym (append-nil (pairs_of v));
}

-- ---- what Quiet and Cut say

-- if no element of a list passes a test, the first fails it and none of the rest passes it
any_split : (p : ℕ → Bool) (x : ℕ) (xs : List ℕ) → list_any p (x ∷ xs) ≡ false → (p x ≡ false) × (list_any p xs ≡ false)
any_split p x xs h = go (p x) (list_any p xs) refl refl h
  where
    go : (a b : Bool) → p x ≡ a → list_any p xs ≡ b → (a || b) ≡ false → (p x ≡ false) × (list_any p xs ≡ false)
    go true b e f k = absurd cc
    go false true e f k = absurd cc
    go false false e f k = (e, f)

-- where no value rises, each is at most what was seen
none_rises : (x : Own) (a : ℕ → ℕ) (k n : ℕ) → list_any (λ v. nat_lt 0 v) (table_from k n (look_value x a)) ≡ false → (i : ℕ) → i < n →
    a (k + i) ≤ value_at x.seen (k + i)
unfolding table_from
none_rises x a k zero h i l = absurd (omega arith)
none_rises x a k (suc n) h i l =
    let s = any_split (λ v. nat_lt 0 v) (look_value x a k) (table_from (suc k) n (look_value x a)) h in
    go i l (first (nat_lt (value_at x.seen k) (a k)) refl s.0) (none_rises x a (suc k) n s.1)
  where
    first : (b : Bool) → nat_lt (value_at x.seen k) (a k) ≡ b → nat_lt 0 (if b then a k else 0) ≡ false → a k ≤ value_at x.seen k
    first true e f = grind (arith, nat_tests)
    first false e f = grind (arith, nat_tests)

    go : (i : ℕ) → i < suc n → a k ≤ value_at x.seen k → ((j : ℕ) → j < n → a (suc k + j) ≤ value_at x.seen (suc k + j)) →
        a (k + i) ≤ value_at x.seen (k + i)
    go zero l here more = let e : k ≡ k + 0 = omega arith in subst (λ (j : ℕ). a j ≤ value_at x.seen j) e here
    go (suc j) l here more = let e : suc k + j ≡ k + suc j = omega arith in subst (λ (j : ℕ). a j ≤ value_at x.seen j) e (more j (omega arith))

-- a processor that is not behind what was looked has seen at least that value of each class
pub not_behind : (x : Own) (answers : List ℕ) → is_behind x (value_at answers) ≡ false → (k : ℕ) → k < 16 → value_at answers k ≤ value_at x.seen k
not_behind x answers h k l =
    let e : 0 + k ≡ k = omega arith in subst (λ (j : ℕ). value_at answers j ≤ value_at x.seen j) e (none_rises x (value_at answers) 0 16 h k l)

-- it is quiet only where it isn't cut, and no look rose
pub quiet_gives : (c : CpuState) (answers : List ℕ) → local_gives c answers ≡ LocalQuiet →
    (is_cut c.limit c.own ≡ false) × (is_behind c.own (value_at answers) ≡ false)
quiet_gives c answers h = cut (is_cut c.limit c.own) refl h
  where
    behind : (b : Bool) → is_behind c.own (value_at answers) ≡ b → local_answer c (if b
        then Some (Alone (LookEvent (record { value = look_values c.own (value_at answers) }))) else chosen_task c.script c.cpu c.own) ≡ LocalQuiet →
        is_behind c.own (value_at answers) ≡ false
    behind true q k = absurd cc
    behind false q k = q

    cut : (b : Bool) → is_cut c.limit c.own ≡ b → (if b then LocalCut else local_answer c (local_task c answers)) ≡ LocalQuiet →
        (is_cut c.limit c.own ≡ false) × (is_behind c.own (value_at answers) ≡ false)
    cut true q k = absurd cc
    cut false q k = (q, behind (is_behind c.own (value_at answers)) refl k)

-- a processor that answers that it is cut has reached its limit
pub cut_gives : (c : CpuState) (answers : List ℕ) → local_gives c answers ≡ LocalCut → is_cut c.limit c.own ≡ true
cut_gives c answers h = cut (is_cut c.limit c.own) refl h
  where
    answer : (o : Option Task) → local_answer c o ≡ LocalCut → ⊥
    answer None k = cc
    answer (Some (Alone x)) k = cc
    answer (Some (Shared j)) k = cc

    cut : (b : Bool) → is_cut c.limit c.own ≡ b → (if b then LocalCut else local_answer c (local_task c answers)) ≡ LocalCut →
        is_cut c.limit c.own ≡ true
    cut true q k = q
    cut false q k = absurd (answer (local_task c answers) k)

-- looks that gave the same are the same
same_looks : (p : CpuNo) (xs ys : List ℕ) (n : ℕ) → ((k : ℕ) → k < n → is_used_class k ≡ true → value_at xs k ≡ value_at ys k) →
    looks_below p n xs ≡ looks_below p n ys
same_looks p xs ys zero h = refl
same_looks p xs ys (suc n) h =
    ap (λ (ls : List LookTold). ls ++ look_if (is_used_class n) p n (value_at xs n)) (same_looks p xs ys n (λ k l u. h k (omega arith) u))
    ∙ ap (λ (ls : List LookTold). looks_below p n ys ++ ls) (go (is_used_class n) refl)
  where
    go : (b : Bool) → is_used_class n ≡ b → look_if b p n (value_at xs n) ≡ look_if b p n (value_at ys n)
    go true e = ap (λ (x : ℕ). look_if true p n x) (h n (omega arith) e)
    go false e = refl

-- where it is quiet it looked last at what it had seen
pub looked_last : (m o : Marks) (c : CpuState) (v w : View) (answers : List ℕ) (u : WordsView) → KnowsSeen c v → AreLooked c answers (words_of m v) u →
    IsUnmoved u (words_of o w) → local_gives c answers ≡ LocalQuiet → LookedLast (record { cpu = c; view = v }) (record { cpu = c; view = w })
looked_last m o c v w answers u k l n h =
    let q = quiet_gives c answers h in
    let looks = l.looks q.0 in
    let t : ToldLooks v w (looks_below c.cpu 15 answers) = told_looks v w (looks_below c.cpu 15 answers) (n.lists ∙ looks.lists) in
    let same : (j : ℕ) → j < 15 → is_used_class j ≡ true → value_at answers j ≡ value_at c.own.seen j = λ j b u.
    let most = not_behind c.own answers q.1 j (omega arith) in
    let least = looks.least j b u in
    let known = (k m).known j (omega arith) in
    omega arith in (
      [],
      map look_back (looks_below c.cpu 15 answers),
      t.looks_are,
      looks_told (looks_below c.cpu 15 answers) ∙ same_looks c.cpu answers c.own.seen 15 same,
    )

-- ---- what an event leaves

-- it was made so
record Moved (o : Marks) (c d : CpuState) (w : View) (u : WordsView) (e : Event) : Type 0 where
  pub uncut : is_cut c.limit c.own ≡ false
  pub found : Found
  pub number : ℕ
  pub state : d ≡ state_then c found number e
  pub moved : IsMoved c.script number e (stand_in c.cpu c.own) found u (words_of o w)

-- a processor that advanced by an event moved: it was not cut, and its state is that after the event
did_move : (s : Script) (o : Marks) (c d : CpuState) (w : View) (answers : List ℕ) (u : WordsView) (e : Event) →
    Advanced c d answers (λ n e st f. FoundBy s w n e st f) (Did e) u (words_of o w) → Moved o c d w u e
did_move s o c d w answers u e (inl a) =
    record { uncut = (alone_did c answers e a.0).0; found = a.1.0; number = a.1.1; state = a.1.2.state; moved = a.1.2.floor }
did_move s o c d w answers u e (inr a) =
    record { uncut = (needed_job c answers a.0 (sym a.1)).0; found = a.2.0; number = a.2.1; state = a.2.2.0.state; moved = a.2.2.0.floor }

-- the work goes on, with one entry more
record GrewAtWork (c d : CpuState) (v w : View) (last : ℕ) (e : Event) : Type 0 where
  pub goes : GoesOnFrom (record { cpu = c; view = v }) (record { cpu = d; view = w })
  pub list : pairs_of w ≡ pairs_of v ++ (last, e) ∷ []

-- a worker that moved by an event, with its seat grown, goes on from it and lists the event last
grew_at_work : (m o : Marks) (c d : CpuState) (v w : View) (answers : List ℕ) (u : WordsView) (last : ℕ) (e : Event) → AreLooked c answers (words_of m v) u →
    Moved o c d w u e → SeatGrows 0 last v w → GrewAtWork c d v w last e
grew_at_work m o c d v w answers u last e l a g =
    let looks = l.looks a.uncut in
    let f = a.found in
    let n = a.number in
    let lanes : List ℕ = map (lane_number c.script) (what_lanes c.script (stand_in c.cpu c.own) e.what f.lanes) in
    let t : Told v w n e lanes (what_asks c.script (stand_in c.cpu c.own) e.what f.lanes) (looks_below c.cpu 15 answers) =
    told_lists v w n e lanes (what_asks c.script (stand_in c.cpu c.own) e.what f.lanes) (looks_below c.cpu 15 answers)
    (a.moved.lists ∙ ap (λ (x : Option Lists). with_marks n (what_asks c.script (stand_in c.cpu c.own) e.what f.lanes) (with_draw n e lanes x))
    looks.lists) in
    let more : g.more ≡ entry n e lanes ∷ [] = append_cancel_left v.entries g.more (entry n e lanes ∷ []) (sym g.entries ∙ t.entries) in
    let number : last ≡ n = g.last ∙ ap (λ (es : List Entry). last_drawn 0 es) more in
    record {
      goes = record {
        script = ap (λ (x : CpuState). x.script) a.state;
        cpu = ap (λ (x : CpuState). x.cpu) a.state;
        limit = ap (λ (x : CpuState). x.limit) a.state;
        parts = g.view.parts;
        entries = entry n e lanes ∷ [];
        entries_are = t.entries;
        looks = map look_back (looks_below c.cpu 15 answers);
        looks_are = t.looks_are;
      };
      list = ap (λ (es : List Entry). map (λ (y : Entry). (y.number, y.event)) es) t.entries
          ∙ (map-append (λ (y : Entry). (y.number, y.event)) v.entries (entry n e lanes ∷ [])
          ∙ ap (λ (x : ℕ). pairs_of v ++ (x, e) ∷ []) (sym number));
    }

-- ---- an advance

-- what is told of an advance that came to this
unfoldable pub IsTold : Script → Marks → Marks → CpuState → CpuState → View → View → Result Turned AllocError → Type 0
IsTold s m o c d v w turned =
    IfOk turned (λ r. (answers : List ℕ) × (u : WordsView)
    × (AreLooked c answers (words_of m v) u × Advanced c d answers (λ n e st f. FoundBy s w n e st f) r u (words_of o w)))
    × OnErr turned ((d ≡ c) × ((answers : List ℕ) × (u : WordsView) × (AreLooked c answers (words_of m v) u × IsUnmoved u (words_of o w))))

-- nothing was made
stayed : (table : TableId) (s : Script) (limit : ℕ) (m o : Marks) (c d : CpuState) (p q : Pass) (answers : List ℕ) (u : WordsView)
    (made : List (ℕ × Event)) (outcome : Result Outcome AllocError) → cpus_of m ≡ s.cpus → IsSeated table s limit c p → pass_table q ≡ table →
    ∥ AreListed (pass_view q) ∥₁ → KnowsSeen d (pass_view q) → Grows (pass_view p) (pass_view q) → d ≡ c →
    AreLooked c answers (words_of m (pass_view p)) u → IsUnmoved u (words_of o (pass_view q)) → made ≡ [] →
    IsDoneWhere outcome (at_work c p) (at_work c q) → IsAdvanced table s limit c d p q made outcome
stayed table s limit m o c d p q answers u made outcome cpus seated at listed knows g same l n none done =
    subst (λ (x : CpuState). KnowsSeen x (pass_view q) → IsAdvanced table s limit c x p q made outcome) (sym same) (λ knows. record {
      seated = record { at = at; listed = listed; work = stays.work; knows = knows };
      goes = stays.goes;
      list = stays.list ∙ ap (λ (xs : List (ℕ × Event)). pairs_of (pass_view p) ++ xs) (sym none);
      done = done;
    }) knows
  where
    only : (looks : List Look) × OnlyLooked s (pass_view p) (pass_view q) looks
    only = only_looked s m o c (pass_view p) (pass_view q) answers u cpus l n g

    stays : StaysAtWork s limit c (pass_view p) (pass_view q)
    stays = stays_at_work s limit c (pass_view p) (pass_view q) only.0 seated.work only.1

-- a turn that words tell, over a pass that grew, is an advance of the seated processor to what the turn came to
pub advanced : (table : TableId) (s : Script) (limit : ℕ) (m o : Marks) (c d : CpuState) (p q : Pass) (last : ℕ) (turned : Result Turned AllocError) →
    cpus_of m ≡ s.cpus → IsSeated table s limit c p → pass_table q ≡ table → ∥ AreListed (pass_view q) ∥₁ →
    Knows d (words_of o (pass_view q)) → SeatGrows 0 last (pass_view p) (pass_view q) → IsTold s m o c d (pass_view p) (pass_view q) turned →
    IsAdvanced table s limit c d p q (made_of last turned) (outcome_of turned)
unfolding IsTold
advanced table s limit m o c d p q last (Ok (Did e)) cpus seated at listed k g t =
    let answers = t.0.0 in
    let u = t.0.1 in
    let l = t.0.2.0 in
    let a = t.0.2.1 in
    let grew = grew_at_work m o c d (pass_view p) (pass_view q) answers u last e l (did_move s o c d (pass_view q) answers u e a) g in
    record {
      seated = record {
        at = at;
        listed = listed;
        work = advances_keep s limit m o c d (pass_view p) (pass_view q) answers u e cpus seated.work l a g.view;
        knows = knows_seen o d (pass_view q) k;
      };
      goes = grew.goes;
      list = grew.list;
      done = tt;
    }
advanced table s limit m o c d p q last (Ok Quiet) cpus seated at listed k g t =
    let answers = t.0.0 in
    let u = t.0.1 in
    let l = t.0.2.0 in
    let a = t.0.2.1 in
    let n = unmoved_same u (words_of o (pass_view q)) a.3 in
    stayed table s limit m o c d p q answers u [] (Ok Stopped) cpus seated at listed (knows_seen o d (pass_view q) k) g.view a.2 l n refl
    (inr (a.1, looked_last m o c (pass_view p) (pass_view q) answers u seated.knows l n a.0))
advanced table s limit m o c d p q last (Ok Cut) cpus seated at listed k g t =
    let answers = t.0.0 in
    let u = t.0.1 in
    let l = t.0.2.0 in
    let a = t.0.2.1 in
    stayed table s limit m o c d p q answers u [] (Ok Stopped) cpus seated at listed (knows_seen o d (pass_view q) k) g.view a.1 l
    (unmoved_same u (words_of o (pass_view q)) a.2) refl (inl (cut_gives c answers a.0))
advanced table s limit m o c d p q last (Err x) cpus seated at listed k g t =
    stayed table s limit m o c d p q t.1.1.0 t.1.1.1 [] (Err x) cpus seated at listed (knows_seen o d (pass_view q) k) g.view t.1.0
    t.1.1.2.0 t.1.1.2.1 refl tt
