-- What the words know of a processor after looks and after its events.
use Rattle.std.proofs.Common.{ap, arith, max, subst, sym, ◌∙◌}
use Rattle.std.proofs.lemmas.Bool.Decides.{nat_tests}
use Rattle.std.specs.Prelude.{Bool, List, None, Option, Some, false, if◌then◌else◌, nat_lt, refl, true, ℕ, ◌&&◌, ◌+◌, ◌<◌, ◌==◌, ◌||◌, ◌≡◌, ◌≤◌}
use Rattle.nt_event.specs.declared.events.Event.{Event}
use Rattle.nt_event.specs.declared.events.Rises.{Rises}
use Rattle.nt_event.specs.declared.events.What.{What}
use Rattle.nt_event.specs.declared.events.What.TheVariants.{Look}
use Rattle.nt_event.specs.declared.numbers.CpuNo.{CpuNo}
use Rattle.nt_event.specs.Own.{stand_in}
use Rattle.nt_event.specs.Robin.{look_value, look_values}
use Rattle.nt_event.specs.Lists.{value_at}
use Rattle.nt_event.proofs.Tables.{get_or-table}
use Rattle.nt_floor.specs.Views.{HasWord, IsUnmoved, View}
use Rattle.nt_frame.specs.Nesting.{AreNamedBelow}
use Rattle.nt_frame.proofs.Below.{below_more}
use Rattle.nt_cpu.specs.Alone.{IsAlone, IsMarkedFor, alone_asks, alone_event, noticed}
use Rattle.nt_cpu.specs.Leaves.{own_with}
use Rattle.nt_cpu.specs.Sound.{IsSound}
use Rattle.nt_cpu.specs.States.{CpuState}
use Rattle.nt_event.specs.Classes.{is_used_class}
use Rattle.nt_cpu.specs.Steps.{AllLooked, Knows, was_looked}
use Rattle.nt_cpu.specs.Turns.{Serves}
use Rattle.nt_event.specs.declared.class.Asked.{Asked}
use Rattle.nt_cpu.proofs.AloneMoves.{asked_for, marked_stays, marked_value}
use Rattle.nt_cpu.proofs.NamesLeft.{named_after}

-- words that serve a processor know what it has seen
pub knows_of : (c : CpuState) (v : View) → Serves c v → Knows c v
knows_of c v h = record { known = h.known; below = h.below; named = h.named }

-- the processor has words
pub has_words : (c : CpuState) (v : View) → IsSound c → v.cpus ≡ c.script.cpus → c.cpu.0 < v.cpus
has_words c v s e = let p = s.cpu in let q : c.cpu.0 < c.script.cpus = grind (arith, nat_tests) in omega arith

-- the words still know a processor on a floor that did not move
pub knows_unmoved : (c : CpuState) (v w : View) → c.cpu.0 < v.cpus → Knows c v → IsUnmoved v w → Knows c w
knows_unmoved c v w b h m = record {
  known = λ k q. let x = h.known k q in let y = m.never_falls c.cpu k (b, q) in omega arith;
  below = λ k q. let x = h.below k q in let y = m.next in omega arith;
  named = below_more v.next w.next c.own.frames m.next h.named;
}

-- ---- looks

-- what is known of a word after looks is what was looked, or what was known
known_looked : (c : CpuState) (xs : List ℕ) (v u : View) → c.cpu.0 < v.cpus → AllLooked c.cpu xs v u → (k : ℕ) → k < 16 → v.value c.cpu k ≤ u.value c.cpu k
known_looked c xs v u b h k q = go (was_looked c.cpu 15 c.cpu k) refl
  where
    go : (t : Bool) → was_looked c.cpu 15 c.cpu k ≡ t → v.value c.cpu k ≤ u.value c.cpu k
    go true e =
        let x : u.value c.cpu k ≡ value_at xs k = h.value c.cpu k (b, q) ∙ rw e refl in
        let d = both_of (c.cpu.0 == c.cpu.0) (nat_lt k 15) (is_used_class k) e in
        let l : k < 15 = (let f = d.0 in grind (arith, nat_tests)) in
        let y = h.least k l d.1 in
        omega arith
      where
        both_of : (a m n : Bool) → (a && (m && n)) ≡ true → (m ≡ true) × (n ≡ true)
        both_of true true true z = (refl, refl)
        both_of true true false z = absurd cc
        both_of true false n z = absurd cc
        both_of false m n z = absurd cc
    go false e =
        let x : u.value c.cpu k ≡ v.value c.cpu k = h.value c.cpu k (b, q) ∙ rw e refl in omega arith

-- the words still know a processor after it looked at its classes
pub knows_looked : (c : CpuState) (xs : List ℕ) (v u : View) → c.cpu.0 < v.cpus → Knows c v → AllLooked c.cpu xs v u → Knows c u
knows_looked c xs v u b h l = record {
  known = λ k q. let x = h.known k q in let y = known_looked c xs v u b l k q in omega arith;
  below = λ k q. let x = h.below k q in let y = l.next in omega arith;
  named = below_more v.next u.next c.own.frames l.next h.named;
}

-- the words still serve a processor after it looked at its classes
pub serves_looked : (c : CpuState) (xs : List ℕ) (v u : View) → c.cpu.0 < v.cpus → Serves c v → AllLooked c.cpu xs v u → Serves c u
serves_looked c xs v u b h l =
    let n = knows_looked c xs v u b (knows_of c v h) l in
    record {
      cpus = l.same.cpus ∙ h.cpus;
      drawable = λ e. let x = h.drawable e in let y = l.drawable in omega arith;
      known = n.known;
      below = n.below;
      named = n.named;
      stands = rw l.same.states h.stands;
      values = λ t q k e. values (sym l.same.alone ∙ t) q k (let x = l.same.cpus in omega arith, e.1);
    }
  where
    values : v.alone ≡ true → (q : CpuNo) (k : ℕ) → HasWord v q k → u.value q k ≤ u.next
    values t q k e = go (was_looked c.cpu 15 q k) refl
      where
        go : (d : Bool) → was_looked c.cpu 15 q k ≡ d → u.value q k ≤ u.next
        go true f =
            let x : u.value q k ≡ value_at xs k = l.value q k e ∙ rw f refl in
            let m : k < 15 = within (q.0 == c.cpu.0) (is_used_class k) f in
            let y = l.most k m in
            omega arith
          where
            within : (a n : Bool) → (a && (nat_lt k 15 && n)) ≡ true → k < 15
            within true true z = let y : nat_lt k 15 ≡ true = left (nat_lt k 15) z in grind (arith, nat_tests)
              where
                left : (m : Bool) → (m && true) ≡ true → m ≡ true
                left true z = refl
                left false z = absurd cc
            within true false z = absurd (none (nat_lt k 15) z)
              where
                none : (m : Bool) → (m && false) ≡ true → ⊥
                none true z = cc
                none false z = cc
            within false n z = absurd cc
        go false f =
            let x : u.value q k ≡ v.value q k = l.value q k e ∙ rw f refl in
            let y = h.values t q k e in
            let z = l.next in
            omega arith

-- the answers are known
answers_known : (c : CpuState) (xs : List ℕ) (v u : View) → c.cpu.0 < v.cpus → AllLooked c.cpu xs v u → (k : ℕ) → k < 16 → (value_at xs k ≤ u.value c.cpu k) ×
    (value_at xs k ≤ u.next)
answers_known c xs v u b l k q = go (nat_lt k 15) refl (is_used_class k) refl
  where
    go : (m : Bool) → nat_lt k 15 ≡ m → (n : Bool) → is_used_class k ≡ n → (value_at xs k ≤ u.value c.cpu k) × (value_at xs k ≤ u.next)
    go true e true f =
        let i : (c.cpu.0 == c.cpu.0) ≡ true = grind (arith, nat_tests) in
        let x : u.value c.cpu k ≡ value_at xs k = l.value c.cpu k (b, q) ∙ rw (i, e, f) refl in
        let w : k < 15 = grind (arith, nat_tests) in
        (omega arith, l.most k w)
    go true e false f = let z = l.others k f in (omega arith, omega arith)
    go false e n f =
        let w : 15 ≤ k = grind (arith, nat_tests) in
        let z = l.later k w in
        (omega arith, omega arith)

-- the values of a look after looks are known
pub rises_known : (c : CpuState) (xs : List ℕ) (v u : View) → c.cpu.0 < v.cpus → AllLooked c.cpu xs v u → (k : ℕ) → k < 16 →
    (value_at (look_values c.own (value_at xs)) k ≤ u.value c.cpu k) × (value_at (look_values c.own (value_at xs)) k ≤ u.next)
rises_known c xs v u b l k q =
    let a = answers_known c xs v u b l k q in
    let x = get_or-table 16 k (look_value c.own (value_at xs)) 0 q in
    let y : look_value c.own (value_at xs) k ≤ value_at xs k = most (nat_lt (value_at c.own.seen k) (value_at xs k)) (value_at xs k) in
    let m = a.0 in
    let n = a.1 in
    (rw x (omega arith), rw x (omega arith))
  where
    most : (t : Bool) (n : ℕ) → (if t then n else 0) ≤ n
    most true n = omega arith
    most false n = omega arith

-- ---- events

-- an event with these values seen after it, which the words know
pub knows_left : (c : CpuState) (n : ℕ) (due : Option ℕ) (e : Event) (seen : ℕ → ℕ) (z : View) → IsSound c → AreNamedBelow n c.own.frames → n + 1 ≤ z.next →
    ((k : ℕ) → k < 16 → (seen k ≤ z.value c.cpu k) × (seen k ≤ z.next)) → Knows (record c { own = own_with c.script n due e seen c.own }) z
knows_left c n due e seen z s a m h = record {
  known = λ k q. rw (get_or-table 16 k seen 0 q) (h k q).0;
  below = λ k q. rw (get_or-table 16 k seen 0 q) (h k q).1;
  named = below_more (n + 1) z.next (own_with c.script n due e seen c.own).frames m (named_after c.script n due e c.own.frames s.nested a);
}

-- the greater of two numbers is below a bound that both are below
max_below : (a b n : ℕ) → a ≤ n → b ≤ n → max a b ≤ n
max_below a b n h k = omega arith

-- after an event under lanes
pub knows_acted : (c : CpuState) (n : ℕ) (due : Option ℕ) (e : Event) (told : List ℕ) (v w : View) → IsSound c → c.cpu.0 < v.cpus → Knows c v → v.next ≤ n →
    n + 1 ≤ w.next → ((k : ℕ) → k < 16 → v.value c.cpu k ≤ w.value c.cpu k) →
    ((k : ℕ) → k < 16 → (value_at told k ≤ w.value c.cpu k) × (value_at told k ≤ w.next)) →
    Knows (record c { own = own_with c.script n due e (λ k. max (value_at c.own.seen k) (value_at told k)) c.own }) w
knows_acted c n due e told v w s b h l m f t =
    knows_left c n due e (λ k. max (value_at c.own.seen k) (value_at told k)) w s (below_more v.next n c.own.frames l h.named) m
    (λ k q. let x = h.known k q in let y = f k q in let z = h.below k q in let i = t k q in let i0 = i.0 in let i1 = i.1 in (
      max_below (value_at c.own.seen k) (value_at told k) (w.value c.cpu k) (omega arith) i0,
      max_below (value_at c.own.seen k) (value_at told k) w.next (omega arith) i1,
    ))

-- an ask of its own is known once it is marked
ask_known : (t : Bool) (n old new : ℕ) → new ≡ (if t || false then max old (n + 1) else old) → ((if t then n + 1 else 0) ≤ new) × (old ≤ new)
ask_known true n old new e = (omega arith, omega arith)
ask_known false n old new e = (omega arith, omega arith)

-- a request's number is at most the next one
ask_fits : (t : Bool) (n next : ℕ) → next ≡ n + 1 → (if t then n + 1 else 0) ≤ next
ask_fits true n next e = omega arith
ask_fits false n next e = omega arith

-- what the processor noticed by an event of its own is known
pub record IsNoticed (p : CpuNo) (w : What) (a : Option Asked) (n k : ℕ) (u y : View) : Type 0 where
  pub value : noticed p w a n k ≤ y.value p k
  pub next : noticed p w a n k ≤ y.next
  pub grown : u.value p k ≤ y.value p k

-- what a processor noticed of a class by its own event is known to the words
own_noticed : (p : CpuNo) (w : What) (a : Option Asked) (n k : ℕ) (u y : View) → HasWord u p k → IsMarkedFor a n u y → u.next ≡ n + 1 →
    ((r : Rises) → w ≡ Look r → (value_at r.value k ≤ u.value p k) × (value_at r.value k ≤ u.next)) → IsNoticed p w a n k u y
own_noticed p w a n k u y b m e r = go w a refl refl
  where
    value : y.value p k ≡ (if asked_for a p k then max (u.value p k) (n + 1) else u.value p k)
    value = marked_value a n u y m p k b

    next : y.next ≡ n + 1
    next = (marked_stays a n u y m).next ∙ e

    grown : (t : Bool) → asked_for a p k ≡ t → u.value p k ≤ y.value p k
    grown true f = let x : y.value p k ≡ max (u.value p k) (n + 1) = value ∙ rw f refl in omega arith
    grown false f = let x : y.value p k ≡ u.value p k = value ∙ rw f refl in omega arith

    go : (v : What) (o : Option Asked) → w ≡ v → a ≡ o → IsNoticed p v o n k u y
    go (Look q) o f i =
        let x = (r q f).0 in
        let z = (r q f).1 in
        let g = grown (asked_for a p k) refl in
        let t = next in
        record { value = omega arith; next = omega arith; grown = g }
    go v None f i = record { value = omega arith; next = omega arith; grown = grown (asked_for a p k) refl }
    go v (Some x) f i =
        let z : y.value p k ≡ (if ((x.cpu.0 == p.0) && (x.class == k)) || false then max (u.value p k) (n + 1) else u.value p k) = value
        ∙ ap (λ (o : Option Asked). if asked_for o p k then max (u.value p k) (n + 1) else u.value p k) i in
        let g = ask_known ((x.cpu.0 == p.0) && (x.class == k)) n (u.value p k) (y.value p k) z in
        record { value = g.0; next = ask_fits ((x.cpu.0 == p.0) && (x.class == k)) n y.next next; grown = g.1 }

-- after an event that touches no lane
pub knows_alone : (c d : CpuState) (w : What) (n : ℕ) (u y z : View) → IsSound c → c.cpu.0 < u.cpus → Knows c u → IsAlone c d w n u y z →
    ((r : Rises) → w ≡ Look r → (k : ℕ) → k < 16 → (value_at r.value k ≤ u.value c.cpu k) × (value_at r.value k ≤ u.next)) → Knows d z
knows_alone c d w n u y z s b h a r =
    let asked : Option Asked = alone_asks (stand_in c.cpu c.own) w in
    let e : Event = alone_event c.cpu w c.own.frames in
    let g = a.drawn in
    let next : z.next ≡ n + 1 = (marked_stays asked n y z a.marked).next ∙ g.next in
    let x : Knows (record c {
      own = own_with c.script n None e
          (λ k. max (value_at c.own.seen k) (noticed c.cpu w asked n k)) c.own;
    }) z = knows_left c n None e
    (λ k. max (value_at c.own.seen k) (noticed c.cpu w asked n k)) z s (below_more u.next n c.own.frames g.least h.named) (omega arith)
    (λ k q. let known = h.known k q in let below = h.below k q in let least = g.least in let v = g.value c.cpu k (b, q) in
    let word : HasWord y c.cpu k = (let m = g.same.cpus in omega arith, q) in let ys : (r : Rises) → w ≡ Look r → (value_at r.value k ≤ y.value c.cpu k) ×
    (value_at r.value k ≤ y.next) = (λ q' f. let i = r q' f k q in let i0 = i.0 in let i1 = i.1 in let j = g.next in (omega arith, omega arith)) in
    let i = own_noticed c.cpu w asked n k y z word a.marked g.next ys in let i0 = i.value in let i1 = i.next in let i2 = i.grown in (
      max_below (value_at c.own.seen k) (noticed c.cpu w asked n k) (z.value c.cpu k) (omega arith) i0,
      max_below (value_at c.own.seen k) (noticed c.cpu w asked n k) z.next (omega arith) i1,
    )) in
    subst (λ (m : CpuState). Knows m z) (sym a.state) x
