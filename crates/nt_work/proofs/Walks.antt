-- Walks over the events of a history, the oldest first.
use Rattle.std.proofs.Common.{◌≡◌, ◌∙◌, ℕ, zero, suc, ◌+◌, ◌-◌, ◌<◌, ◌≤◌, Bool, true, false, List, [], ◌∷◌, ◌++◌, length, map, get_or, take, reverse, refl, sym}
use Rattle.std.proofs.Common.{ap, arith}
use Rattle.std.specs.Prelude.{filter, ◌&&◌, not, if◌then◌else◌}
use Rattle.std.proofs.Math.Seq.{take-length}
use Rattle.std.proofs.lemmas.List.{append-nil, get_or-map, length-append, length-reverse, length-take-le, reverse-append, take_more}
use Rattle.std.proofs.lemmas.List.Elements.{filter-append}
use Rattle.nt_event.specs.declared.events.Event.{Event}
use Rattle.nt_event.specs.declared.events.Rises.{Rises}
use Rattle.nt_event.specs.Fate.{Inserted, Thing, fate_of, inserted_by, inserts, still_waits, waiting_inserts}
use Rattle.nt_history.specs.declared.brief.Brief.{Brief}
use Rattle.nt_history.specs.Briefs.{event_in, events_in}
use Rattle.nt_history.proofs.Lists.{as_many}
use Rattle.nt_work.specs.declared.change.Change.{Change}
use Rattle.nt_work.specs.declared.change.Change.TheVariants.{Inserts, Nothing}
use Rattle.nt_work.specs.declared.change.Insert.{Insert}
use Rattle.nt_work.specs.Audits.{item_by, items_of, waitings, waits_in, word_of}
use Rattle.nt_work.specs.Changes.{added_by, after_change, change_at, change_in, inserted_of, stays_by, uses}
use Rattle.nt_work.proofs.Pending.{added, inserts_are, one_later, pending_more, waits_at_first}

-- ---- the events up to one more

-- the events up to one more are the event at that place and those before it, the newest first
pub past_more : (events : List Event) (k : ℕ) (e : Event) → k < length events → e ≡ get_or events k e →
    reverse (take (k + 1) events) ≡ e ∷ reverse (take k events)
past_more events k e lt is =
    ap reverse (take_more events k e lt) ∙ reverse-append (take k events) (get_or events k e ∷ []) ∙ ap (λ (x : Event). x ∷ reverse (take k events)) (sym is)

-- as many events lie before a place within the history as its number says
pub past_length : (events : List Event) (k : ℕ) → k ≤ length events → length (reverse (take k events)) ≡ k
past_length events k le = length-reverse (take k events) ∙ length-take-le k events le

-- a list has an element at each place below its length
pub element_at : {X : Type 0} (xs : List X) (k : ℕ) → k < length xs → (x : X) × (x ≡ get_or xs k x)
element_at [] k lt = absurd (omega (arith, lt))
element_at (x ∷ xs) zero lt = (x, refl)
element_at (x ∷ xs) (suc k) lt = element_at xs k (omega (arith, lt))

-- taking all events and reversing them is reversing the list
pub all_past : (events : List Event) (k : ℕ) → k ≡ length events → reverse (take k events) ≡ reverse events
all_past events k is = ap reverse (ap (λ (m : ℕ). take m events) is ∙ take-length events)

-- the event of a number is that of the brief of the number
pub event_at : (bs : List Brief) (rises : List Rises) (k : ℕ) (b : Brief) → k < length bs →
    event_in rises (get_or bs k b) ≡ get_or (events_in bs rises) k (event_in rises (get_or bs k b))
event_at bs rises k b lt = sym (get_or-map (event_in rises) bs k b (event_in rises (get_or bs k b)) lt)

-- a place below the number of briefs is below the number of events that they stand for
pub below : (bs : List Brief) (rises : List Rises) (k : ℕ) → k < length bs → k < length (events_in bs rises)
below bs rises k lt = let many = as_many bs rises in omega (arith, many, lt)

-- the change of the event of a number is the change at that number
changed : (events : List Event) (k : ℕ) (e : Event) → k < length events → e ≡ get_or events k e → change_in e.what ≡ change_at events k
changed events k e lt is = ap (λ (x : Event). change_in x.what) is ∙ sym (get_or-map (λ (x : Event). change_in x.what) events k e Nothing lt)

-- the change of the event of a brief is the change at that place of the events
pub change_of_brief : (bs : List Brief) (rises : List Rises) (k : ℕ) (b : Brief) → k < length bs →
    change_in (event_in rises (get_or bs k b)).what ≡ change_at (events_in bs rises) k
change_of_brief bs rises k b lt = changed (events_in bs rises) k (event_in rises (get_or bs k b)) (below bs rises k lt) (event_at bs rises k b lt)

-- ---- items

-- the items of the events up to one more are those before and the item of the event of the next brief
pub items_more : (bs : List Brief) (rises : List Rises) (k : ℕ) (b : Brief) → k < length bs →
    items_of (reverse (take k (events_in bs rises))) ++ item_by k (get_or bs k b).cpu (word_of (event_in rises (get_or bs k b)).what)
    ≡ items_of (reverse (take (k + 1) (events_in bs rises)))
items_more bs rises k b lt =
    let events : List Event = events_in bs rises in
    let e : Event = event_in rises (get_or bs k b) in
    let in' = below bs rises k lt in
    ap (λ (m : ℕ). items_of (reverse (take k events)) ++ item_by m e.cpu (word_of e.what)) (sym (past_length events k (omega (arith, in'))))
    ∙ ap items_of (sym (past_more events k e in' (event_at bs rises k b lt)))

-- ---- what waits

-- the pending inserts behind one event more
pub waiting_more : (events : List Event) (k : ℕ) → k < length events →
    waiting_inserts (reverse (take (k + 1) events)) ≡ after_change (change_at events k) k (waiting_inserts (reverse (take k events)))
waiting_more events k lt =
    let e = element_at events k lt in
    let past : List Event = reverse (take k events) in
    ap waiting_inserts (past_more events k e.0 lt e.1) ∙ pending_more e.0 past
    ∙ ap (λ (c : Change). after_change c (length past) (waiting_inserts past)) (changed events k e.0 lt e.1)
    ∙ ap (λ (m : ℕ). after_change (change_at events k) m (waiting_inserts past)) (past_length events k (omega (arith, lt)))

-- an insert behind one event more
pub fate_more : (events : List Event) (thing : Thing) (n k : ℕ) → n < k → k < length events → still_waits (fate_of thing n (reverse (take (k + 1) events)))
    ≡ (still_waits (fate_of thing n (reverse (take k events))) && not (uses (change_at events k) thing n))
fate_more events thing n k later lt =
    let e = element_at events k lt in
    let past : List Event = reverse (take k events) in
    let many : length past ≡ k = past_length events k (omega (arith, lt)) in
    ap (λ (es : List Event). still_waits (fate_of thing n es)) (past_more events k e.0 lt e.1) ∙ one_later thing n e.0 past (omega (arith, many, later))
    ∙ ap (λ (c : Change). still_waits (fate_of thing n past) && not (uses c thing n)) (changed events k e.0 lt e.1)

-- at first it waits
pub fate_first : (events : List Event) (thing : Thing) (n : ℕ) → n < length events → still_waits (fate_of thing n (reverse (take (n + 1) events))) ≡ true
fate_first events thing n lt = let many = past_length events (n + 1) (omega (arith, lt)) in
    waits_at_first thing n (reverse (take (n + 1) events)) (omega (arith, many))

-- it is used up by this event, and stays so
stays : (events : List Event) (thing : Thing) (n k d : ℕ) → n < k → k + d ≤ length events → still_waits (fate_of thing n (reverse (take k events))) ≡ false →
    still_waits (fate_of thing n (reverse (take (k + d) events))) ≡ false
stays events thing n k zero later le h = ap (λ (m : ℕ). still_waits (fate_of thing n (reverse (take m events)))) (omega arith) ∙ h
stays events thing n k (suc d) later le h =
    ap (λ (m : ℕ). still_waits (fate_of thing n (reverse (take m events)))) (omega arith)
    ∙ fate_more events thing n (k + d) (omega (arith, later)) (omega (arith, le))
    ∙ ap (λ (b : Bool). b && not (uses (change_at events (k + d)) thing n)) (stays events thing n k d later (omega (arith, le)) h)

-- an insert that an event after it uses up does not wait at any later end
pub used_up : (events : List Event) (thing : Thing) (n k end : ℕ) → n < k → k < end → end ≤ length events →
    uses (change_at events k) thing n ≡ true → still_waits (fate_of thing n (reverse (take end events))) ≡ false
used_up events thing n k end later lt le used =
    let d : ℕ = end - (k + 1) in
    let whole : (k + 1) + d ≡ end = omega (arith, lt) in
    let here =
    fate_more events thing n k later (omega (arith, lt, le)) ∙ ap (λ (b : Bool). still_waits (fate_of thing n (reverse (take k events))) && not b) used
    ∙ no (still_waits (fate_of thing n (reverse (take k events)))) in
    ap (λ (m : ℕ). still_waits (fate_of thing n (reverse (take m events)))) (sym whole)
    ∙ stays events thing n (k + 1) d (omega (arith, later)) (omega (arith, whole, le)) here
  where
    no : (b : Bool) → (b && false) ≡ false
    no true = refl
    no false = refl

-- an insert that waits at a place still waits after the event there if that event does not use it up
pub waits_more : (events : List Event) (thing : Thing) (n k : ℕ) → n < k → k < length events → still_waits (fate_of thing n (reverse (take k events))) ≡ true →
    uses (change_at events k) thing n ≡ false → still_waits (fate_of thing n (reverse (take (k + 1) events))) ≡ true
waits_more events thing n k later lt so not_used =
    fate_more events thing n k later lt ∙ ap (λ (b : Bool). b && not (uses (change_at events k) thing n)) so ∙ ap (λ (b : Bool). not b) not_used

-- the inserts of one event more
inserts_more : (events : List Event) (k : ℕ) → k < length events →
    inserts (reverse (take (k + 1) events)) ≡ inserts (reverse (take k events)) ++ added_by (change_at events k) k
inserts_more events k lt =
    let e = element_at events k lt in
    let past : List Event = reverse (take k events) in
    ap inserts (past_more events k e.0 lt e.1)
    ∙ ap (λ (xs : List Inserted). inserts past ++ xs)
    (ap (inserted_by (length past)) (inserts_are e.0.what) ∙ added (change_in e.0.what) (length past)
    ∙ ap (λ (c : Change). added_by c (length past)) (changed events k e.0 lt e.1)
    ∙ ap (added_by (change_at events k)) (past_length events k (omega (arith, lt))))

-- how many of the first inserts still wait at the end of all these
abbrev pub still : List Event → List Event → ℕ → ℕ
still all events k = length (filter (waits_in all) (inserts (reverse (take k events))))

-- the inserts up to one event more that wait at the end are as many as before and its own one if that waits
pub still_more : (all events : List Event) (k : ℕ) → k < length events →
    still all events k + length (filter (waits_in all) (added_by (change_at events k) k)) ≡ still all events (k + 1)
still_more all events k lt =
    sym (length-append (filter (waits_in all) (inserts (reverse (take k events)))) (filter (waits_in all) (added_by (change_at events k) k)))
    ∙ ap (λ (xs : List Inserted). length xs) (sym (filter-append (waits_in all) (inserts (reverse (take k events))) (added_by (change_at events k) k)))
    ∙ ap (λ (xs : List Inserted). length (filter (waits_in all) xs)) (sym (inserts_more events k lt))

-- ---- the counts by one walk

-- the counts of pending inserts up to one event more are the counts so far and that of the inserts pending there
pub waitings_more : (events : List Event) (k : ℕ) → k < length events →
    waitings (reverse (take k events)) ++ length (waiting_inserts (reverse (take k events))) ∷ [] ≡ waitings (reverse (take (k + 1) events))
waitings_more events k lt = let e = element_at events k lt in ap waitings (sym (past_more events k e.0 lt e.1))

-- ---- the list of pending inserts

-- filtering by a test that is always true keeps all inserts
kept_all : (xs : List Inserted) → filter (λ (x : Inserted). true) xs ≡ xs
kept_all [] = refl
kept_all (x ∷ xs) = ap (λ (ys : List Inserted). x ∷ ys) (kept_all xs)

-- the inserts of a list with one more at the end, read as inserted, are those of the list and that one
mapped : (xs : List Insert) (x : Insert) → map inserted_of (xs ++ x ∷ []) ≡ map inserted_of xs ++ inserted_of x ∷ []
mapped [] x = refl
mapped (y ∷ xs) x = ap (λ (ys : List Inserted). inserted_of y ∷ ys) (mapped xs x)

-- an insert put behind the pending ones is what inserting its object makes of them
pub inserted_one : (xs : List Insert) (x : Insert) → map inserted_of (xs ++ x ∷ []) ≡ after_change (Inserts x.object) x.number (map inserted_of xs)
inserted_one xs x = mapped xs x ∙ ap (λ (ys : List Inserted). ys ++ inserted_of x ∷ []) (sym (kept_all (map inserted_of xs)))

-- a change that does nothing leaves the pending inserts as they were
pub nothing_done : (n : ℕ) (xs : List Inserted) → xs ≡ after_change Nothing n xs
nothing_done n xs = sym (append-nil (filter (λ (x : Inserted). true) xs) ∙ kept_all xs)

-- reading as inserted a list with an optional first insert keeps it optional
pick : (b : Bool) (x : Insert) (xs : List Insert) →
    map inserted_of (if b then x ∷ xs else xs) ≡ (if b then inserted_of x ∷ map inserted_of xs else map inserted_of xs)
pick true x xs = refl
pick false x xs = refl

-- reading as inserted those that a change leaves is leaving out what the change uses up of those read
filtered : (c : Change) (xs : List Insert) →
    map inserted_of (filter (stays_by c) xs) ≡ filter (λ (x : Inserted). not (uses c x.thing x.number)) (map inserted_of xs)
filtered c [] = refl
filtered c (x ∷ xs) =
    pick (stays_by c x) x (filter (stays_by c) xs) ∙ ap (λ (ys : List Inserted). if stays_by c x then inserted_of x ∷ ys else ys) (filtered c xs)

-- a change that adds nothing leaves of the pending inserts just those that it does not use up
pub uses_only : (c : Change) (n : ℕ) (xs ys : List Insert) → added_by c n ≡ [] → ys ≡ filter (stays_by c) xs →
    map inserted_of ys ≡ after_change c n (map inserted_of xs)
uses_only c n xs ys none is =
    ap (map inserted_of) is ∙ filtered c xs ∙ sym (append-nil (filter (λ (x : Inserted). not (uses c x.thing x.number)) (map inserted_of xs)))
    ∙ ap (λ (zs : List Inserted). filter (λ (x : Inserted). not (uses c x.thing x.number)) (map inserted_of xs) ++ zs) (sym none)
