-- The reports of all items are the audit.
use Rattle.std.proofs.Common.{◌≡◌, ◌∙◌, ℕ, zero, suc, ◌+◌, ◌<◌, ◌≤◌, List, [], ◌∷◌, ◌++◌, length, map, get_or, take, reverse, refl, sym, ap, subst, arith}
use Rattle.std.proofs.Common.{Option, Some, None}
use Rattle.std.proofs.lemmas.List.{length-append, length-reverse}
use mathlib.Core.Logic.{dite}
use native.Mathlib.Decide.{ℕ_discrete}
use Rattle.nt_event.specs.declared.events.Event.{Event}
use Rattle.nt_event.specs.declared.numbers.CpuNo.{CpuNo}
use Rattle.nt_event.specs.Fate.{waiting_inserts}
use Rattle.nt_work.specs.declared.item.Audited.{Audited}
use Rattle.nt_work.specs.declared.item.Item.{Item}
use Rattle.nt_work.specs.Audits.{audit_of, audited, item_by, items_of, reported, waiting, waitings, word_of}
use Rattle.nt_work.proofs.Walks.{all_past, past_length, waitings_more}

abbrev AllBelow : ℕ → List Item → Type 0
AllBelow n [] = Unit {0}
AllBelow n (x ∷ xs) = (x.event < n) × AllBelow n xs

-- lists of items with events below a bound, appended, are below each bound at least as great
below_more : (n m : ℕ) (xs ys : List Item) → n ≤ m → AllBelow n xs → AllBelow m ys → AllBelow m (xs ++ ys)
below_more n m [] ys le h g = g
below_more n m (x ∷ xs) ys le h g = (omega (arith, h.0, le), below_more n m xs ys le h.1 g)

-- what the event of a number notes as an item is below the next number
below_one : (n : ℕ) (p : CpuNo) (o : Option ℕ) → AllBelow (suc n) (item_by n p o)
below_one n p None = tt
below_one n p (Some word) = (omega arith, tt)

-- each item of a history has an event below the number of its events
items_below : (past : List Event) → AllBelow (length past) (items_of past)
items_below [] = tt
items_below (e ∷ past) =
    below_more (length past) (suc (length past)) (items_of past) (item_by (length past) e.cpu (word_of e.what)) (omega arith) (items_below past)
    (below_one (length past) e.cpu (word_of e.what))

-- the walk gives one count of waiting inserts for each event
length_waitings : (past : List Event) → length (waitings past) ≡ length past
length_waitings [] = refl
length_waitings (e ∷ past) =
    let h = length_waitings past in let a = length-append (waitings past) (length (waiting_inserts past) ∷ []) in omega (arith, h, a)

-- the element added at the end of a list stands at the place of the list's old length
last_one : (xs : List ℕ) (y n : ℕ) → length xs ≡ n → get_or (xs ++ y ∷ []) n 0 ≡ y
last_one [] y zero e = refl
last_one [] y (suc n) e = absurd (omega (arith, e))
last_one (x ∷ xs) y zero e = absurd (omega (arith, e))
last_one (x ∷ xs) y (suc n) e = last_one xs y n (omega (arith, e))

-- appending to a list leaves its elements at each place before its end
before_it : (xs ys : List ℕ) (n : ℕ) → n < length xs → get_or (xs ++ ys) n 0 ≡ get_or xs n 0
before_it [] ys n h = absurd (omega (arith, h))
before_it (x ∷ xs) ys zero h = refl
before_it (x ∷ xs) ys (suc n) h = before_it xs ys n (omega (arith, h))

-- the walk's count at an event's number is the count of inserts waiting before that event
waitings_at : (events : List Event) (n k : ℕ) → n < k → k ≤ length events → get_or (waitings (reverse (take k events))) n 0 ≡ waiting events n
waitings_at events n zero lt le = absurd (omega (arith, lt))
waitings_at events n (suc k) lt le =
    let past : List Event = reverse (take k events) in
    let plus : k + 1 ≡ suc k = omega arith in
    let more : waitings past ++ length (waiting_inserts past) ∷ [] ≡ waitings (reverse (take (suc k) events)) =
    waitings_more events k (omega (arith, le)) ∙ ap (λ (m : ℕ). waitings (reverse (take m events))) plus in
    let many : length (waitings past) ≡ k = length_waitings past ∙ past_length events k (omega (arith, le)) in
    ap (λ (xs : List ℕ). get_or xs n 0) (sym more)
    ∙ dite (ℕ_discrete n k)
    (λ e.
    ap (λ (m : ℕ). get_or (waitings past ++ length (waiting_inserts past) ∷ []) m 0) e ∙ last_one (waitings past) (length (waiting_inserts past)) k many
    ∙ ap (λ (m : ℕ). waiting events m) (sym e))
    (λ ne.
    let under : n < k = omega (arith, lt, ne) in
    before_it (waitings past) (length (waiting_inserts past) ∷ []) n (omega (arith, under, many)) ∙ waitings_at events n k under (omega (arith, le)))

-- items told by the counts of the walk are told as in the audit, if their events are in the history
each_report : (events : List Event) (xs : List Item) → AllBelow (length events) xs →
    map (reported (waitings (reverse events))) xs ≡ map (audited events) xs
each_report events [] h = refl
each_report events (x ∷ xs) h =
    let here : get_or (waitings (reverse events)) x.event 0 ≡ waiting events x.event =
    ap (λ (es : List Event). get_or (waitings es) x.event 0) (sym (all_past events (length events) refl))
    ∙ waitings_at events x.event (length events) h.0 (omega arith) in
    let one : reported (waitings (reverse events)) x ≡ audited events x = ap (λ (m : ℕ). record { item = x; waiting = m }) here in
    λ i. one i ∷ each_report events xs h.1 i

-- if each item is told with the count of the inserts pending before its event, what is told is the audit
pub all_reports : (events : List Event) (counts : List ℕ) (xs : List Item) (done : List Audited) → counts ≡ waitings (reverse events) →
    xs ≡ items_of (reverse events) → done ≡ map (reported counts) xs →
    done ≡ audit_of events
all_reports events counts xs done c x d =
    d ∙ (λ i. map (reported (c i)) (x i))
    ∙ each_report events (items_of (reverse events))
    (subst (λ (n : ℕ). AllBelow n (items_of (reverse events))) (length-reverse events) (items_below (reverse events)))
