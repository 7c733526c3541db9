-- The lines of the inserts that wait, event by event.
use Rattle.std.proofs.Common.{◌≡◌, ◌∙◌, ℕ, zero, suc, ◌+◌, ◌<◌, Bool, true, false, List, [], ◌∷◌, ◌++◌, append-nil, length, map, get_or, take, reverse, Option}
use Rattle.std.proofs.Common.{Some, None, refl, sym, ap, arith}
use Rattle.std.specs.Prelude.{filter, is_some, option_map, if◌then◌else◌}
use Rattle.std.proofs.lemmas.List.{length-append, map-append}
use Rattle.std.proofs.Math.Seq.{take-length}
use Rattle.std.proofs.lemmas.List.Elements.{filter-append}
use Rattle.nt_text.specs.Lines.{rows_text}
use Rattle.nt_event.specs.declared.events.Event.{Event}
use Rattle.nt_event.specs.Fate.{Inserted, Thing, fate_of, inserted_by, inserted_thing, inserts, still_waits, waiting_inserts}
use Rattle.nt_line.specs.NameLists.{NameLists}
use Rattle.nt_text.specs.Lines.{Row}
use Rattle.nt_text.proofs.RowTexts.{parts_put}
use Rattle.nt_print.specs.Report.{wait_row}
use Rattle.nt_print.specs.Uses.{inserted_at, waits_at}
use Rattle.nt_print.proofs.Past.{inserted_read, past_length, past_more}

-- the insert waits at the end of all these events
abbrev pub waits_in : List Event → Inserted → Bool
waits_in all x = still_waits (fate_of x.thing x.number all)

-- how many of the first k events are inserts that wait at the end
abbrev pub waits_before : List Event → ℕ → ℕ
waits_before events k = length (filter (waits_in (reverse events)) (inserts (reverse (take k events))))

-- the lines of the inserts of the events up to some, that wait behind all of them
abbrev pub waits_so_far : NameLists → List Event → List Event → List Row
waits_so_far names all past = map (wait_row names) (filter (waits_in all) (inserts past))

-- of the insert of one event the one that waits is kept by the test for waiting inserts
kept : (all : List Event) (n : ℕ) (o : Option Thing) → filter (waits_in all) (inserted_by n o) ≡ inserted_by n (waits_at all n o)
kept all n None = refl
kept all n (Some thing) = go (still_waits (fate_of thing n all))
  where
    go : (b : Bool) → (if b then record { number = n; thing = thing } ∷ [] else []) ≡ inserted_by n (if b then Some thing else None)
    go true = refl
    go false = refl

-- the inserts that wait, up to one event more
pub waiting_more : (events all : List Event) (k : ℕ) (e : Event) → k < length events → e ≡ get_or events k e →
    filter (waits_in all) (inserts (reverse (take k events))) ++ inserted_by k (waits_at all k (inserted_at events k))
    ≡ filter (waits_in all) (inserts (reverse (take (k + 1) events)))
waiting_more events all k e lt is =
    let past : List Event = reverse (take k events) in
    let here : List Inserted = inserted_by k (inserted_thing e.what) in
    let number : inserts (e ∷ past) ≡ inserts past ++ here = ap (λ (m : ℕ). inserts past ++ inserted_by m (inserted_thing e.what))
    (past_length events k (omega (arith, lt))) in
    let split : filter (waits_in all) (inserts (e ∷ past)) ≡ filter (waits_in all) (inserts past) ++ filter (waits_in all) here =
    ap (filter (waits_in all)) number ∙ filter-append (waits_in all) (inserts past) here in
    let same : filter (waits_in all) here ≡ inserted_by k (waits_at all k (inserted_at events k)) =
    kept all k (inserted_thing e.what) ∙ ap (λ (o : Option Thing). inserted_by k (waits_at all k o)) (inserted_read events k e lt is) in
    ap (λ (xs : List Inserted). filter (waits_in all) (inserts past) ++ xs) (sym same) ∙ sym split
    ∙ ap (λ (xs : List Event). filter (waits_in all) (inserts xs)) (sym (past_more events k e lt is))

-- adding the row of the next event's insert, if it waits, gives the rows of waits up to one event more
pub waits_more : (names : NameLists) (events all : List Event) (k : ℕ) (e : Event) → k < length events → e ≡ get_or events k e
    → waits_so_far names all (reverse (take k events)) ++ map (wait_row names) (inserted_by k (waits_at all k (inserted_at events k)))
    ≡ waits_so_far names all (reverse (take (k + 1) events))
waits_more names events all k e lt is =
    sym (map-append (wait_row names) (filter (waits_in all) (inserts (reverse (take k events)))) (inserted_by k (waits_at all k (inserted_at events k))))
    ∙ ap (map (wait_row names)) (waiting_more events all k e lt is)

-- a place below the length of a list has an element
pub element_at : {X : Type 0} (xs : List X) (k : ℕ) → k < length xs → (x : X) × (x ≡ get_or xs k x)
element_at [] k lt = absurd (omega (arith, lt))
element_at (x ∷ xs) zero lt = (x, refl)
element_at (x ∷ xs) (suc k) lt = element_at xs k (omega (arith, lt))

-- putting the row of the next event's insert behind a text of wait rows gives the text of one event more
pub waits_put : (names : NameLists) (events : List Event) (k : ℕ) (old now next : List ℕ) → k < length events → now ≡ old
    ++ rows_text (waits_so_far names (reverse events) (reverse (take k events)))
    → next ≡ now ++ rows_text (map (wait_row names) (inserted_by k (waits_at (reverse events) k (inserted_at events k)))) → next ≡ old
    ++ rows_text (waits_so_far names (reverse events) (reverse (take (k + 1) events)))
waits_put names events k old now next lt before line =
    let e = element_at events k lt in
    parts_put old now next (waits_so_far names (reverse events) (reverse (take k events)))
    (map (wait_row names) (inserted_by k (waits_at (reverse events) k (inserted_at events k)))) before line
    ∙ ap (λ (rows : List Row). old ++ rows_text rows) (waits_more names events (reverse events) k e.0 lt e.1)

-- one event more, whose insert doesn't wait or is none
pub none_put : (names : NameLists) (events : List Event) (k : ℕ) (old now : List ℕ) → k < length events → now ≡ old
    ++ rows_text (waits_so_far names (reverse events) (reverse (take k events))) → None ≡ waits_at (reverse events) k (inserted_at events k) → now ≡ old
    ++ rows_text (waits_so_far names (reverse events) (reverse (take (k + 1) events)))
none_put names events k old now lt before none =
    waits_put names events k old now now lt before
    (sym (append-nil now) ∙ ap (λ (o : Option Thing). now ++ rows_text (map (wait_row names) (inserted_by k o))) none)

-- ---- how many wait

-- an insert that is there is one more counted, and none leaves the count
how_many : {X : Type 0} (thing_of : X → Thing) (n count : ℕ) (o : Option X) →
    count + length (inserted_by n (option_map thing_of o)) ≡ (if is_some o then count + 1 else count)
how_many thing_of n count None = omega arith
how_many thing_of n count (Some x) = refl

-- one event more is passed: what it inserts, where the insert waits
pub waits_counted : {X : Type 0} (thing_of : X → Thing) (events : List Event) (k count : ℕ) (o : Option X) → k < length events →
    count ≡ waits_before events k → option_map thing_of o ≡ waits_at (reverse events) k (inserted_at events k) →
    (if is_some o then count + 1 else count) ≡ waits_before events (k + 1)
waits_counted thing_of events k count o lt before here =
    let e = element_at events k lt in
    let so_far : List Inserted = filter (waits_in (reverse events)) (inserts (reverse (take k events))) in
    sym (how_many thing_of k count o)
    ∙ ap (λ (m : ℕ). m + length (inserted_by k (option_map thing_of o))) before
    ∙ ap (λ (x : Option Thing). length so_far + length (inserted_by k x)) here
    ∙ sym (length-append so_far (inserted_by k (waits_at (reverse events) k (inserted_at events k))))
    ∙ ap (λ (xs : List Inserted). length xs) (waiting_more events (reverse events) k e.0 lt e.1)

-- all events are passed
pub all_counted : (events : List Event) (k : ℕ) → k ≡ length events → waits_before events k ≡ length (waiting_inserts (reverse events))
all_counted events k all =
    ap (λ (es : List Event). length (filter (waits_in (reverse events)) (inserts (reverse es))))
    (ap (λ (m : ℕ). take m events) all ∙ take-length events)
