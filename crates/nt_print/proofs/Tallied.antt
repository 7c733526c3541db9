-- The tally with one event more.
use Rattle.std.proofs.Common.{◌≡◌, ◌≢◌, ◌∙◌, ℕ, ◌+◌, ◌<◌, ◌≤◌, Bool, true, false, List, ◌∷◌, length, get_or, set, take, reverse, Option, Some, None, refl, sym}
use Rattle.std.proofs.Common.{ap, subst, arith}
use Rattle.std.specs.Prelude.{◌&&◌, ◌||◌, ◌==◌, IfSome, not, nat_le, nat_lt, if◌then◌else◌}
use Rattle.std.proofs.Math.Seq.{take-length}
use Rattle.std.proofs.lemmas.Bool.{eqb-false, eqb-true, le-leb, lt-leb, lt-ltb, ltb-false, ltb-true}
use Rattle.std.proofs.lemmas.List.{get_or-set_other, get_or-set_same, get_or_past, length-set}
use Rattle.std.proofs.lemmas.List.Sums.{count_by_more_no, count_by_more_yes}
use Rattle.nt_event.specs.declared.events.Event.{Event}
use Rattle.nt_event.specs.declared.events.What.{What}
use Rattle.nt_event.specs.declared.scripts.Script.{Script}
use Rattle.nt_event.specs.Locks.{lock_move}
use Rattle.nt_event.specs.Own.{is_rest}
use Rattle.nt_event.specs.Fate.{ApcThing, DpcThing, Inserted, Thing, fate_of, inserted_thing, still_waits}
use Rattle.nt_print.specs.declared.tally.Tally.{Tally}
use Rattle.nt_print.specs.Counts.{TellsMade}
use Rattle.nt_print.specs.Summary.{how_many, is_begin, is_call, is_refused_call}
use Rattle.nt_print.specs.Tally.{Counts, HasPlaces, Tallies, TalliesAll, TellsWaiting, counted_if, last_removal, removed_apcs, removed_dpcs, waits_by}
use Rattle.nt_print.specs.Tally.{with_event, with_inserted, with_named}
use Rattle.nt_print.specs.Uses.{inserted_at, is_it, named_by, names_it, removed_by, removes_it, same_thing, thing_fits, waits_at}
use Rattle.nt_print.proofs.Counted.{count_step}
use Rattle.nt_print.proofs.Fates.{one_later, waits_at_first}
use Rattle.nt_print.proofs.Spinning.{length-noted_rest, length-noted_spin, spins_step}
use Rattle.nt_print.proofs.Past.{inserted_read, past_length, past_more}

-- and with true on the right changes no flag
and_true : (b : Bool) → (b && true) ≡ b
and_true true = refl
and_true false = refl

-- and with false on the right is false
and_false : (b : Bool) → (b && false) ≡ false
and_false true = refl
and_false false = refl

-- ---- how many events did something

-- counting one event more by a test counts it if it passes
many_step : (test : What → Bool) (events : List Event) (k n : ℕ) (e : Event) → k < length events → e ≡ get_or events k e →
    n ≡ how_many test (take k events) → counted_if (test e.what) n ≡ how_many test (take (k + 1) events)
many_step test events k n e lt is h = go (test e.what) refl
  where
    does : Event → Bool
    does x = test x.what

    go : (b : Bool) → test e.what ≡ b → counted_if b n ≡ how_many test (take (k + 1) events)
    go true d = ap (λ (m : ℕ). m + 1) h ∙ sym (count_by_more_yes does events k e lt (ap does (sym is) ∙ d))
    go false d = h ∙ sym (count_by_more_no does events k e lt (ap does (sym is) ∙ d))

-- with one event more the tally still counts the events of each kind
counts_step : (events : List Event) (k : ℕ) (e : Event) (t : Tally) → k < length events → e ≡ get_or events k e → Counts (take k events) t →
    Counts (take (k + 1) events) (with_event events k e t)
counts_step events k e t lt is c = record {
  calls = many_step is_call events k t.calls e lt is c.calls;
  refused = many_step is_refused_call events k t.refused e lt is c.refused;
  begins = many_step is_begin events k t.begins e lt is c.begins;
  made = count_step events k e t.made lt is c.made;
}

-- ---- which inserts no event named

-- the flag at the place that is named
hit : (flags : List Bool) (n : ℕ) (same : Bool) → n < length flags →
    get_or (if same then set flags n false else flags) n false ≡ (get_or flags n false && not same)
hit flags n true l = get_or-set_same flags n false false l ∙ sym (and_false (get_or flags n false))
hit flags n false l = sym (and_true (get_or flags n false))

-- clearing one flag of a list leaves every other flag
missed : (flags : List Bool) (m n : ℕ) (b : Bool) → m ≢ n → get_or (if b then set flags m false else flags) n false ≡ get_or flags n false
missed flags m n true apart = get_or-set_other flags m n false false (λ e. apart (sym e))
missed flags m n false apart = refl

-- after an event that names an insert, an insert of before is unnamed if it was and is not the named one
named_step : (events : List Event) (k n : ℕ) (o : Option Inserted) (thing : Thing) (flags : List Bool) → n < k → n < length flags →
    inserted_at events n ≡ Some thing → get_or (with_named events k o flags) n false ≡ (get_or flags n false && not (names_it o thing n))
named_step events k n None thing flags lt l at = sym (and_true (get_or flags n false))
named_step events k n (Some i) thing flags lt l at = go (i.number == n) refl
  where
    before : Bool
    before = get_or flags n false

    there : get_or (if nat_lt n k && is_it i.thing (inserted_at events n) then set flags n false else flags) n false
        ≡ (before && not (same_thing i.thing thing))
    there = rw (at, lt-ltb n k lt) (hit flags n (same_thing i.thing thing) l)

    go : (b : Bool) → (i.number == n) ≡ b →
        get_or (with_named events k (Some i) flags) n false ≡ (before && not (same_thing i.thing thing && (i.number == n)))
    go true e =
        let same : i.number ≡ n = eqb-true i.number n e in
        rw (e, and_true (same_thing i.thing thing))
        (subst (λ (m : ℕ). get_or (if nat_lt m k && is_it i.thing (inserted_at events m) then set flags m false else flags) n false
        ≡ (before && not (same_thing i.thing thing))) (sym same) there)
    go false e =
        rw (e, and_false (same_thing i.thing thing), and_true before)
        (missed flags i.number n (nat_lt i.number k && is_it i.thing (inserted_at events i.number)) (eqb-false i.number n e))

-- setting the flag of a new insert leaves every other flag
inserted_elsewhere : (k n : ℕ) (o : Option Thing) (flags : List Bool) → n ≢ k → get_or (with_inserted k o flags) n false ≡ get_or flags n false
inserted_elsewhere k n None flags apart = refl
inserted_elsewhere k n (Some thing) flags apart = get_or-set_other flags k n true false apart

-- ---- what was removed last

-- after a removal number is written, a place's number is still an earlier one if another place was written
number_step : (numbers : List ℕ) (x d k n : ℕ) → d < length numbers → n < k →
    nat_le (get_or (set numbers x k) d 0) n ≡ (nat_le (get_or numbers d 0) n && not (x == d))
number_step numbers x d k n l lt = go (x == d) refl
  where
    before : Bool
    before = nat_le (get_or numbers d 0) n

    go : (b : Bool) → (x == d) ≡ b → nat_le (get_or (set numbers x k) d 0) n ≡ (before && not b)
    go true e =
        let same : x ≡ d = eqb-true x d e in
        let here : get_or (set numbers x k) d 0 ≡ k = subst (λ (m : ℕ). get_or (set numbers m k) d 0 ≡ k) (sym same) (get_or-set_same numbers d k 0 l) in
        ap (λ (m : ℕ). nat_le m n) here ∙ lt-leb k n lt ∙ sym (and_false before)
    go false e =
        ap (λ (m : ℕ). nat_le m n) (get_or-set_other numbers x d k 0 (λ s. eqb-false x d e (sym s))) ∙ sym (and_true before)

-- after one event more a DPC's last removal is before an insert if it was and the event removes it not
dpc_step : (o : Option Thing) (numbers : List ℕ) (d k n : ℕ) → d < length numbers → n < k →
    nat_le (get_or (removed_dpcs k o numbers) d 0) n ≡ (nat_le (get_or numbers d 0) n && not (removes_it o (DpcThing (record { 0 = d }))))
dpc_step None numbers d k n l lt = sym (and_true (nat_le (get_or numbers d 0) n))
dpc_step (Some (DpcThing x)) numbers d k n l lt = number_step numbers x.0 d k n l lt
dpc_step (Some (ApcThing x)) numbers d k n l lt = sym (and_true (nat_le (get_or numbers d 0) n))

-- after one event more an APC's last removal is before an insert if it was and the event removes it not
apc_step : (o : Option Thing) (numbers : List ℕ) (a k n : ℕ) → a < length numbers → n < k →
    nat_le (get_or (removed_apcs k o numbers) a 0) n ≡ (nat_le (get_or numbers a 0) n && not (removes_it o (ApcThing (record { 0 = a }))))
apc_step None numbers a k n l lt = sym (and_true (nat_le (get_or numbers a 0) n))
apc_step (Some (DpcThing x)) numbers a k n l lt = sym (and_true (nat_le (get_or numbers a 0) n))
apc_step (Some (ApcThing x)) numbers a k n l lt = number_step numbers x.0 a k n l lt

-- after one event more an object's last removal is before an insert if it was and the event removes it not
removal_step : (s : Script) (events : List Event) (k n : ℕ) (e : Event) (t : Tally) (thing : Thing) → HasPlaces s events t → thing_fits s thing ≡ true →
    n < k → nat_le (last_removal (with_event events k e t) thing) n ≡ (nat_le (last_removal t thing) n && not (removes_it (removed_by e.what) thing))
removal_step s events k n e t (DpcThing d) p fits lt =
    let long = p.dpcs in
    dpc_step (removed_by e.what) t.dpcs d.0 k n (omega (arith, long, ltb-true d.0 (length s.dpcs) fits)) lt
removal_step s events k n e t (ApcThing a) p fits lt =
    let long = p.apcs in
    apc_step (removed_by e.what) t.apcs a.0 k n (omega (arith, long, ltb-true a.0 (length s.apcs) fits)) lt

-- no removal is noted that comes behind the event of this number
number_within : (numbers : List ℕ) (x d k : ℕ) → get_or numbers d 0 ≤ k → get_or (set numbers x k) d 0 ≤ k
number_within numbers x d k h = go (x == d) refl
  where
    past : (b : Bool) → nat_lt d (length numbers) ≡ b → get_or (set numbers d k) d 0 ≤ k
    past true l = let here = get_or-set_same numbers d k 0 (ltb-true d (length numbers) l) in omega (arith, here)
    past false l =
        let long = length-set numbers d k in
        let none = get_or_past (set numbers d k) d 0 (omega (arith, long, ltb-false d (length numbers) l)) in
        omega (arith, none)

    go : (b : Bool) → (x == d) ≡ b → get_or (set numbers x k) d 0 ≤ k
    go true e = subst (λ (m : ℕ). get_or (set numbers m k) d 0 ≤ k) (sym (eqb-true x d e)) (past (nat_lt d (length numbers)) refl)
    go false e = let other = get_or-set_other numbers x d k 0 (λ s. eqb-false x d e (sym s)) in omega (arith, other, h)

-- after one event more a DPC's last removal has a number of at most that event
dpc_within : (o : Option Thing) (numbers : List ℕ) (d k : ℕ) → get_or numbers d 0 ≤ k → get_or (removed_dpcs k o numbers) d 0 ≤ k
dpc_within None numbers d k h = h
dpc_within (Some (DpcThing x)) numbers d k h = number_within numbers x.0 d k h
dpc_within (Some (ApcThing x)) numbers d k h = h

-- after one event more an APC's last removal has a number of at most that event
apc_within : (o : Option Thing) (numbers : List ℕ) (a k : ℕ) → get_or numbers a 0 ≤ k → get_or (removed_apcs k o numbers) a 0 ≤ k
apc_within None numbers a k h = h
apc_within (Some (DpcThing x)) numbers a k h = h
apc_within (Some (ApcThing x)) numbers a k h = number_within numbers x.0 a k h

-- after one event more an object's last removal has a number of at most that event
removal_within : (events : List Event) (k : ℕ) (e : Event) (t : Tally) (thing : Thing) → last_removal t thing ≤ k →
    last_removal (with_event events k e t) thing ≤ k
removal_within events k e t (DpcThing d) h = dpc_within (removed_by e.what) t.dpcs d.0 k h
removal_within events k e t (ApcThing a) h = apc_within (removed_by e.what) t.apcs a.0 k h

-- ---- what waits

-- unnamed, before: no event named it, and none behind it removed its thing; names, removes: the next event does
together : (unnamed names before removes : Bool) → ((unnamed && not names) && (before && not removes)) ≡ ((unnamed && before) && not (names || removes))
together false names before removes = refl
together true true false removes = refl
together true true true removes = refl
together true false false removes = refl
together true false true removes = refl

-- naming an insert leaves the number of flags
length-with_named : (events : List Event) (k : ℕ) (o : Option Inserted) (flags : List Bool) → length (with_named events k o flags) ≡ length flags
length-with_named events k None flags = refl
length-with_named events k (Some i) flags = go (nat_lt i.number k && is_it i.thing (inserted_at events i.number))
  where
    go : (b : Bool) → length (if b then set flags i.number false else flags) ≡ length flags
    go true = length-set flags i.number false
    go false = refl

-- noting a new insert leaves the number of flags
length-with_inserted : (k : ℕ) (o : Option Thing) (flags : List Bool) → length (with_inserted k o flags) ≡ length flags
length-with_inserted k None flags = refl
length-with_inserted k (Some thing) flags = length-set flags k true

-- with one event more the tally still tells which inserts wait
waiting_step : (s : Script) (events : List Event) (k : ℕ) (e : Event) (t : Tally) → k < length events → e ≡ get_or events k e → Tallies s events k t →
    TellsWaiting s events (k + 1) (with_event events k e t)
waiting_step s events k e t lt is a n thing below at fits = go (n == k) refl
  where
    next : Tally
    next = with_event events k e t

    named : List Bool
    named = with_named events k (named_by e.what) t.unnamed

    long : length t.unnamed ≡ length events
    long = a.places.unnamed

    past : List Event
    past = reverse (take k events)

    many : length past ≡ k
    many = past_length events k (omega (arith, lt))

    later : still_waits (fate_of thing n (e ∷ past)) ≡ still_waits (fate_of thing n (reverse (take (k + 1) events)))
    later = ap (λ (es : List Event). still_waits (fate_of thing n es)) (sym (past_more events k e lt is))

    go : (b : Bool) → (n == k) ≡ b → waits_by next n thing ≡ still_waits (fate_of thing n (reverse (take (k + 1) events)))
    go true q =
        let same : n ≡ k = eqb-true n k q in
        let inserted : inserted_thing e.what ≡ Some thing = inserted_read events k e lt is ∙ ap (inserted_at events) (sym same) ∙ at in
        let flag : get_or next.unnamed n false ≡ true =
        ap (λ (o : Option Thing). get_or (with_inserted k o named) n false) inserted
        ∙ ap (λ (m : ℕ). get_or (set named k true) m false) same
        ∙ get_or-set_same named k true false (omega (arith, lt, long, length-with_named events k (named_by e.what) t.unnamed)) in
        let last : last_removal next thing ≤ n = let within = removal_within events k e t thing (a.removals thing) in omega (arith, within, same) in
        ap (λ (b : Bool). b && nat_le (last_removal next thing) n) flag ∙ le-leb (last_removal next thing) n last
        ∙ sym (waits_at_first thing n (e ∷ past) (omega (arith, many, same))) ∙ later
    go false q =
        let apart : n ≢ k = eqb-false n k q in
        let before : n < k = omega (arith, below, apart) in
        let flag : get_or next.unnamed n false ≡ (get_or t.unnamed n false && not (names_it (named_by e.what) thing n)) =
        inserted_elsewhere k n (inserted_thing e.what) named apart
        ∙ named_step events k n (named_by e.what) thing t.unnamed before (omega (arith, before, lt, long)) at in
        ap (λ (b : Bool). b && nat_le (last_removal next thing) n) flag
        ∙ ap (λ (b : Bool). (get_or t.unnamed n false && not (names_it (named_by e.what) thing n)) && b)
        (removal_step s events k n e t thing a.places fits before)
        ∙ together (get_or t.unnamed n false) (names_it (named_by e.what) thing n) (nat_le (last_removal t thing) n) (removes_it (removed_by e.what) thing)
        ∙ ap (λ (b : Bool). b && not (names_it (named_by e.what) thing n || removes_it (removed_by e.what) thing)) (a.waiting n thing before at fits)
        ∙ sym (one_later thing n e past (omega (arith, many, before))) ∙ later

-- ---- the places

-- noting the removal of a DPC leaves the number of noted numbers
length-removed_dpcs : (k : ℕ) (o : Option Thing) (numbers : List ℕ) → length (removed_dpcs k o numbers) ≡ length numbers
length-removed_dpcs k None numbers = refl
length-removed_dpcs k (Some (DpcThing x)) numbers = length-set numbers x.0 k
length-removed_dpcs k (Some (ApcThing x)) numbers = refl

-- noting the removal of an APC leaves the number of noted numbers
length-removed_apcs : (k : ℕ) (o : Option Thing) (numbers : List ℕ) → length (removed_apcs k o numbers) ≡ length numbers
length-removed_apcs k None numbers = refl
length-removed_apcs k (Some (DpcThing x)) numbers = refl
length-removed_apcs k (Some (ApcThing x)) numbers = length-set numbers x.0 k

-- with one event more the lists of the tally still have a place for each processor, event, DPC and APC
places_step : (s : Script) (events : List Event) (k : ℕ) (e : Event) (t : Tally) → HasPlaces s events t → HasPlaces s events (with_event events k e t)
places_step s events k e t p = record {
  made = length-set t.made e.cpu.0 (get_or t.made e.cpu.0 0 + 1) ∙ p.made;
  spins = length-noted_spin k e.cpu.0 (lock_move e.what) t.spins ∙ p.spins;
  rested = length-noted_rest e.cpu.0 (get_or (set t.made e.cpu.0 (get_or t.made e.cpu.0 0 + 1)) e.cpu.0 0) (is_rest e.what) t.rested ∙ p.rested;
  unnamed = length-with_inserted k (inserted_thing e.what) (with_named events k (named_by e.what) t.unnamed)
      ∙ length-with_named events k (named_by e.what) t.unnamed ∙ p.unnamed;
  dpcs = length-removed_dpcs k (removed_by e.what) t.dpcs ∙ p.dpcs;
  apcs = length-removed_apcs k (removed_by e.what) t.apcs ∙ p.apcs;
}

-- ---- the whole tally

-- adding the next event to the tally of the first events gives the tally of one event more
pub tally_step : (s : Script) (events : List Event) (k : ℕ) (e : Event) (t : Tally) → k < length events → e ≡ get_or events k e → Tallies s events k t →
    Tallies s events (k + 1) (with_event events k e t)
tally_step s events k e t lt is a = record {
  counts = counts_step events k e t lt is a.counts;
  waiting = waiting_step s events k e t lt is a;
  removals = λ thing. let within = removal_within events k e t thing (a.removals thing) in omega (arith, within);
  spinning = spins_step events k e t lt is (a.places.rested ∙ sym a.places.made) a.spinning;
  places = places_step s events k e t a.places;
}

-- ---- what waits at the end

-- the thing, where it waits by the tally
abbrev waiting_by : Tally → ℕ → Option Thing → Option Thing
waiting_by t n None = None
waiting_by t n (Some thing) = if waits_by t n thing then Some thing else None

-- what the event of a number inserts waits by the tally of all events exactly where it waits at the end
waits_told : (s : Script) (events : List Event) (n : ℕ) (t : Tally) (o : Option Thing) → n < length events → TalliesAll s events t →
    o ≡ inserted_at events n → IfSome o (λ thing. thing_fits s thing ≡ true) → waiting_by t n o ≡ waits_at (reverse events) n (inserted_at events n)
waits_told s events n t None lt a at fits = ap (waits_at (reverse events) n) at
waits_told s events n t (Some thing) lt a at fits =
    ap (λ (b : Bool). if b then Some thing else None)
    (a.waiting n thing lt (sym at) fits ∙ ap (λ (es : List Event). still_waits (fate_of thing n (reverse es))) (take-length events))
    ∙ ap (waits_at (reverse events) n) at

-- an insert that was named does not wait by the tally
named_waits_not : (t : Tally) (n : ℕ) (o : Option Thing) → get_or t.unnamed n false ≡ false → waiting_by t n o ≡ None
named_waits_not t n None h = refl
named_waits_not t n (Some thing) h = ap (λ (b : Bool). if b && nat_le (last_removal t thing) n then Some thing else None) h

-- no insert waits that an event named, and no event without an insert
pub none_waits : (s : Script) (events : List Event) (n : ℕ) (t : Tally) → n < length events → TalliesAll s events t →
    IfSome (inserted_at events n) (λ thing. thing_fits s thing ≡ true) → get_or t.unnamed n false ≡ false →
    None ≡ waits_at (reverse events) n (inserted_at events n)
none_waits s events n t lt a fits h =
    sym (named_waits_not t n (inserted_at events n) h) ∙ waits_told s events n t (inserted_at events n) lt a refl fits

-- the tally of all events is that of the same events
pub all_tallied : (s : Script) (events all : List Event) (t : Tally) → TalliesAll s events t → events ≡ all → TalliesAll s all t
all_tallied s events all t a is = subst (λ (es : List Event). TalliesAll s es t) is a

-- the counts of the processors are those of all events
pub all_made : (s : Script) (events all : List Event) (t : Tally) → TalliesAll s events t → events ≡ all → TellsMade all t.made
all_made s events all t a is = subst (λ (es : List Event). TellsMade es t.made) (take-length events ∙ is) a.counts.made
