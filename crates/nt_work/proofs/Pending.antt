-- What one event more leaves of the pending inserts.
use Rattle.std.proofs.Common.{◌≡◌, ◌∙◌, ℕ, suc, ◌+◌, ◌<◌, ◌≤◌, Bool, true, false, List, [], ◌∷◌, ◌++◌, length, refl, sym, ap, arith, Option, Some, None}
use Rattle.std.specs.Prelude.{filter, ◌&&◌, not, nat_lt, option_map, if◌then◌else◌}
use Rattle.std.proofs.lemmas.Bool.{lt-ltb, le-ltb}
use Rattle.std.proofs.lemmas.List.Elements.{filter-append}
use Rattle.nt_event.specs.declared.commands.Reply.{Reply}
use Rattle.nt_event.specs.declared.commands.Reply.TheVariants.{Yes}
use Rattle.nt_event.specs.declared.events.Begun.TheVariants.{Apc, Dpc, Int, Threaded}
use Rattle.nt_event.specs.declared.events.Event.{Event}
use Rattle.nt_event.specs.declared.events.What.{What}
use Rattle.nt_event.specs.declared.events.What.TheVariants.{Begin, Call, Fire, Flush}
use Rattle.nt_event.specs.declared.numbers.ApcNo.{ApcNo}
use Rattle.nt_event.specs.declared.numbers.DpcNo.{DpcNo}
use Rattle.nt_event.specs.Families.{AddApc, Family, ForApc, ForDpc, InsertDpc, RemoveDpc, TakeApc, by_apc_family, by_dpc_family, family}
use Rattle.nt_event.specs.Fate.{ApcThing, BegunBy, DpcThing, Fate, FlushedBy, Inserted, RemovedBy, StillWaits, Thing, apc_inserted, apc_removed, fate_by}
use Rattle.nt_event.specs.Fate.{fate_of}
use Rattle.nt_event.specs.Fate.{first_fate, inserted_by, inserted_thing, inserts, is_apc, still_waits, uses_up, waiting_inserts}
use Rattle.nt_event.specs.Objects.{dpc_inserted, dpc_removed, is_dpc}
use Rattle.nt_event.specs.Replies.{is_yes}
use Rattle.nt_work.specs.declared.change.Change.{Change}
use Rattle.nt_work.specs.declared.change.Change.TheVariants.{Inserts, Nothing, Removes, Takes}
use Rattle.nt_work.specs.Audits.{waits_in}
use Rattle.nt_work.specs.Changes.{added_by, after_change, call_change, change_in, inserted_in, uses}

-- ---- the change of an event says what it uses up and inserts

-- a call removes a DPC if and only if its change uses up each insert of that DPC
uses_dpc : (k : Family) (y : Reply) (d : DpcNo) (n : ℕ) → is_dpc (by_dpc_family (λ c. dpc_removed c y) None k) d ≡ uses (call_change k y) (DpcThing d) n
uses_dpc (ForDpc (InsertDpc x)) Yes d n = refl
uses_dpc (ForDpc (InsertDpc x)) y d n = refl
uses_dpc (ForDpc (RemoveDpc x)) Yes d n = refl
uses_dpc (ForDpc (RemoveDpc x)) y d n = refl
uses_dpc (ForApc (AddApc x)) Yes d n = refl
uses_dpc (ForApc (AddApc x)) y d n = refl
uses_dpc (ForApc (TakeApc x)) Yes d n = refl
uses_dpc (ForApc (TakeApc x)) y d n = refl
uses_dpc k y d n = refl

-- a call removes an APC if and only if its change uses up each insert of that APC
uses_apc : (k : Family) (y : Reply) (a : ApcNo) (n : ℕ) → is_apc (by_apc_family (λ c. apc_removed c y) None k) a ≡ uses (call_change k y) (ApcThing a) n
uses_apc (ForDpc (InsertDpc x)) Yes a n = refl
uses_apc (ForDpc (InsertDpc x)) y a n = refl
uses_apc (ForDpc (RemoveDpc x)) Yes a n = refl
uses_apc (ForDpc (RemoveDpc x)) y a n = refl
uses_apc (ForApc (AddApc x)) Yes a n = refl
uses_apc (ForApc (AddApc x)) y a n = refl
uses_apc (ForApc (TakeApc x)) Yes a n = refl
uses_apc (ForApc (TakeApc x)) y a n = refl
uses_apc k y a n = refl

-- an event uses up an insert if and only if its change does
uses_are : (w : What) (thing : Thing) (n : ℕ) → uses_up thing n w ≡ uses (change_in w) thing n
uses_are (Call f c y) (DpcThing d) n = uses_dpc (family c) y d n
uses_are (Call f c y) (ApcThing a) n = uses_apc (family c) y a n
uses_are (Fire x Yes) (DpcThing d) n = refl
uses_are (Fire x Yes) (ApcThing a) n = refl
uses_are (Fire x y) (DpcThing d) n = refl
uses_are (Fire x y) (ApcThing a) n = refl
uses_are (Begin (Dpc x) m) (DpcThing d) n = refl
uses_are (Begin (Threaded x) m) (DpcThing d) n = refl
uses_are (Begin (Apc x) m) (DpcThing d) n = refl
uses_are (Begin (Int level) m) (DpcThing d) n = refl
uses_are (Begin (Dpc x) m) (ApcThing a) n = refl
uses_are (Begin (Threaded x) m) (ApcThing a) n = refl
uses_are (Begin (Apc x) m) (ApcThing a) n = refl
uses_are (Begin (Int level) m) (ApcThing a) n = refl
uses_are (Flush x m) (DpcThing d) n = refl
uses_are (Flush x m) (ApcThing a) n = refl
uses_are w (DpcThing d) n = refl
uses_are w (ApcThing a) n = refl

-- what a call inserts, a DPC or an APC, is what its change inserts
inserts_call : (k : Family) (y : Reply) →
    by_dpc_family (λ c. option_map DpcThing (dpc_inserted c y)) (by_apc_family (λ c. option_map ApcThing (apc_inserted c y)) None k) k
    ≡ inserted_in (call_change k y)
inserts_call (ForDpc (InsertDpc x)) Yes = refl
inserts_call (ForDpc (InsertDpc x)) y = refl
inserts_call (ForDpc (RemoveDpc x)) Yes = refl
inserts_call (ForDpc (RemoveDpc x)) y = refl
inserts_call (ForApc (AddApc x)) Yes = refl
inserts_call (ForApc (AddApc x)) y = refl
inserts_call (ForApc (TakeApc x)) Yes = refl
inserts_call (ForApc (TakeApc x)) y = refl
inserts_call k y = refl

-- the thing that an event inserts is that which its change inserts
pub inserts_are : (w : What) → inserted_thing w ≡ inserted_in (change_in w)
inserts_are (Call f c y) = inserts_call (family c) y
inserts_are (Fire x Yes) = refl
inserts_are (Fire x y) = refl
inserts_are (Begin (Dpc x) m) = refl
inserts_are (Begin (Threaded x) m) = refl
inserts_are (Begin (Apc x) m) = refl
inserts_are (Begin (Int level) m) = refl
inserts_are w = refl

-- ---- replies other than yes

-- a call whose reply is not yes changes nothing of the inserts
pub quiet_family : (k : Family) (y : Reply) → is_yes y ≡ false → call_change k y ≡ Nothing
quiet_family (ForDpc (InsertDpc x)) Yes h = absurd cc
quiet_family (ForDpc (InsertDpc x)) y h = refl
quiet_family (ForDpc (RemoveDpc x)) Yes h = absurd cc
quiet_family (ForDpc (RemoveDpc x)) y h = refl
quiet_family (ForApc (AddApc x)) Yes h = absurd cc
quiet_family (ForApc (AddApc x)) y h = refl
quiet_family (ForApc (TakeApc x)) Yes h = absurd cc
quiet_family (ForApc (TakeApc x)) y h = refl
quiet_family k y h = refl

-- ---- the fate of an insert behind one event more

-- the fate that an event gives to an insert is never to be waiting still
comes : (w : What) (m : ℕ) → still_waits (fate_by w m) ≡ false
comes (Begin b from) m = refl
comes (Flush a from) m = refl
comes w m = refl

-- an insert waits after an event if it waited before and the event does not use it up, else not
both_wait : (f : Fate) (used : Bool) (w : What) (m : ℕ) → still_waits (first_fate f (if used then fate_by w m else StillWaits)) ≡ (still_waits f && not used)
both_wait StillWaits true w m = comes w m
both_wait StillWaits false w m = refl
both_wait (BegunBy k) used w m = refl
both_wait (RemovedBy k) used w m = refl
both_wait (FlushedBy k) used w m = refl

-- an insert waits behind one event more, where that doesn't use it up
pub one_later : (thing : Thing) (n : ℕ) (e : Event) (past : List Event) → n < length past → still_waits (fate_of thing n (e ∷ past))
    ≡ (still_waits (fate_of thing n past) && not (uses (change_in e.what) thing n))
one_later thing n e past lt =
    let m : ℕ = length past in
    let waits : Bool = still_waits (fate_of thing n past) in
    both_wait (fate_of thing n past) (nat_lt n m && uses_up thing n e.what) e.what m
    ∙ ap (λ (b : Bool). waits && not (b && uses_up thing n e.what)) (lt-ltb n m lt)
    ∙ ap (λ (b : Bool). waits && not b) (uses_are e.what thing n)

-- up to its own event an insert waits
pub waits_at_first : (thing : Thing) (n : ℕ) (past : List Event) → length past ≤ n + 1 → still_waits (fate_of thing n past) ≡ true
waits_at_first thing n [] l = refl
waits_at_first thing n (e ∷ past) l =
    both_wait (fate_of thing n past) (nat_lt n (length past) && uses_up thing n e.what) e.what (length past)
    ∙ ap (λ (b : Bool). still_waits (fate_of thing n past) && not (b && uses_up thing n e.what)) (le-ltb n (length past) (omega (arith, l)))
    ∙ ap (λ (b : Bool). b && true) (waits_at_first thing n past (omega (arith, l)))

-- ---- the pending inserts behind one event more

abbrev kept_by : Change → Inserted → Bool
kept_by c x = not (uses c x.thing x.number)

-- a list whose numbers are below n
abbrev AllBelow : ℕ → List Inserted → Type 0
AllBelow n [] = Unit {0}
AllBelow n (x ∷ xs) = (x.number < n) × AllBelow n xs

-- lists of inserts with numbers below a bound, appended, are below each bound at least as great
below_more : (n m : ℕ) (xs ys : List Inserted) → n ≤ m → AllBelow n xs → AllBelow m ys → AllBelow m (xs ++ ys)
below_more n m [] ys le h g = g
below_more n m (x ∷ xs) ys le h g = (omega (arith, h.0, le), below_more n m xs ys le h.1 g)

-- what the event of a number inserts has a number below the next one
below_one : (n : ℕ) (o : Option Thing) → AllBelow (suc n) (inserted_by n o)
below_one n None = tt
below_one n (Some thing) = (omega arith, tt)

-- each insert of a history has a number below the number of its events
inserts_below : (past : List Event) → AllBelow (length past) (inserts past)
inserts_below [] = tt
inserts_below (e ∷ past) =
    below_more (length past) (suc (length past)) (inserts past) (inserted_by (length past) (inserted_thing e.what)) (omega arith) (inserts_below past)
    (below_one (length past) (inserted_thing e.what))

-- a test that joins two tests keeps an element in a list if both tests do
keep_one : (a b c : Bool) (x : Inserted) (xs ys zs : List Inserted) → c ≡ (a && b) → zs ≡ ys →
    (if c then x ∷ zs else zs) ≡ (if a then (if b then x ∷ ys else ys) else ys)
keep_one true true c x xs ys zs e h = rw (e, h) refl
keep_one true false c x xs ys zs e h = rw (e, h) refl
keep_one false b c x xs ys zs e h = rw (e, h) refl

-- filtering a list whose first element is optional filters the rest and asks the test of that element
filtered : (b : Bool) (p : Inserted → Bool) (x : Inserted) (xs : List Inserted) →
    filter p (if b then x ∷ xs else xs) ≡ (if b then (if p x then x ∷ filter p xs else filter p xs) else filter p xs)
filtered true p x xs = refl
filtered false p x xs = refl

-- those that still wait behind one event more are those that waited and that it doesn't use up
kept_on : (e : Event) (past : List Event) (xs : List Inserted) → AllBelow (length past) xs →
    filter (waits_in (e ∷ past)) xs ≡ filter (kept_by (change_in e.what)) (filter (waits_in past) xs)
kept_on e past [] h = refl
kept_on e past (x ∷ xs) h =
    keep_one (waits_in past x) (kept_by (change_in e.what) x) (waits_in (e ∷ past) x) x xs
    (filter (kept_by (change_in e.what)) (filter (waits_in past) xs)) (filter (waits_in (e ∷ past)) xs)
    (one_later x.thing x.number e past h.0) (kept_on e past xs h.1)
    ∙ sym (filtered (waits_in past x) (kept_by (change_in e.what)) x (filter (waits_in past) xs))

-- an insert by the newest event is waiting after it
new_waits : (e : Event) (past : List Event) (o : Option Thing) → filter (waits_in (e ∷ past)) (inserted_by (length past) o) ≡ inserted_by (length past) o
new_waits e past None = refl
new_waits e past (Some thing) =
    let h : still_waits (fate_of thing (length past) (e ∷ past)) ≡ true = waits_at_first thing (length past) (e ∷ past) (omega arith) in
    ap (λ (b : Bool). if b then record { number = length past; thing = thing } ∷ [] else []) h

-- the pending insert that a change adds is the insert of the thing that it inserts
pub added : (c : Change) (n : ℕ) → inserted_by n (inserted_in c) ≡ added_by c n
added (Inserts o) n = refl
added (Removes o) n = refl
added (Takes x) n = refl
added Nothing n = refl

-- the inserts pending after one event more are those that its change leaves of the ones before
pub pending_more : (e : Event) (past : List Event) → waiting_inserts (e ∷ past) ≡ after_change (change_in e.what) (length past) (waiting_inserts past)
pending_more e past =
    filter-append (waits_in (e ∷ past)) (inserts past) (inserted_by (length past) (inserted_thing e.what))
    ∙ ap (λ (xs : List Inserted). xs ++ filter (waits_in (e ∷ past)) (inserted_by (length past) (inserted_thing e.what)))
    (kept_on e past (inserts past) (inserts_below past))
    ∙ ap (λ (xs : List Inserted). filter (kept_by (change_in e.what)) (waiting_inserts past) ++ xs)
    (new_waits e past (inserted_thing e.what) ∙ ap (inserted_by (length past)) (inserts_are e.what) ∙ added (change_in e.what) (length past))
