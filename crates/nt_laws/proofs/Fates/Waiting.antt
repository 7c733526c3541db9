-- In a run what is pending waits: no event up to then used it up.
use Rattle.std.proofs.Common.{ap, arith, inl, inr, subst, sym, ◌∙◌}
use Rattle.std.proofs.lemmas.Bool.{eq-eqb, eqb-true, le-ltb}
use Rattle.std.specs.List.{Contains}
use Rattle.std.specs.Prelude.{Bool, List, None, Option, Some, [], false, if◌then◌else◌, length, nat_lt, not, refl, true, ℕ, ◌&&◌, ◌<◌, ◌==◌, ◌∷◌, ◌≡◌, ◌≤◌}
use Rattle.nt_event.specs.declared.commands.Command.TheVariants.{InsertApc, RemoveApc, Unqueue}
use Rattle.nt_event.specs.declared.commands.Reply.TheVariants.{Yes}
use Rattle.nt_event.specs.declared.events.Begun.TheVariants.{Apc, Dpc, Threaded}
use Rattle.nt_event.specs.declared.events.Event.{Event}
use Rattle.nt_event.specs.declared.events.What.{What}
use Rattle.nt_event.specs.declared.events.What.TheVariants.{Begin, Call, Flush}
use Rattle.nt_event.specs.declared.inserts.Pick.{Pick}
use Rattle.nt_event.specs.declared.inserts.Standing.{Standing}
use Rattle.nt_event.specs.declared.numbers.ApcNo.{ApcNo}
use Rattle.nt_event.specs.declared.numbers.DpcNo.{DpcNo}
use Rattle.nt_event.specs.declared.numbers.ThreadNo.{ThreadNo}
use Rattle.nt_event.specs.declared.scripts.Script.{Script}
use Rattle.nt_event.specs.Apcs.{is_of_apc}
use Rattle.nt_event.specs.Fate.{ApcThing, DpcThing, StillWaits, Thing, fate_of, uses_up}
use Rattle.nt_event.specs.Frames.{running}
use Rattle.nt_event.specs.Objects.{inserted_dpc, is_dpc, queue_for, standing, target_of, used_up_dpc}
use Rattle.nt_event.specs.Routines.{cpu_of, owner_of}
use Rattle.nt_event.specs.Step.{IsRun, thread_field}
use Rattle.nt_event.specs.Waits.{facts, is_of_thread}
use Rattle.nt_event.specs.Numbers.{is_thread}
use Rattle.nt_runs.proofs.Running.{running_here, thread_named}
use Rattle.nt_laws.specs.Fates.{NamesPending}
use Rattle.nt_laws.proofs.Fates.Deliveries.{deliveries_name_pending_inserts}
use Rattle.nt_event.proofs.Elements.{contains_none, kept_contains}
use Rattle.nt_laws.proofs.Fates.Picks.{PutsPick, made_picks, named_picks, picks_after, picks_kept, picks_move, without_pick}

-- ---- fates

-- a waiting insert still waits after an event that doesn't use it up as an earlier one
pub waits_on : (thing : Thing) (n : ℕ) (e : Event) (past : List Event) → fate_of thing n past ≡ StillWaits → (nat_lt n (length past) && uses_up thing n e.what)
    ≡ false → fate_of thing n (e ∷ past) ≡ StillWaits
waits_on thing n e past h k = rw (h, k) refl

-- a conjunction is false if its first part is false
pub no_test : (a b : Bool) → a ≡ false → (a && b) ≡ false
no_test true b h = cc
no_test false b h = refl

-- a conjunction is false if its second part is false
no_second : (a b : Bool) → b ≡ false → (a && b) ≡ false
no_second true b h = h
no_second false b h = refl

-- nothing up to then uses up an insert at a number that is not yet reached
pub later_waits : (thing : Thing) (n : ℕ) (past : List Event) → length past ≤ n → fate_of thing n past ≡ StillWaits
later_waits thing n [] h = refl
later_waits thing n (e ∷ past) h =
    let l : length past ≤ n = omega (arith, h) in
    waits_on thing n e past (later_waits thing n past l) (no_test (nat_lt n (length past)) (uses_up thing n e.what) (le-ltb n (length past) l))

abbrev pub Waits : Thing → ℕ → List Event → Type 0
Waits thing n past = (n < length past) × (fate_of thing n past ≡ StillWaits)

-- an insert made by the newest event waits
pub new_waits : (thing : Thing) (e : Event) (past : List Event) → Waits thing (length past) (e ∷ past)
new_waits thing e past = (
  omega arith,
  waits_on thing (length past) e past (later_waits thing (length past) past (omega arith))
      (no_test (nat_lt (length past) (length past)) _ (le-ltb (length past) (length past) (omega arith))),
)

-- an insert that waits goes on waiting after an event that doesn't use it up
pub still_waits_on : (thing : Thing) (n : ℕ) (e : Event) (past : List Event) → Waits thing n past → uses_up thing n e.what ≡ false → Waits thing n (e ∷ past)
still_waits_on thing n e past w h =
    let l = w.0 in
    (omega (arith, l), waits_on thing n e past w.1 (no_second (nat_lt n (length past)) (uses_up thing n e.what) h))

-- ---- DPC objects

-- an event that uses up no insert of a DPC uses up none of its numbers
pub unused_dpc : (d : DpcNo) (n : ℕ) (w : What) → is_dpc (used_up_dpc w) d ≡ false → uses_up (DpcThing d) n w ≡ false
unused_dpc d n (Begin (Dpc x) from) h = no_test (x.0 == d.0) (from == n) h
unused_dpc d n (Begin (Threaded x) from) h = no_test (x.0 == d.0) (from == n) h
unused_dpc d n (Call f (Unqueue x) Yes) h = h
unused_dpc d n w h = refl

-- what stands is an earlier insert that waits
pub standing_waits : (d : DpcNo) (past : List Event) (x : Standing) → standing d past ≡ Some x → Waits (DpcThing d) x.number past
standing_waits d [] x h = cc
standing_waits d (e ∷ past) x h =
    go (is_dpc (inserted_dpc e.what) d) (is_dpc (used_up_dpc e.what) d) refl refl h (λ k. standing_waits d past x k)
  where
    go : (b c : Bool) → is_dpc (inserted_dpc e.what) d ≡ b → is_dpc (used_up_dpc e.what) d ≡ c →
        (if b then Some (record { queue = queue_for (target_of d past) e.cpu; number = length past }) else (if c then None else standing d past)) ≡ Some x →
        (standing d past ≡ Some x → Waits (DpcThing d) x.number past) → Waits (DpcThing d) x.number (e ∷ past)
    go true c i u k ih = subst (λ (n : ℕ). Waits (DpcThing d) n (e ∷ past)) (same_number _ x k) (new_waits (DpcThing d) e past)
      where
        same_number : (y z : Standing) → ◌≡◌ {A = Option Standing} (Some y) (Some z) → y.number ≡ z.number
        same_number y z q = let s : y ≡ z = cc in ap (λ (y : Standing). y.number) s
    go false true i u k ih = cc
    go false false i u k ih = still_waits_on (DpcThing d) x.number e past (ih k) (unused_dpc d x.number e.what u)

-- ---- APC objects

-- the running thread makes the event that delivers its APC
its_own : (s : Script) (limit : ℕ) (t : ThreadNo) (e : Event) (past : List Event) (w : What) → IsRun s limit (e ∷ past) → e.what ≡ w →
    thread_field w (running e.cpu past) ≡ running e.cpu past → running e.cpu past ≡ Some t → is_of_thread s t e ≡ true
its_own s limit t e past w r k field run =
    let here = running_here s limit e.cpu t past r.1 run in
    let named : e.thread ≡ Some t = thread_named s limit e past r.0 ∙ (ap (λ (w : What). thread_field w (running e.cpu past)) k ∙ (field ∙ run)) in
    both_true (e.cpu.0 == (cpu_of s t).0) (is_thread e.thread t) (eq-eqb e.cpu.0 (cpu_of s t).0 (sym here.1))
    (ap (λ o. is_thread o t) named ∙ eq-eqb t.0 t.0 refl)
  where
    both_true : (a b : Bool) → a ≡ true → b ≡ true → (a && b) ≡ true
    both_true true b h k = k
    both_true false b h k = cc

-- no pick of an APC is left where that APC's picks are dropped
not_without : {A : Type 0} (a b : ApcNo) (xs : List Pick) (x : Pick) → Contains (without_pick b xs) x → x.apc ≡ a → b.0 ≡ a.0 → A
not_without a b xs x h i e =
    let k : not (x.apc.0 == b.0) ≡ true = (kept_contains (λ x. not (is_of_apc b x)) xs x h).1 in
    let j : (x.apc.0 == b.0) ≡ true = eq-eqb x.apc.0 b.0 (ap (λ (a : ApcNo). a.0) i ∙ sym e) in
    cc

-- what is pending after an event was not used up by it
pub unused_apc : (s : Script) (limit : ℕ) (a : ApcNo) (e : Event) (past : List Event) (x : Pick) → IsRun s limit (e ∷ past) →
    Contains (picks_after s (owner_of s a) (length past) (is_of_thread s (owner_of s a) e) e.what (facts s (owner_of s a) past).apcs.pending) x → x.apc ≡ a →
    uses_up (ApcThing a) x.number e.what ≡ false
unused_apc s limit a e past x r h i = go e.what refl h
  where
    t : ThreadNo
    t = owner_of s a

    names : (w : What) → e.what ≡ w → NamesPending s e.cpu w past
    names w k = subst (λ (w : What). NamesPending s e.cpu w past) k (deliveries_name_pending_inserts s limit e past r)

    mine : (w : What) (b : ApcNo) → e.what ≡ w → thread_field w (running e.cpu past) ≡ running e.cpu past → running e.cpu past ≡ Some (owner_of s b) → b.0
        ≡ a.0 → is_of_thread s (owner_of s a) e ≡ true
    mine w b k field run same =
        its_own s limit (owner_of s a) e past w r k field (run ∙ ap (λ (n : ℕ). Some (owner_of s (record { 0 = n }))) same)

    begun : (b : ApcNo) (from : ℕ) (c : Bool) → (b.0 == a.0) ≡ c → e.what ≡ Begin (Apc b) from →
        Contains (picks_after s (owner_of s a) (length past) (is_of_thread s (owner_of s a) e) (Begin (Apc b) from)
        (facts s (owner_of s a) past).apcs.pending) x → (c && (from == x.number)) ≡ false
    begun b from false q k h = refl
    begun b from true q k h =
        let same : b.0 ≡ a.0 = eqb-true b.0 a.0 q in
        let own : is_of_thread s (owner_of s a) e ≡ true = mine (Begin (Apc b) from) b k refl (names (Begin (Apc b) from) k).0 same in
        not_without a b (facts s (owner_of s a) past).apcs.pending x
        (subst (λ (m : Bool). Contains (picks_after s (owner_of s a) (length past) m (Begin (Apc b) from)
        (facts s (owner_of s a) past).apcs.pending) x) own h) i same

    flushed : (b : ApcNo) (from : ℕ) (c : Bool) → (b.0 == a.0) ≡ c → e.what ≡ Flush b from →
        Contains (picks_after s (owner_of s a) (length past) (is_of_thread s (owner_of s a) e) (Flush b from) (facts s (owner_of s a) past).apcs.pending) x →
        (c && (from == x.number)) ≡ false
    flushed b from false q k h = refl
    flushed b from true q k h =
        let same : b.0 ≡ a.0 = eqb-true b.0 a.0 q in
        let own : is_of_thread s (owner_of s a) e ≡ true = mine (Flush b from) b k refl (names (Flush b from) k).0 same in
        not_without a b (facts s (owner_of s a) past).apcs.pending x
        (subst (λ (m : Bool). Contains (picks_after s (owner_of s a) (length past) m (Flush b from)
        (facts s (owner_of s a) past).apcs.pending) x) own h) i same

    removed : (f : ℕ) (b : ApcNo) (c : Bool) (xs : List Pick) → (b.0 == a.0) ≡ c →
        Contains (named_picks s (owner_of s a) (length past) (Call f (RemoveApc b) Yes) xs) x → c ≡ false
    removed f b false xs q h = refl
    removed f b true xs q h =
        let same : b.0 ≡ a.0 = eqb-true b.0 a.0 q in
        let owner : ((owner_of s b).0 == (owner_of s a).0)
        ≡ true = eq-eqb (owner_of s b).0 (owner_of s a).0 (ap (λ (n : ℕ). (owner_of s (record { 0 = n })).0) same) in
        not_without a b xs x (subst (λ (c : Bool). Contains (if c then without_pick b xs else xs) x) owner h) i same

    go : (w : What) → e.what ≡ w → Contains (picks_after s (owner_of s a) (length past) (is_of_thread s (owner_of s a) e) w
        (facts s (owner_of s a) past).apcs.pending) x → uses_up (ApcThing a) x.number w ≡ false
    go (Begin (Apc b) from) k h = begun b from (b.0 == a.0) refl k h
    go (Flush b from) k h = flushed b from (b.0 == a.0) refl k h
    go (Call f (RemoveApc b) Yes) k h =
        removed f b (b.0 == a.0) (if is_of_thread s (owner_of s a) e then made_picks (Call f (RemoveApc b) Yes) (facts s (owner_of s a) past).apcs.pending
        else (facts s (owner_of s a) past).apcs.pending) refl h
    go w k h = refl

-- an APC that an event inserts at a thread has the event's number
pub put_number : (s : Script) (t : ThreadNo) (n : ℕ) (w : What) (x : Pick) → PutsPick s t n w x → n ≡ x.number
put_number s t n (Call f (InsertApc a) Yes) x h = ap (λ (x : Pick). x.number) (sym h.1)
put_number s t n w x h = absurd h

-- what is pending at its thread is an earlier insert that waits
pub picks_wait : (s : Script) (limit : ℕ) (a : ApcNo) (past : List Event) (x : Pick) → IsRun s limit past →
    Contains (facts s (owner_of s a) past).apcs.pending x → x.apc ≡ a → Waits (ApcThing a) x.number past
picks_wait s limit a [] x r h i = contains_none x h
picks_wait s limit a (e ∷ past) x r h i =
    let after : Contains (picks_after s (owner_of s a) (length past) (is_of_thread s (owner_of s a) e) e.what
    (facts s (owner_of s a) past).apcs.pending) x = subst (λ (xs : List Pick). Contains xs x) (picks_move s (owner_of s a) e past) h in
    elim (picks_kept s (owner_of s a) (length past) (is_of_thread s (owner_of s a) e) e.what (facts s (owner_of s a) past).apcs.pending x after) [
      | inl put ↦ subst (λ (n : ℕ). Waits (ApcThing a) n (e ∷ past)) (put_number s (owner_of s a) (length past) e.what x put) (new_waits (ApcThing a) e past)
      | inr there ↦ still_waits_on (ApcThing a) x.number e past (picks_wait s limit a past x r.1 there i) (unused_apc s limit a e past x r after i)
    ]
