-- In a run an insert of an APC is pending exactly where its event made it and no later one uses it up.
use Rattle.std.proofs.Common.{ap, arith, inl, inr, subst, sym, ◌∙◌}
use Rattle.std.proofs.lemmas.Bool.{both_ways, eq-eqb, eqb-true}
use Rattle.std.specs.List.{Contains}
use Rattle.std.specs.Prelude.{Bool, List, None, Option, Some, [], false, if◌then◌else◌, length, not, refl, true, ℕ, ◌&&◌, ◌<◌, ◌==◌, ◌∷◌, ◌↔◌, ◌≡◌}
use Rattle.nt_event.specs.declared.commands.Command.TheVariants.{InsertApc, Queue, RemoveApc}
use Rattle.nt_event.specs.declared.commands.Reply.TheVariants.{Yes}
use Rattle.nt_event.specs.declared.events.Begun.TheVariants.{Apc}
use Rattle.nt_event.specs.declared.events.Event.{Event}
use Rattle.nt_event.specs.declared.events.What.{What}
use Rattle.nt_event.specs.declared.events.What.TheVariants.{Begin, Call, Fire, Flush}
use Rattle.nt_event.specs.declared.inserts.Pick.{Pick}
use Rattle.nt_event.specs.declared.numbers.ApcNo.{ApcNo}
use Rattle.nt_event.specs.declared.numbers.ThreadNo.{ThreadNo}
use Rattle.nt_event.specs.declared.numbers.DpcNo.{DpcNo}
use Rattle.nt_event.specs.declared.scripts.Script.{Script}
use Rattle.nt_event.specs.Apcs.{is_of_apc}
use Rattle.nt_event.specs.Fate.{ApcThing, DpcThing, Thing, inserted_thing, uses_up}
use Rattle.nt_event.specs.Routines.{owner_of}
use Rattle.nt_event.specs.Script.{has_thread}
use Rattle.nt_event.specs.Step.{IsRun}
use Rattle.nt_event.specs.Waits.{facts, is_of_thread, new_pick}
use Rattle.nt_laws.specs.Fates.{ApcIsPending, NamesPending}
use Rattle.nt_readings.specs.Inserts.{IsApcInsertedAt, NoneUsesUp}
use Rattle.nt_laws.proofs.Fates.Apcs.{at_most_one_apc}
use Rattle.nt_laws.proofs.Fates.Deliveries.{deliveries_name_pending_inserts}
use Rattle.nt_event.proofs.Elements.{contains_here, contains_kept, contains_none, contains_there}
use Rattle.nt_laws.proofs.Fates.Picks.{PutsPick, made_picks, named_picks, picks_after, picks_kept, picks_move, without_pick}
use Rattle.nt_laws.proofs.Fates.Waiting.{put_number, unused_apc}
use Rattle.nt_readings.proofs.Pending.{none_yet}

abbrev pub ApcReads : ApcNo → ℕ → List Event → Type 0
ApcReads a n past = IsApcInsertedAt a n past × NoneUsesUp (ApcThing a) n past

-- an event that puts an insert of an APC at a thread inserts that APC as a thing
put_thing : (s : Script) (t : ThreadNo) (n : ℕ) (a : ApcNo) (w : What) (x : Pick) → PutsPick s t n w x → x.apc ≡ a → inserted_thing w ≡ Some (ApcThing a)
put_thing s t n a (Call f (InsertApc b) Yes) x h i =
    ap (λ (b : ApcNo). Some (ApcThing b)) (ap (λ (x : Pick). x.apc) (sym h.1) ∙ i)
put_thing s t n a w x h i = absurd h

-- in a run a pending insert of an APC was made by the event of its number and not used up since
picks_read : (s : Script) (limit : ℕ) (a : ApcNo) (past : List Event) (x : Pick) → IsRun s limit past → Contains (facts s (owner_of s a) past).apcs.pending x →
    x.apc ≡ a → ApcReads a x.number past
picks_read s limit a [] x r h i = contains_none x h
picks_read s limit a (e ∷ past) x r h i =
    let after : Contains (picks_after s (owner_of s a) (length past) (is_of_thread s (owner_of s a) e) e.what
    (facts s (owner_of s a) past).apcs.pending) x = subst (λ (xs : List Pick). Contains xs x) (picks_move s (owner_of s a) e past) h in
    elim (picks_kept s (owner_of s a) (length past) (is_of_thread s (owner_of s a) e) e.what (facts s (owner_of s a) past).apcs.pending x after) [
      | inl put ↦ subst (λ (n : ℕ). ApcReads a n (e ∷ past)) (put_number s (owner_of s a) (length past) e.what x put) (
        inl (refl, put_thing s (owner_of s a) (length past) a e.what x put i),
        (λ l. absurd (omega (arith, l)), none_yet (ApcThing a) (length past) past (omega arith)),
      )
      | inr there ↦ let ih = picks_read s limit a past x r.1 there i in (inr ih.0, (λ l. unused_apc s limit a e past x r after i, ih.1))
    ]

-- ---- what was inserted and not used up is pending

-- an insert of an APC of another number passes the test for not being of this APC
not_of : (b : ApcNo) (x : Pick) → (x.apc.0 == b.0) ≡ false → not (is_of_apc b x) ≡ true
not_of b x h = rw h refl

-- a delivery of another insert doesn't take this one
differs : (s : Script) (limit : ℕ) (a b : ApcNo) (past : List Event) (x : Pick) (from : ℕ) → IsRun s limit past → has_thread s (owner_of s a) ≡ true →
    Contains (facts s (owner_of s a) past).apcs.pending x → x.apc ≡ a → ApcIsPending s (owner_of s b) b from past → ((b.0 == a.0) && (from == x.number))
    ≡ false → (x.apc.0 == b.0) ≡ false
differs s limit a b past x from r has c i k u = go (x.apc.0 == b.0) refl
  where
    go : (d : Bool) → (x.apc.0 == b.0) ≡ d → d ≡ false
    go false q = refl
    go true q =
        let same : b.0 ≡ a.0 = sym (eqb-true x.apc.0 b.0 q) ∙ ap (λ (a : ApcNo). a.0) i in
        let it : b ≡ a = ap (λ (n : ℕ). record { 0 = n }) same in
        let number : from ≡ x.number = (at_most_one_apc s limit a past r has (owner_of s b) (owner_of s a) from x.number (k.0, k.1, k.2 ∙ it, k.3)
        (x, c, i, refl)).1 in
        absurd (both_ways ((b.0 == a.0) && (from == x.number)) u (rw (eq-eqb b.0 a.0 same, eq-eqb from x.number number) refl))

-- a pending insert of an APC stays after a call, of whichever thread, that doesn't use it up
named_stays : (s : Script) (a : ApcNo) (t : ThreadNo) (n : ℕ) (w : What) (xs : List Pick) (x : Pick) → Contains xs x → x.apc ≡ a →
    uses_up (ApcThing a) x.number w ≡ false → Contains (named_picks s t n w xs) x
named_stays s a t n (Call f (InsertApc b) Yes) xs x c i u = go ((owner_of s b).0 == t.0)
  where
    go : (d : Bool) → Contains (if d then (new_pick s b n ∷ xs) else xs) x
    go true = contains_there (new_pick s b n) xs x c
    go false = c
named_stays s a t n (Call f (RemoveApc b) Yes) xs x c i u = go ((owner_of s b).0 == t.0)
  where
    other : (d : Bool) → (x.apc.0 == b.0) ≡ d → d ≡ false
    other false q = refl
    other true q =
        absurd (both_ways (b.0 == a.0) u (eq-eqb b.0 a.0 (sym (eqb-true x.apc.0 b.0 q) ∙ ap (λ (a : ApcNo). a.0) i)))

    go : (d : Bool) → Contains (if d then without_pick b xs else xs) x
    go true = contains_kept (λ x. not (is_of_apc b x)) xs x c (not_of b x (other (x.apc.0 == b.0) refl))
    go false = c
named_stays s a t n w xs x c i u = c

-- in a run a pending insert of an APC stays pending after an event that doesn't use it up
pick_stays : (s : Script) (limit : ℕ) (a : ApcNo) (e : Event) (past : List Event) (x : Pick) → IsRun s limit (e ∷ past) → has_thread s (owner_of s a) ≡ true →
    Contains (facts s (owner_of s a) past).apcs.pending x → x.apc ≡ a → uses_up (ApcThing a) x.number e.what ≡ false →
    Contains (facts s (owner_of s a) (e ∷ past)).apcs.pending x
pick_stays s limit a e past x r has c i u =
    subst (λ (xs : List Pick). Contains xs x) (sym (picks_move s (owner_of s a) e past))
    (named_stays s a (owner_of s a) (length past) e.what
    (if is_of_thread s (owner_of s a) e then made_picks e.what (facts s (owner_of s a) past).apcs.pending
    else (facts s (owner_of s a) past).apcs.pending) x (mine (is_of_thread s (owner_of s a) e)) i u)
  where
    names : (w : What) → e.what ≡ w → NamesPending s e.cpu w past
    names w k = subst (λ (w : What). NamesPending s e.cpu w past) k (deliveries_name_pending_inserts s limit e past r)

    made : (w : What) → e.what ≡ w → uses_up (ApcThing a) x.number w ≡ false → Contains (made_picks w (facts s (owner_of s a) past).apcs.pending) x
    made (Begin (Apc b) from) k u =
        contains_kept (λ x. not (is_of_apc b x)) (facts s (owner_of s a) past).apcs.pending x c
        (not_of b x (differs s limit a b past x from r.1 has c i (names (Begin (Apc b) from) k).1 u))
    made (Flush b from) k u =
        contains_kept (λ x. not (is_of_apc b x)) (facts s (owner_of s a) past).apcs.pending x c
        (not_of b x (differs s limit a b past x from r.1 has c i (names (Flush b from) k).1 u))
    made w k u = c

    mine : (m : Bool) → Contains (if m then made_picks e.what (facts s (owner_of s a) past).apcs.pending else (facts s (owner_of s a) past).apcs.pending) x
    mine true = made e.what refl u
    mine false = c

-- an event that inserted an APC has a number below the length of the history
apc_before : (a : ApcNo) (n : ℕ) (past : List Event) → IsApcInsertedAt a n past → n < length past
apc_before a n [] h = absurd h
apc_before a n (e ∷ past) (inl h) = let k = h.0 in omega (arith, k)
apc_before a n (e ∷ past) (inr h) = let k = apc_before a n past h in omega (arith, k)

-- a DPC as a thing isn't an APC as a thing
dpc_isnt_apc : (d : DpcNo) (a : ApcNo) → ◌≡◌ {A = Option Thing} (Some (DpcThing d)) (Some (ApcThing a)) → ⊥
dpc_isnt_apc d a h = cc

-- an event that inserts nothing doesn't insert some thing
none_isnt_some : (x : Thing) → ◌≡◌ {A = Option Thing} None (Some x) → ⊥
none_isnt_some x h = cc

-- the event that inserts the object puts it at its thread
new_pending : (s : Script) (a : ApcNo) (n : ℕ) (m : Bool) (w : What) (xs : List Pick) → inserted_thing w ≡ Some (ApcThing a) →
    Contains (picks_after s (owner_of s a) n m w xs) (new_pick s a n)
new_pending s a n m (Call f (InsertApc b) Yes) xs h =
    subst (λ (c : ApcNo). Contains (picks_after s (owner_of s c) n m (Call f (InsertApc b) Yes) xs) (new_pick s c n)) (same_apc b a h) here
  where
    same_apc : (b a : ApcNo) → ◌≡◌ {A = Option Thing} (Some (ApcThing b)) (Some (ApcThing a)) → b ≡ a
    same_apc b a h = cc

    here : Contains (picks_after s (owner_of s b) n m (Call f (InsertApc b) Yes) xs) (new_pick s b n)
    here =
        rw (eq-eqb (owner_of s b).0 (owner_of s b).0 refl) (contains_here (new_pick s b n) (if m then made_picks (Call f (InsertApc b) Yes) xs else xs))
new_pending s a n m (Call f (Queue d) Yes) xs h = absurd (dpc_isnt_apc d a h)
new_pending s a n m (Fire d Yes) xs h = absurd (dpc_isnt_apc d a h)
new_pending s a n m w xs h = absurd (none_isnt_some (ApcThing a) h)

-- in a run an insert of an APC that was made and not used up since is pending at its owner
inserted_pending : (s : Script) (limit : ℕ) (a : ApcNo) (past : List Event) → IsRun s limit past → has_thread s (owner_of s a) ≡ true → (n : ℕ) →
    IsApcInsertedAt a n past → NoneUsesUp (ApcThing a) n past → ApcIsPending s (owner_of s a) a n past
inserted_pending s limit a [] r has n h u = absurd h
inserted_pending s limit a (e ∷ past) r has n (inl h) u = (
  new_pick s a (length past),
  subst (λ (xs : List Pick). Contains xs (new_pick s a (length past))) (sym (picks_move s (owner_of s a) e past))
      (new_pending s a (length past) (is_of_thread s (owner_of s a) e) e.what (facts s (owner_of s a) past).apcs.pending h.1),
  refl,
  sym h.0,
)
inserted_pending s limit a (e ∷ past) r has n (inr h) u =
    let ih = inserted_pending s limit a past r.1 has n h u.1 in (
      ih.0,
      pick_stays s limit a e past ih.0 r has ih.1 ih.2
          (subst (λ (n : ℕ). uses_up (ApcThing a) n e.what ≡ false) (sym ih.3) (u.0 (apc_before a n past h))),
      ih.2,
      ih.3,
    )

-- in a run an insert of an APC is pending at its owner exactly where it was made and not used up later
pub pending_apc_reads : (s : Script) (limit : ℕ) (a : ApcNo) (past : List Event) → IsRun s limit past → has_thread s (owner_of s a) ≡ true → (n : ℕ) →
    ApcIsPending s (owner_of s a) a n past ↔ ApcReads a n past
pending_apc_reads s limit a past r has n =
    (λ k. subst (λ (n : ℕ). ApcReads a n past) k.3 (picks_read s limit a past k.0 r k.1 k.2), λ h. inserted_pending s limit a past r has n h.0 h.1)
