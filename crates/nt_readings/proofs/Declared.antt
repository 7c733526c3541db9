-- In a run of a script that fits, commands and timers name objects of the script, so the laws over inserts hold of every object.
use Rattle.std.proofs.Common.{ap, inl, inr, subst, sym, ◌∙◌}
use Rattle.std.proofs.lemmas.Bool.{both_ways}
use Rattle.std.proofs.lemmas.List.Folds.{list_all_at}
use Rattle.std.proofs.lemmas.Option.{get_or_from_slice_get, slice_get_within}
use Rattle.std.specs.List.{Contains, list_all, slice_get}
use Rattle.std.specs.Option.{option_map_or}
use Rattle.std.specs.Prelude.{Bool, List, None, Option, Some, [], false, get_or, if◌then◌else◌, length, option_and_then, refl, true, ℕ, ◌&&◌, ◌==◌, ◌∷◌, ◌↔◌}
use Rattle.std.specs.Prelude.{◌≡◌, ◌⊎◌}
use Rattle.nt_event.specs.declared.commands.Command.{Command}
use Rattle.nt_event.specs.declared.commands.Command.TheVariants.{InsertApc, Queue}
use Rattle.nt_event.specs.declared.commands.Reply.{Reply}
use Rattle.nt_event.specs.declared.commands.Reply.TheVariants.{Yes}
use Rattle.nt_event.specs.declared.commands.TimerKey.TheVariants.{Delay as OfDelay, Timer as OfTimer}
use Rattle.nt_event.specs.declared.events.Event.{Event}
use Rattle.nt_event.specs.declared.events.What.{What}
use Rattle.nt_event.specs.declared.events.What.TheVariants.{Call, Expire, Fire}
use Rattle.nt_event.specs.Frame.{Frame}
use Rattle.nt_event.specs.declared.inserts.Insert.{Insert}
use Rattle.nt_event.specs.declared.inserts.Pick.{Pick}
use Rattle.nt_event.specs.declared.numbers.ApcNo.{ApcNo}
use Rattle.nt_event.specs.declared.numbers.CpuNo.{CpuNo}
use Rattle.nt_event.specs.declared.numbers.DpcNo.{DpcNo}
use Rattle.nt_event.specs.declared.numbers.RoutineNo.{RoutineNo}
use Rattle.nt_event.specs.declared.numbers.ThreadNo.{ThreadNo}
use Rattle.nt_event.specs.declared.numbers.TimerNo.{TimerNo}
use Rattle.nt_event.specs.declared.scripts.Routine.{Routine}
use Rattle.nt_event.specs.declared.scripts.Script.{Script}
use Rattle.nt_event.specs.declared.scripts.TimerDecl.{TimerDecl}
use Rattle.nt_event.specs.Fate.{ApcThing, DpcThing, StillWaits, Thing, fate_of, inserted_thing}
use Rattle.nt_event.specs.Lanes.{lanes_at}
use Rattle.nt_event.specs.Objects.{ObjectState, inserted_dpc, object_in, objects_at, queue_for, used_up_dpc}
use Rattle.nt_event.specs.Own.{fire, fire_after, own_of}
use Rattle.nt_event.specs.Queues.{add_insert, drop_insert, is_queue, left_queue, new_insert, pending, without_dpc}
use Rattle.nt_event.specs.Routines.{commands_of, dpc_of, next_command, owner_of, routine_of}
use Rattle.nt_event.specs.Script.{apc_fits, command_fits, dpc_fits, fits, has_dpc, has_thread, isr_fits, isrs_differ, meets_limits, routine_fits, thread_fits}
use Rattle.nt_event.specs.Script.{timer_fits, where_given}
use Rattle.nt_event.specs.Step.{IsRun}
use Rattle.nt_event.specs.Waits.{facts, is_of_thread}
use Rattle.nt_event.specs.Numbers.{is_of}
use Rattle.nt_runs.proofs.Known.{Known, KnownCall, legal_known}
use Rattle.nt_event.proofs.Options.{both}
use Rattle.nt_runs.proofs.Turns.{is_next}
use Rattle.nt_laws.specs.Fates.{ApcIsPending, DpcIsPending}
use Rattle.nt_readings.specs.Inserts.{IsApcInsertedAt, IsInsertedAt, NoneUsesUp}
use Rattle.nt_readings.specs.Declared.{HoldsOfEach}
use Rattle.nt_readings.specs.Fates.{IsInsert, IsPending, is_known}
use Rattle.nt_laws.proofs.Fates.Agree.{at_most_one}
use Rattle.nt_laws.proofs.Fates.Apcs.{at_most_one_apc}
use Rattle.nt_event.proofs.Elements.{contains_cases, contains_none, kept_contains}
use Rattle.nt_laws.proofs.Fates.Owners.{apcs_have_their_threads}
use Rattle.nt_laws.proofs.Fates.Picks.{PutsPick, picks_after, picks_kept, picks_move}
use Rattle.nt_readings.proofs.Apcs.{pending_apc_reads}
use Rattle.nt_readings.proofs.Fates.{at_apc, at_insert, dpc_thing, waiting_is_pending}
use Rattle.nt_readings.proofs.Pending.{pending_reads}

-- ---- what fits

-- each element of a list all of whose elements pass the test
all_get : {X : Type 0} (test : X → Bool) (xs : List X) (i : ℕ) (x : X) → list_all test xs ≡ true → slice_get xs i ≡ Some x → test x ≡ true
all_get test xs i x h k =
    ap test (sym (get_or_from_slice_get xs i x x k)) ∙ go (test (get_or xs i x)) (list_all_at test xs i x (slice_get_within xs i x k))
  where
    go : (b : Bool) → (b ≡ false → list_all test xs ≡ false) → b ≡ true
    go true f = refl
    go false f = absurd (both_ways (list_all test xs) (f refl) h)

abbrev before_timers : Script → Bool
before_timers s = meets_limits s && list_all (isr_fits s) s.isrs && isrs_differ s.isrs && list_all (dpc_fits s) s.dpcs

abbrev before_threads : Script → Bool
before_threads s = before_timers s && list_all (timer_fits s) s.timers

abbrev before_apcs : Script → Bool
before_apcs s = before_threads s && list_all (thread_fits s) s.threads

abbrev before_routines : Script → Bool
before_routines s = before_apcs s && list_all (apc_fits s) s.apcs

-- each routine of a script that fits fits itself
routines_fit : (s : Script) → fits s ≡ true → list_all (routine_fits s) s.routines ≡ true
routines_fit s h = (both (before_routines s) (list_all (routine_fits s) s.routines) h).1

-- each timer of a script that fits fits itself
timers_fit : (s : Script) → fits s ≡ true → list_all (timer_fits s) s.timers ≡ true
timers_fit s h =
    let a = (both (before_routines s) (list_all (routine_fits s) s.routines) h).0 in
    let b = (both (before_apcs s) (list_all (apc_fits s) s.apcs) a).0 in
    let c = (both (before_threads s) (list_all (thread_fits s) s.threads) b).0 in
    (both (before_timers s) (list_all (timer_fits s) s.timers) c).1

-- ---- commands

-- each command of a routine of a script that fits names only objects of the script
routine_commands : (s : Script) (i : ℕ) (o : Option Routine) (r : RoutineNo) (c : Command) → fits s ≡ true → slice_get s.routines r.0 ≡ o →
    slice_get (option_map_or (λ x. x.commands) o []) i ≡ Some c → command_fits s c ≡ true
routine_commands s i None r c h q k = all_get (command_fits s) [] i c refl k
routine_commands s i (Some x) r c h q k =
    all_get (command_fits s) x.commands i c (all_get (routine_fits s) s.routines r.0 x (routines_fit s h) q) k

-- each command of an optional routine of a script that fits names only objects of the script
commands_fit : (s : Script) (i : ℕ) (o : Option RoutineNo) (c : Command) → fits s ≡ true → slice_get (commands_of s o) i ≡ Some c → command_fits s c ≡ true
commands_fit s i None c h k = all_get (command_fits s) [] i c refl k
commands_fit s i (Some r) c h k = routine_commands s i (slice_get s.routines r.0) r c h refl k

-- the next command of a frame, in a script that fits, names only objects of the script
next_fits : (s : Script) (p : CpuNo) (f : Frame) (c : Command) → fits s ≡ true → next_command s p f ≡ Some c → command_fits s c ≡ true
next_fits s p f c h k = go f.leaving k
  where
    go : (b : Bool) → (if b then None else slice_get (commands_of s (routine_of s p f.body f.kernel_phase)) f.place) ≡ Some c → command_fits s c ≡ true
    go true q = cc
    go false q = commands_fit s f.place (routine_of s p f.body f.kernel_phase) c h q

-- in a run of a script that fits, each command that is called names only objects of the script
pub calls_fit : (s : Script) (limit : ℕ) (e : Event) (past : List Event) (f : ℕ) (c : Command) (y : Reply) → IsRun s limit (e ∷ past) → fits s ≡ true → e.what
    ≡ Call f c y → command_fits s c ≡ true
calls_fit s limit e past f c y r h k =
    let known : KnownCall s e.cpu (own_of s e.cpu past) (lanes_at s past) f c y = subst (Known s e.cpu (own_of s e.cpu past) (lanes_at s past)) k
    (legal_known s limit e past r.0 (ap is_next k)) in
    next_fits s e.cpu known.frame c h known.command

-- ---- expired timers

-- the DPC of a timer of a script that fits is one of the script's
timer_dpc : (s : Script) (t : TimerNo) (d : DpcNo) → fits s ≡ true → dpc_of s t ≡ Some d → has_dpc s d ≡ true
timer_dpc s t d h k = go (slice_get s.timers t.0) refl k
  where
    given : (o : Option DpcNo) → where_given (has_dpc s) o ≡ true → o ≡ Some d → has_dpc s d ≡ true
    given None f q = cc
    given (Some x) f q = let same : x ≡ d = cc in ap (has_dpc s) (sym same) ∙ f

    go : (o : Option TimerDecl) → slice_get s.timers t.0 ≡ o → option_and_then (λ x. x.dpc) o ≡ Some d → has_dpc s d ≡ true
    go None i q = cc
    go (Some x) i q = given x.dpc (all_get (timer_fits s) s.timers t.0 x (timers_fit s h) i) q

-- the DPC that an expired timer has yet to fire, in a script that fits, is one of the script's
fire_known : (s : Script) (p : CpuNo) (past : List Event) (d : DpcNo) → fits s ≡ true → fire s p past ≡ Some d → has_dpc s d ≡ true
fire_known s p [] d h k = cc
fire_known s p (e ∷ past) d h k = go (is_of e p) k (λ q. fire_known s p past d h q)
  where
    after : (w : What) (old : Option DpcNo) → (old ≡ Some d → has_dpc s d ≡ true) → fire_after s w old ≡ Some d → has_dpc s d ≡ true
    after (Expire (OfTimer t) from) old ih q = timer_dpc s t d h q
    after (Expire (OfDelay t) from) old ih q = cc
    after (Fire x y) old ih q = cc
    after w old ih q = ih q

    go : (b : Bool) → (if b then fire_after s e.what (fire s p past) else fire s p past) ≡ Some d → (fire s p past ≡ Some d → has_dpc s d ≡ true) → has_dpc s d
        ≡ true
    go true q ih = after e.what (fire s p past) ih q
    go false q ih = ih q

-- ---- inserts

-- in a run of a script that fits, the thing that the newest event inserts is known to the script
insert_known : (s : Script) (limit : ℕ) (thing : Thing) (e : Event) (past : List Event) → IsRun s limit (e ∷ past) → fits s ≡ true → inserted_thing e.what
    ≡ Some thing → is_known s thing ≡ true
insert_known s limit thing e past r h k = go e.what refl k
  where
    is_it : (x : Thing) → Some x ≡ Some thing → is_known s x ≡ true → is_known s thing ≡ true
    is_it x q f = let same : x ≡ thing = cc in subst (λ (z : Thing). is_known s z ≡ true) same f

    go : (w : What) → e.what ≡ w → inserted_thing w ≡ Some thing → is_known s thing ≡ true
    go (Call f (Queue d) Yes) i q = is_it (DpcThing d) q (calls_fit s limit e past f (Queue d) Yes r h i)
    go (Call f (InsertApc a) Yes) i q =
        is_it (ApcThing a) q (apcs_have_their_threads s a h (calls_fit s limit e past f (InsertApc a) Yes r h i))
    go (Fire d Yes) i q =
        let known : Known s e.cpu (own_of s e.cpu past) (lanes_at s past) (Fire d Yes) = subst (Known s e.cpu (own_of s e.cpu past) (lanes_at s past)) i
        (legal_known s limit e past r.0 (ap is_next i)) in
        is_it (DpcThing d) q (fire_known s e.cpu past d h known.0)
    go w i q = cc

-- in a run of a script that fits, the thing that any event inserted is known to the script
inserts_known : (s : Script) (limit : ℕ) (thing : Thing) (n : ℕ) (past : List Event) → IsRun s limit past → fits s ≡ true → IsInsert thing n past →
    is_known s thing ≡ true
inserts_known s limit thing n [] r h k = absurd k
inserts_known s limit thing n (e ∷ past) r h (inl k) = insert_known s limit thing e past r h k.1
inserts_known s limit thing n (e ∷ past) r h (inr k) = inserts_known s limit thing n past r.1 h k

-- ---- what is pending was inserted

-- what is in a queue after a DPC was dropped from it was in it before
dropped_from : (p by : CpuNo) (w : What) (o : Option DpcNo) (objects : List ObjectState) (xs : List Insert) (x : Insert) →
    Contains (drop_insert p by w o objects xs) x → Contains xs x
dropped_from p by w None objects xs x h = h
dropped_from p by w (Some d) objects xs x h = go (is_queue (left_queue by w (object_in objects d)) p) h
  where
    go : (b : Bool) → Contains (if b then without_dpc d xs else xs) x → Contains xs x
    go true k = (kept_contains _ xs x k).0
    go false k = k

-- what is in a queue after an event added to it is of the DPC added or was in it before
added_from : (s : Script) (p : CpuNo) (n : ℕ) (by : CpuNo) (o : Option DpcNo) (objects : List ObjectState) (xs : List Insert) (x : Insert) →
    Contains (add_insert s p n by o objects xs) x → (o ≡ Some x.dpc) ⊎ Contains xs x
added_from s p n by None objects xs x h = inr h
added_from s p n by (Some d) objects xs x h = go ((queue_for (object_in objects d).target by).0 == p.0) h
  where
    go : (b : Bool) → Contains (if b then (new_insert s d n (object_in objects d) ∷ xs) else xs) x → (Some d ≡ Some x.dpc) ⊎ Contains xs x
    go true k =
        elim (contains_cases (new_insert s d n (object_in objects d)) xs x k) [
          | inl same ↦ inl (ap (λ (x : Insert). Some x.dpc) same)
          | inr there ↦ inr there
        ]
    go false k = inr k

abbrev IsInserted : Thing → List Event → Type 0
IsInserted thing past = (n : ℕ) × IsInsert thing n past

-- a DPC that is pending in a queue was inserted by some event
pending_inserted : (s : Script) (p : CpuNo) (past : List Event) (x : Insert) → Contains (pending s p past) x → IsInserted (DpcThing x.dpc) past
pending_inserted s p [] x h = contains_none x h
pending_inserted s p (e ∷ past) x h =
    go (added_from s p (length past) e.cpu (inserted_dpc e.what) (objects_at s past)
    (drop_insert p e.cpu e.what (used_up_dpc e.what) (objects_at s past) (pending s p past)) x h) (λ k. pending_inserted s p past x k)
  where
    go : (inserted_dpc e.what ≡ Some x.dpc) ⊎ Contains (drop_insert p e.cpu e.what (used_up_dpc e.what) (objects_at s past) (pending s p past)) x →
        (Contains (pending s p past) x → IsInserted (DpcThing x.dpc) past) → IsInserted (DpcThing x.dpc) (e ∷ past)
    go (inl k) ih = (length past, inl (refl, dpc_thing e.what x.dpc k))
    go (inr k) ih =
        let a = ih (dropped_from p e.cpu e.what (used_up_dpc e.what) (objects_at s past) (pending s p past) x k) in
        (a.0, inr a.1)

-- an event that puts an insert at a thread inserts the APC of that insert
put_thing : (s : Script) (t : ThreadNo) (n : ℕ) (w : What) (x : Pick) → PutsPick s t n w x → inserted_thing w ≡ Some (ApcThing x.apc)
put_thing s t n (Call f (InsertApc b) Yes) x h = ap (λ (x : Pick). Some (ApcThing x.apc)) (sym h.1)
put_thing s t n w x h = absurd h

-- an APC that is pending at a thread was inserted by some event
picks_inserted : (s : Script) (t : ThreadNo) (past : List Event) (x : Pick) → Contains (facts s t past).apcs.pending x → IsInserted (ApcThing x.apc) past
picks_inserted s t [] x h = contains_none x h
picks_inserted s t (e ∷ past) x h =
    let after : Contains (picks_after s t (length past) (is_of_thread s t e) e.what (facts s t past).apcs.pending) x = subst
    (λ (xs : List Pick). Contains xs x) (picks_move s t e past) h in
    elim (picks_kept s t (length past) (is_of_thread s t e) e.what (facts s t past).apcs.pending x after) [
      | inl put ↦ (length past, inl (refl, put_thing s t (length past) e.what x put))
      | inr there ↦ let a = picks_inserted s t past x there in (a.0, inr a.1)
    ]

-- in a run of a script that fits, a pending DPC is one of the script's
dpc_known : (s : Script) (limit : ℕ) (p : CpuNo) (d : DpcNo) (n : ℕ) (past : List Event) → IsRun s limit past → fits s ≡ true → DpcIsPending s p d n past →
    has_dpc s d ≡ true
dpc_known s limit p d n past r h k =
    let a = pending_inserted s p past k.0 k.1 in
    ap (has_dpc s) (sym k.2) ∙ inserts_known s limit (DpcThing k.0.dpc) a.0 past r h a.1

-- in a run of a script that fits, the owner of a pending APC is a thread of the script
apc_known : (s : Script) (limit : ℕ) (t : ThreadNo) (a : ApcNo) (n : ℕ) (past : List Event) → IsRun s limit past → fits s ≡ true → ApcIsPending s t a n past →
    has_thread s (owner_of s a) ≡ true
apc_known s limit t a n past r h k =
    let b = picks_inserted s t past k.0 k.1 in
    ap (λ (a : ApcNo). has_thread s (owner_of s a)) (sym k.2) ∙ inserts_known s limit (ApcThing k.0.apc) b.0 past r h b.1

-- ---- of every object

-- in a run of a script that fits, the laws over inserts hold of every DPC and APC object
pub holds_of_each : (s : Script) (limit : ℕ) (past : List Event) → IsRun s limit past → fits s ≡ true → HoldsOfEach s past
holds_of_each s limit past r h =
    record {
      known = λ thing n k. inserts_known s limit thing n past r h k;
      dpcs = dpcs;
      apcs = apcs;
      waiting = waiting;
      one_dpc = λ d p q n m i j. at_most_one s limit d past r (dpc_known s limit p d n past r h i) p q n m i j;
      one_apc = λ a t u n m i j. at_most_one_apc s limit a past r (apc_known s limit t a n past r h i) t u n m i j;
    }
  where
    dpcs : (p : CpuNo) (d : DpcNo) (n : ℕ) → DpcIsPending s p d n past ↔ (IsInsertedAt p d n past × NoneUsesUp (DpcThing d) n past)
    dpcs p d n = (
      λ k. (pending_reads s limit d past r (dpc_known s limit p d n past r h k) p n).0 k,
      λ k. (pending_reads s limit d past r (inserts_known s limit (DpcThing d) n past r h (at_insert p d n past k.0)) p n).1 k,
    )

    apcs : (a : ApcNo) (n : ℕ) → ApcIsPending s (owner_of s a) a n past ↔ (IsApcInsertedAt a n past × NoneUsesUp (ApcThing a) n past)
    apcs a n = (
      λ k. (pending_apc_reads s limit a past r (apc_known s limit (owner_of s a) a n past r h k) n).0 k,
      λ k. (pending_apc_reads s limit a past r (inserts_known s limit (ApcThing a) n past r h (at_apc a n past k.0)) n).1 k,
    )

    is_pending : (thing : Thing) (n : ℕ) → IsPending s thing n past → is_known s thing ≡ true
    is_pending (DpcThing d) n k = dpc_known s limit k.0 d n past r h k.1
    is_pending (ApcThing a) n k = apc_known s limit (owner_of s a) a n past r h k

    waiting : (thing : Thing) (n : ℕ) → (IsInsert thing n past × (fate_of thing n past ≡ StillWaits)) ↔ IsPending s thing n past
    waiting thing n = (
      λ k. (waiting_is_pending s limit thing n past r (inserts_known s limit thing n past r h k.0)).0 k,
      λ k. (waiting_is_pending s limit thing n past r (is_pending thing n k)).1 k,
    )
