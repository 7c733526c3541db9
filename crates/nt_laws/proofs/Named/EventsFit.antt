-- The events of a run fit.
use Rattle.std.proofs.Common.{ap, arith, inl, inr, subst, sym, ◌∙◌}
use Rattle.std.proofs.lemmas.Bool.Decides.{nat_tests}
use Rattle.std.proofs.lemmas.Bool.{eq-eqb}
use Rattle.std.proofs.lemmas.List.{get_or_past}
use Rattle.std.specs.List.{list_any}
use Rattle.std.specs.Option.{option_map_or, option_or}
use Rattle.std.specs.Prelude.{Bool, IfSome, List, None, Option, Some, [], false, get_or, length, nat_le, nat_lt, refl, true, ℕ, ◌<◌, ◌==◌, ◌∷◌, ◌≡◌, ◌≤◌}
use Rattle.nt_event.specs.declared.commands.TimerKey.{TimerKey}
use Rattle.nt_event.specs.declared.events.Begun.TheVariants.{Apc, Dpc, Int, Threaded}
use Rattle.nt_event.specs.declared.events.Event.{Event}
use Rattle.nt_event.specs.declared.events.Turn.TheVariants.{Look as LookTurn}
use Rattle.nt_event.specs.declared.events.What.{What}
use Rattle.nt_event.specs.declared.events.What.TheVariants.{Begin, Call, Clean, End, Expire, Fire, Flush, Free, Gone, Look, Normal, Rest, Rewait, Switch}
use Rattle.nt_event.specs.Frame.{Frame}
use Rattle.nt_event.specs.declared.numbers.ApcNo.{ApcNo}
use Rattle.nt_event.specs.declared.numbers.CpuNo.{CpuNo}
use Rattle.nt_event.specs.declared.numbers.DpcNo.{DpcNo}
use Rattle.nt_event.specs.declared.numbers.ThreadNo.{ThreadNo}
use Rattle.nt_event.specs.declared.scripts.Script.{Script}
use Rattle.nt_event.specs.Fate.Thing.{ApcThing, DpcThing}
use Rattle.nt_event.specs.Frames.{frames_of, innermost, own_frames, running, thread_frames, thread_part}
use Rattle.nt_event.specs.Jobs.{is_due, level_at}
use Rattle.nt_event.specs.Lanes.{lanes_at}
use Rattle.nt_event.specs.Own.{fire, own_of}
use Rattle.nt_event.specs.Requests.{seen}
use Rattle.nt_event.specs.Routines.{owner_of}
use Rattle.nt_event.specs.Script.{fits, has_apc, has_dpc, has_lock, has_thread, where_given}
use Rattle.nt_event.specs.Step.{IsRun, event_at, is_look, step, thread_field, turn_at}
use Rattle.nt_event.specs.Lists.{head_of, table, value_at}
use Rattle.nt_event.specs.Numbers.{thread}
use Rattle.nt_runs.proofs.Known.{Known, KnownInterrupt, legal_known}
use Rattle.nt_runs.proofs.Names.{AllBelow, all_named}
use Rattle.nt_event.proofs.Options.{both}
use Rattle.nt_runs.proofs.Running.{part_of_running, running_has_base, taken, thread_named}
use Rattle.nt_runs.proofs.Settled.{asked_below, seen_below}
use Rattle.nt_runs.proofs.Steps.{Gives, look_gives}
use Rattle.nt_event.proofs.Tables.{get_or-table, length-table_from}
use Rattle.nt_runs.proofs.Turns.{is_next}
use Rattle.nt_laws.proofs.Fates.Deliveries.{deliveries_name_pending_inserts}
use Rattle.nt_runs.proofs.Pending.{legal_cpu}
use Rattle.nt_laws.proofs.Fates.Once.{delivered_inserts_wait}
use Rattle.nt_laws.specs.Fates.{ApcIsPending, DpcIsPending, NamesPending}
use Rattle.nt_laws.specs.Named.{AllFit, earlier, keeps_to_classes}
use Rattle.nt_event.specs.Fitting.{key_fits, what_fits}
use Rattle.nt_laws.proofs.Named.Asked.{rises_fit}
use Rattle.nt_runs.proofs.Declared.{fire_fits, next_fits}
use Rattle.nt_laws.proofs.Named.Inserted.{pending_fits, picks_fit}
use Rattle.nt_laws.proofs.Named.Settings.{due_fits}
use Rattle.nt_event.specs.declared.numbers.LockNo.{LockNo}
use Rattle.nt_runs.proofs.HeldFits.{last_declared}

-- ---- frames

-- the head of a list of frames named below a number is named below it
head_below : (n : ℕ) (fs : List Frame) (f : Frame) → AllBelow n fs → head_of fs ≡ Some f → f.name < n
head_below n [] f h e = cc
head_below n (g ∷ fs) f h e = let same : g ≡ f = cc in subst (λ (x : Frame). x.name < n) same h.0

-- the innermost frame of a processor is named by an earlier event
inner_below : (s : Script) (limit : ℕ) (p : CpuNo) (past : List Event) (f : Frame) → IsRun s limit past → innermost (frames_of s p past) ≡ Some f →
    f.name < length past
inner_below s limit p past f r e = own (own_frames p past) refl e
  where
    on_thread : (o : Option ThreadNo) → running p past ≡ o → head_of (option_map_or (λ t. get_or (frames_of s p past).threads t.0 []) o []) ≡ Some f →
        f.name < length past
    on_thread None k h = cc
    on_thread (Some t) k h =
        let base = running_has_base s limit p t past r k in
        let part : thread_part (frames_of s p past) ≡ thread_frames s p t past = part_of_running s p t past base.1 k in
        let here : thread_part (frames_of s p past) ≡ get_or (frames_of s p past).threads t.0 [] = ap
        (λ (o : Option ThreadNo). option_map_or (λ t. get_or (frames_of s p past).threads t.0 []) o []) k in
        head_below (length past) (thread_frames s p t past) f (all_named s p t past).thread (ap head_of (sym part ∙ here) ∙ h)

    own : (gs : List Frame) → own_frames p past ≡ gs → option_or (head_of gs) (head_of (thread_part (frames_of s p past))) ≡ Some f → f.name < length past
    own [] k h = on_thread (running p past) refl h
    own (g ∷ gs) k h =
        head_below (length past) (own_frames p past) f (all_named s p (thread 0) past).own (ap head_of k ∙ h)

-- ---- requests

-- a table of sixteen values at most n has at most n at each class
below_all : (n c : ℕ) (f : ℕ → ℕ) → ((k : ℕ) → f k ≤ n) → value_at (table 16 f) c ≤ n
below_all n c f h = go (nat_lt c 16) refl
  where
    go : (b : Bool) → nat_lt c 16 ≡ b → value_at (table 16 f) c ≤ n
    go true l =
        let within : c < 16 = grind (arith, nat_tests) in
        let e : value_at (table 16 f) c ≡ f c = get_or-table {A = ℕ} 16 c f 0 within in
        let k = h c in
        omega arith
    go false l =
        let past : length (table 16 f) ≤ c = (let n = length-table_from {A = ℕ} 0 16 f in grind (arith, nat_tests)) in
        let e : value_at (table 16 f) c ≡ 0 = get_or_past (table 16 f) c 0 past in
        omega arith

-- the ask that an interrupt names is an earlier event
interrupt_below : (s : Script) (limit : ℕ) (p : CpuNo) (past : List Event) (c from : ℕ) → IsRun s limit past → KnownInterrupt (own_of s p past) c from →
    from < length past
interrupt_below s limit p past c from r k =
    let due : is_due (own_of s p past) c ≡ true = (both (nat_lt (level_at (own_of s p past)) c) (is_due (own_of s p past) c) k.may).1 in
    let some : value_at (own_of s p past).served c < value_at (own_of s p past).seen c = grind (arith, nat_tests) in
    let most : value_at (own_of s p past).seen c ≤ length past = below_all (length past) c (λ k. seen s p k past)
    (λ k. let a = seen_below s limit p k past r in let b = asked_below s p k past in omega arith) in
    let n = k.number in
    omega arith

-- ---- each event

abbrev WhatFits : Script → ℕ → What → Type 0
WhatFits s n w = (what_fits s w ≡ true) × (keeps_to_classes w ≡ true) × IfSome (earlier w) (λ m. m < n)

-- a number passes the test of being equal to itself
named_here : (n : ℕ) → (n == n) ≡ true
named_here n = eq-eqb n n refl

-- a number up to two passes the test for a clean step
clean_fits : (c : ℕ) → (c ≤ 2) → nat_le c 2 ≡ true
clean_fits c h = grind (arith, nat_tests)

-- in a run the thread that runs on a processor, if any, is declared
is_given : (s : Script) (limit : ℕ) (p : CpuNo) (past : List Event) → IsRun s limit past → where_given (has_thread s) (running p past) ≡ true
is_given s limit p past r = go (running p past) refl
  where
    go : (o : Option ThreadNo) → running p past ≡ o → where_given (has_thread s) o ≡ true
    go None k = refl
    go (Some t) k = (running_has_base s limit p t past r k).1

-- what holds of an optional value if there is one holds of the value that it has
is_some_at : {A : Type 0} (P : A → Type 0) (o : Option A) (x : A) → IfSome o P → o ≡ Some x → P x
is_some_at P None x h e = cc
is_some_at P (Some y) x h e = let same : y ≡ x = cc in subst P same h

-- in a run of a script that fits, an event after events that fit fits in what it does
what_of : (s : Script) (limit : ℕ) (e : Event) (past : List Event) → fits s ≡ true → IsRun s limit (e ∷ past) → AllFit s past → (w : What) → e.what ≡ w →
    WhatFits s (length past) w
what_of s limit e past h r all w eq = go w eq
  where
    p : CpuNo
    p = e.cpu

    known : (w : What) → e.what ≡ w → is_next w ≡ true → Known s e.cpu (own_of s e.cpu past) (lanes_at s past) w
    known w k n =
        subst (Known s e.cpu (own_of s e.cpu past) (lanes_at s past)) k (legal_known s limit e past r.0 (ap is_next k ∙ n))

    turned : (w : What) → e.what ≡ w → Gives (step s limit (turn_at e.cpu w) past) e
    turned w k = subst (λ (v : What). Gives (step s limit (turn_at e.cpu v) past) e) k r.0

    frame_below : (f : Frame) (n : ℕ) → n ≡ f.name → innermost (frames_of s e.cpu past) ≡ Some f → n < length past
    frame_below f n k i = let b = inner_below s limit e.cpu past f r.1 i in omega arith

    delivered : (w : What) → e.what ≡ w → NamesPending s e.cpu w past
    delivered w k =
        subst (λ (v : What). NamesPending s e.cpu v past) k (deliveries_name_pending_inserts s limit e past r)

    dpc_fits : (d : DpcNo) (from : ℕ) → DpcIsPending s e.cpu d from past → has_dpc s d ≡ true
    dpc_fits d from k = subst (λ (x : DpcNo). has_dpc s x ≡ true) k.2 (pending_fits s e.cpu past all k.0 k.1)

    apc_fits : (a : ApcNo) (from : ℕ) → ApcIsPending s (owner_of s a) a from past → has_apc s a ≡ true
    apc_fits a from k = subst (λ (x : ApcNo). has_apc s x ≡ true) k.2 (picks_fit s (owner_of s a) past all k.0 k.1)

    go : (w : What) → e.what ≡ w → WhatFits s (length past) w
    go (Call f c y) k =
        let q = known (Call f c y) k refl in
        (next_fits s e.cpu q.frame c h q.command, refl, frame_below q.frame f q.name q.goes_on.inner)
    go (Look x) k =
        let good = both (list_any (λ v. nat_lt 0 v) x.value) _ (look_gives s limit e.cpu x past e (turned (Look x) k)).0 in
        (refl, rw good.0 (rises_fit s e.cpu 0 x.value (own_of s e.cpu past) past all good.1), tt)
    go (Begin (Int c) from) k =
        let q = known (Begin (Int c) from) k refl in (refl, q.class, interrupt_below s limit e.cpu past c from r.1 q)
    go (Begin (Dpc d) from) k =
        let q = delivered (Begin (Dpc d) from) k in
        let has : has_dpc s d ≡ true = dpc_fits d from q in
        (has, refl, (delivered_inserts_wait s limit e past (DpcThing d) from r has (rw (k, named_here d.0, named_here from) refl)).0)
    go (Begin (Threaded d) from) k =
        let q = delivered (Begin (Threaded d) from) k in
        let has : has_dpc s d ≡ true = dpc_fits d from q in
        (has, refl, (delivered_inserts_wait s limit e past (DpcThing d) from r has (rw (k, named_here d.0, named_here from) refl)).0)
    go (Begin (Apc a) from) k =
        let q = delivered (Begin (Apc a) from) k in
        (apc_fits a from q.1, refl, (delivered_inserts_wait s limit e past (ApcThing a) from r refl (rw (k, named_here a.0, named_here from) refl)).0)
    go (Normal f) k = let q = known (Normal f) k refl in (refl, refl, frame_below q.frame f q.name q.goes_on.inner)
    go (End f) k = let q = known (End f) k refl in (refl, refl, frame_below q.frame f q.name q.goes_on.inner)
    go (Free f c) k =
        let q = known (Free f c) k refl in (
          subst (λ (z : LockNo). has_lock s z ≡ true) (sym q.lock) (last_declared s limit e.cpu past q.frame q.held h r.1 q.goes_on.inner q.last),
          refl,
          frame_below q.frame f q.name q.goes_on.inner,
        )
    go (Expire key from) k =
        let q = known (Expire key from) k refl in
        let due = due_fits s past q.set q.first in
        (subst (λ (x : TimerKey). key_fits s x ≡ true) (sym q.key) due.0, refl, (let n = q.number in let b = due.1 in omega arith))
    go (Fire d y) k =
        let q = known (Fire d y) k refl in
        (is_some_at (λ (d : DpcNo). has_dpc s d ≡ true) (fire s e.cpu past) d (fire_fits s e.cpu past h) q.0, refl, tt)
    go (Clean c) k =
        let q = known (Clean c) k refl in (
          refl,
          elim q [
            | inl two ↦ clean_fits c (let n = two.0 in omega arith)
            | inr more ↦ elim more [
              | inl one ↦ clean_fits c (let n = one.0 in omega arith)
              | inr none ↦ clean_fits c (let n = none.0 in omega arith)
            ]
          ],
          tt,
        )
    go (Switch t status) k = ((taken s limit e.cpu t past e (turned (Switch t status) k)).0, refl, tt)
    go (Rewait f y) k = let q = known (Rewait f y) k refl in (refl, refl, frame_below q.frame f q.name q.goes_on.inner)
    go (Flush a from) k =
        let q = delivered (Flush a from) k in
        (apc_fits a from q.1, refl, (delivered_inserts_wait s limit e past (ApcThing a) from r refl (rw (k, named_here a.0, named_here from) refl)).0)
    go (Gone t) k =
        let q = known (Gone t) k refl in ((running_has_base s limit e.cpu t past r.1 q.0.thread).1, refl, tt)
    go Rest k = (refl, refl, tt)

-- in a run an event that fits in what it does is by a declared thread, if by any
thread_fits : (s : Script) (limit : ℕ) (e : Event) (past : List Event) → IsRun s limit (e ∷ past) → what_fits s e.what ≡ true →
    where_given (has_thread s) e.thread ≡ true
thread_fits s limit e past r h =
    ap (where_given (has_thread s)) (thread_named s limit e past r.0) ∙ go e.what h
  where
    go : (w : What) → what_fits s w ≡ true → where_given (has_thread s) (thread_field w (running e.cpu past)) ≡ true
    go (Switch t status) k = k
    go (Look x) k = refl
    go w k = is_given s limit e.cpu past r.1

-- in a run a look is by no thread and at level zero
look_plain : (s : Script) (limit : ℕ) (e : Event) (past : List Event) → IsRun s limit (e ∷ past) → is_look e.what ≡ true → (e.thread ≡ None) × (e.level ≡ 0)
look_plain s limit e past r h = go e.what refl h
  where
    go : (w : What) → e.what ≡ w → is_look w ≡ true → (e.thread ≡ None) × (e.level ≡ 0)
    go (Look x) k l =
        let turn : Gives (step s limit (LookTurn e.cpu x) past) e = subst (λ (v : What). Gives (step s limit (turn_at e.cpu v) past) e) k r.0 in
        let same : event_at s e.cpu (Look x) (frames_of s e.cpu past) ≡ e = (look_gives s limit e.cpu x past e turn).1 in
        (sym (ap (λ (f : Event). f.thread) same), sym (ap (λ (f : Event). f.level) same))
    go w k l = cc

-- each event of a run of a script that fits names declared things and earlier events
pub events_of_a_run_fit : (s : Script) (limit : ℕ) (past : List Event) → fits s ≡ true → IsRun s limit past → AllFit s past
events_of_a_run_fit s limit [] h r = tt
events_of_a_run_fit s limit (e ∷ past) h r =
    let all : AllFit s past = events_of_a_run_fit s limit past h r.1 in
    let what = what_of s limit e past h r all e.what refl in (
      record {
        cpu = legal_cpu s limit e past r.0;
        thread = thread_fits s limit e past r what.0;
        what = what.0;
        classes = what.1;
        earlier = what.2;
        look = look_plain s limit e past r;
      },
      all,
    )
