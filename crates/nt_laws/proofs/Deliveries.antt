-- In a run each Begin, Expire and Flush delivers a request that was eligible just before it.
use Rattle.std.proofs.Common.{ap, inl, inr, subst, sym, ◌∙◌}
use Rattle.std.proofs.lemmas.Bool.{both_ways, eq-eqb, lt-ltb}
use Rattle.std.specs.Option.{option_map_or}
use Rattle.std.specs.Prelude.{Bool, List, Option, Some, [], false, nat_lt, not, refl, true, ℕ, ◌&&◌, ◌<◌, ◌==◌, ◌∷◌, ◌≡◌}
use Rattle.nt_event.specs.declared.commands.ApcKind.{ApcKind}
use Rattle.nt_event.specs.declared.commands.ApcKind.TheVariants.{Normal as NormalApc, Special as SpecialApc, User as UserApc}
use Rattle.nt_event.specs.declared.commands.Refusal.TheVariants.{NotBase, NotThread}
use Rattle.nt_event.specs.declared.commands.TimerKey.{TimerKey}
use Rattle.nt_event.specs.declared.commands.TimerKey.TheVariants.{Delay as OfDelay, Timer as OfTimer}
use Rattle.nt_event.specs.declared.events.Begun.TheVariants.{Apc, Dpc, Int, Threaded}
use Rattle.nt_event.specs.declared.events.Event.{Event}
use Rattle.nt_event.specs.declared.events.What.{What}
use Rattle.nt_event.specs.declared.events.What.TheVariants.{Begin, Expire, Flush}
use Rattle.nt_event.specs.Frame.{Frame}
use Rattle.nt_event.specs.declared.inserts.Insert.{Insert}
use Rattle.nt_event.specs.declared.inserts.Part.{Part}
use Rattle.nt_event.specs.declared.inserts.Part.TheVariants.{Ordinary as OrdinaryPart, Threaded as ThreadedPart}
use Rattle.nt_event.specs.declared.inserts.Pick.{Pick}
use Rattle.nt_event.specs.declared.numbers.ApcNo.{ApcNo}
use Rattle.nt_event.specs.declared.numbers.CpuNo.{CpuNo}
use Rattle.nt_event.specs.declared.numbers.DpcNo.{DpcNo}
use Rattle.nt_event.specs.declared.numbers.ThreadNo.{ThreadNo}
use Rattle.nt_event.specs.declared.scripts.Script.{Script}
use Rattle.nt_event.specs.Apcs.{first_user, has_kernel, is_of_apc}
use Rattle.nt_event.specs.Eligible.{ExpiryRequest, FlushRequest, IntRequest, KernelApcRequest, Request, UserApcRequest, apc_request, eligible, is_apc_pick}
use Rattle.nt_event.specs.Eligible.{is_at_base, is_at_touser, is_eligible, is_first_dpc, request_of, same_key}
use Rattle.nt_event.specs.Classes.{is_interrupt_level}
use Rattle.nt_event.specs.Frames.{frames_of, innermost, is_base_body, is_on_thread, own_frames, running, thread_frames, thread_part}
use Rattle.nt_event.specs.Jobs.{is_due, level_at, user_due}
use Rattle.nt_event.specs.Lanes.{Lanes, facts_at, facts_of, lanes_at, queue_at}
use Rattle.nt_runs.specs.Laws.{HasBase}
use Rattle.nt_event.specs.Own.{Own, own_of}
use Rattle.nt_event.specs.Queues.{QueueState, is_of_dpc}
use Rattle.nt_event.specs.Regions.{regions_of}
use Rattle.nt_event.specs.Routines.{cpu_of, is_kernel_kind, kind_of}
use Rattle.nt_event.specs.Script.{has_thread}
use Rattle.nt_event.specs.Step.{IsRun}
use Rattle.nt_event.specs.Threads.{ThreadFacts, start_facts}
use Rattle.nt_event.specs.Timers.{SetKey, first_due}
use Rattle.nt_event.specs.Waits.{facts}
use Rattle.nt_event.specs.Lists.{head_of, is_null}
use Rattle.nt_runs.proofs.Calm.{next_test}
use Rattle.nt_runs.proofs.Known.{Deliverable, Known, KnownBegin, KnownInsert, KnownInterrupt, KnownKey, KnownPick, KnownRundown, KnownToUser, legal_known}
use Rattle.nt_runs.proofs.Leaving.{leaves_as, leaving_base}
use Rattle.nt_event.proofs.Options.{Holds, both, holds_at, when_gives}
use Rattle.nt_runs.proofs.Running.{running_has_base, running_here}
use Rattle.nt_runs.proofs.Shared.{leaving_null, part_head}
use Rattle.nt_runs.proofs.Stops.{null_of, refuse_none}
use Rattle.nt_runs.proofs.Turns.{is_next}
use Rattle.nt_laws.proofs.Leaves.{leaves}
use Rattle.nt_runs.proofs.Pending.{no_kernel}
use Rattle.nt_runs.proofs.Rundown.Run.{KernelPick, deliverable_fits, facts_fit_of, first_user_fits}
use Rattle.nt_runs.proofs.Rundown.Steps.{Stands, facts_there, first_frame, flush_quiet, stands}

-- a conjunction of two true parts is true
all_true : (a b : Bool) → a ≡ true → b ≡ true → (a && b) ≡ true
all_true true b h k = k
all_true false b h k = cc

-- an insert known as the first of a part of the queue passes the test for its first DPC
insert_first : (part : Part) (q : QueueState) (d : DpcNo) (from : ℕ) → KnownInsert part q d from → is_first_dpc part d q ≡ true
insert_first part q d from k =
    ap (λ (o : Option Insert). option_map_or (is_of_dpc d) o false) k.first ∙ eq-eqb k.insert.dpc.0 d.0 (ap (λ (x : DpcNo). x.0) (sym k.dpc))

-- an APC known as the one picked passes the test for that pick
pick_first : (o : Option Pick) (a : ApcNo) (from : ℕ) → KnownPick o a from → is_apc_pick a o ≡ true
pick_first o a from k =
    ap (λ (o : Option Pick). option_map_or (is_of_apc a) o false) k.first ∙ eq-eqb k.pick.apc.0 a.0 (ap (λ (x : ApcNo). x.0) (sym k.apc))

-- a timer key passes the test of being the same as itself
same_key_itself : (k : TimerKey) → same_key k k ≡ true
same_key_itself (OfTimer t) = eq-eqb t.0 t.0 refl
same_key_itself (OfDelay t) = eq-eqb t.0 t.0 refl

-- the test for less is true of a number that is less than another
low_test : (n m : ℕ) → n < m → nat_lt n m ≡ true
low_test n m h = lt-ltb n m h

-- a timer key known as the next to expire is eligible as an expiry request
key_eligible : (s : Script) (p : CpuNo) (x : Own) (l : Lanes) (key : TimerKey) (from : ℕ) → KnownKey x l key from → is_eligible s p x l (ExpiryRequest key)
    ≡ true
key_eligible s p x l key from k =
    let first : option_map_or (λ q. same_key q.key key) (first_due l.timers) false
    ≡ true = ap (λ (o : Option SetKey). option_map_or (λ q. same_key q.key key) o false) k.first
    ∙ (ap (λ (z : TimerKey). same_key k.set.key z) k.key ∙ same_key_itself k.set.key) in
    all_true x.sweep _ k.sweep (all_true _ (nat_lt (level_at x) 2) first (low_test (level_at x) 2 k.low))

-- an interrupt class known as the next to begin is eligible as an interrupt request
interrupt_eligible : (s : Script) (p : CpuNo) (x : Own) (l : Lanes) (c from : ℕ) → KnownInterrupt x c from → is_eligible s p x l (IntRequest c) ≡ true
interrupt_eligible s p x l c from k =
    let m = both (nat_lt (level_at x) c) (is_due x c) k.may in
    all_true (is_interrupt_level c) _ k.class (all_true (is_due x c) (nat_lt (level_at x) c) m.1 m.0)

-- a request for an APC is that of its kind
user_body : (k : ApcKind) (a : ApcNo) → k ≡ UserApc → apc_request k a ≡ UserApcRequest a
user_body k a h = ap (λ (q : ApcKind). apc_request q a) h

-- an APC of a kernel kind is asked for by a kernel APC request
kernel_request : (k : ApcKind) (a : ApcNo) → is_kernel_kind k ≡ true → apc_request k a ≡ KernelApcRequest a
kernel_request SpecialApc a h = refl
kernel_request NormalApc a h = refl
kernel_request UserApc a h = cc

-- the innermost frame is the base of the running thread, at a `touser` that isn't refused
at_touser : (s : Script) (p : CpuNo) (x : Own) → (k : KnownToUser s p x) → (is_at_base x ≡ true) ×
    (option_map_or (is_at_touser s p x) (innermost x.frames) false ≡ true)
at_touser s p x k =
    let not_base : not (is_base_body k.frame.body) ≡ false = refuse_none (not (is_base_body k.frame.body)) NotBase _
    (next_test (not (is_null x.frames.own)) NotThread _ k.accepted) in
    let base : is_base_body k.frame.body ≡ true = null_of (is_base_body k.frame.body) not_base in
    let inner : is_at_touser s p x k.frame ≡ true = rw (k.command, k.accepted) refl in (
      ap (λ (o : Option Frame). option_map_or (λ f. is_base_body f.body) o false) k.goes_on.inner ∙ base,
      ap (λ (o : Option Frame). option_map_or (is_at_touser s p x) o false) k.goes_on.inner ∙ inner,
    )

-- a user APC that is due is the first user APC of a thread that is marked for user APCs
marked_user : (x : ThreadFacts) (a : ApcNo) (from : ℕ) → KnownPick (user_due x) a from → (x.user_pending ≡ true) × KnownPick (first_user x.apcs) a from
marked_user x a from k =
    let w = when_gives x.user_pending (first_user x.apcs) k.pick k.first in
    (w.0, record { pick = k.pick; first = w.1; apc = k.apc; number = k.number })

-- an APC known as the next to begin is eligible as a request of its kind
apc_eligible : (s : Script) (p : CpuNo) (past : List Event) (a : ApcNo) (from : ℕ) → KnownBegin s p (own_of s p past) (lanes_at s past) (Apc a) from →
    is_eligible s p (own_of s p past) (lanes_at s past) (apc_request (kind_of s a) a) ≡ true
apc_eligible s p past a from (inl k) =
    let x : Own = own_of s p past in
    let l : Lanes = lanes_at s past in
    let fits = holds_at (KernelPick s) (Deliverable x l) k.1.pick
    (deliverable_fits s (facts_of l x.frames.running).apcs (regions_of (thread_part x.frames)) (level_at x)
    (facts_fit_of s past x.frames.running)) k.1.first in
    let kind : kind_of s a ≡ k.1.pick.kind = ap (kind_of s) k.1.apc ∙ sym fits.1 in
    let request : apc_request (kind_of s a) a ≡ KernelApcRequest a = kernel_request (kind_of s a) a (ap is_kernel_kind kind ∙ fits.0) in
    let on : is_on_thread x.frames ≡ true = (both (is_on_thread x.frames) _ (both (level_at x == 0) _ k.0).1).0 in
    ap (is_eligible s p x l) request ∙ all_true (is_on_thread x.frames) _ on (pick_first (Deliverable x l) a from k.1)
apc_eligible s p past a from (inr k) =
    let x : Own = own_of s p past in
    let l : Lanes = lanes_at s past in
    let m = marked_user (facts_of l x.frames.running) a from k.1 in
    let fits = holds_at (λ y. (y.kind ≡ UserApc) × (y.kind ≡ kind_of s y.apc)) (first_user (facts_of l x.frames.running).apcs) m.1.pick
    (first_user_fits s (facts_of l x.frames.running).apcs (facts_fit_of s past x.frames.running)) m.1.first in
    let kind : kind_of s a ≡ UserApc = ap (kind_of s) m.1.apc ∙ (sym fits.1 ∙ fits.0) in
    let at = at_touser s p x k.0 in
    ap (is_eligible s p x l) (user_body (kind_of s a) a kind)
    ∙ all_true _ _ (pick_first (first_user (facts_of l x.frames.running).apcs) a from m.1)
    (all_true (is_at_base x) _ at.0 (all_true (option_map_or (is_at_touser s p x) (innermost x.frames) false) _ at.1 m.0))

-- in a run the first user APC of a thread in rundown is eligible for a flush
flush_eligible : (s : Script) (limit : ℕ) (p : CpuNo) (past : List Event) (a : ApcNo) (from : ℕ) (t : ThreadNo) → IsRun s limit past →
    KnownRundown (own_of s p past) t → KnownPick (first_user (facts_at (lanes_at s past) t).apcs) a from →
    is_eligible s p (own_of s p past) (lanes_at s past) (FlushRequest a) ≡ true
flush_eligible s limit p past a from t r k q =
    all_true _ _ (ap (λ (x : ThreadFacts). is_apc_pick a (first_user x.apcs)) of_it ∙ pick_first (first_user (facts_at (lanes_at s past) t).apcs) a from q)
    (all_true _ _ (ap (λ (x : ThreadFacts). x.leaving) (of_it ∙ at) ∙ leaving) (all_true (is_at_base (own_of s p past)) _ base kernel))
  where
    h : (has_thread s t ≡ true) × ((cpu_of s t).0 ≡ p.0)
    h = running_here s limit p t past r k.thread

    here : cpu_of s t ≡ p
    here = ap (λ (n : ℕ). record { 0 = n }) h.1

    at : facts_at (lanes_at s past) t ≡ facts s t past
    at = facts_there s limit t past h.0

    of_it : facts_of (lanes_at s past) (running p past) ≡ facts_at (lanes_at s past) t
    of_it = ap (λ (o : Option ThreadNo). option_map_or (facts_at (lanes_at s past)) o start_facts) k.thread

    kt : KnownRundown (own_of s (cpu_of s t) past) t
    kt = subst (λ (q : CpuNo). KnownRundown (own_of s q past) t) (sym here) k

    z : Stands s limit t past
    z = stands s limit t past r kt.thread

    null : is_null (own_frames (cpu_of s t) past) ≡ true
    null = leaving_null s (cpu_of s t) past kt.frame kt.goes_on.inner kt.leaving

    first : head_of (thread_frames s (cpu_of s t) t past) ≡ Some kt.frame
    first = first_frame s limit t past kt.frame z kt.goes_on.inner null

    leaving : (facts s t past).leaving ≡ true
    leaving =
        leaves_as s limit t past r ∙ leaving_base t kt.frame (thread_frames s (cpu_of s t) t past) first kt.leaving z.based

    base_body : is_base_body k.frame.body ≡ true
    base_body = go (thread_part (frames_of s p past)) (part_head (frames_of s p past) k.frame k.goes_on.inner
        (leaving_null s p past k.frame k.goes_on.inner k.leaving)) (running_has_base s limit p t past r k.thread).2
      where
        go : (fs : List Frame) → head_of fs ≡ Some k.frame → HasBase t fs → is_base_body k.frame.body ≡ true
        go [] e b = cc
        go (g ∷ []) e b = let same : g ≡ k.frame = cc in ap (λ (y : Frame). is_base_body y.body) (sym same) ∙ ap is_base_body b
        go (g ∷ (x ∷ fs)) e b =
            let same : g ≡ k.frame = cc in
            let y : g.leaving ≡ true = ap (λ (y : Frame). y.leaving) same ∙ k.leaving in
            absurd (both_ways g.leaving b.0.1 y)

    base : is_at_base (own_of s p past) ≡ true
    base =
        ap (λ (o : Option Frame). option_map_or (λ f. is_base_body f.body) o false) k.goes_on.inner ∙ base_body

    kernel : not (has_kernel (facts_of (lanes_at s past) (running p past)).apcs) ≡ true
    kernel =
        let none : has_kernel (facts s t past).apcs ≡ false = no_kernel (facts s t past).apcs
        (flush_quiet s limit t past r (leaves s limit t past h.0 r leaving) kt) in
        ap (λ (x : ThreadFacts). not (has_kernel x.apcs)) (of_it ∙ at) ∙ ap (λ (b : Bool). not b) none

-- the request that an event delivers
delivers : (s : Script) (limit : ℕ) (p : CpuNo) (past : List Event) (w : What) → IsRun s limit past →
    (is_next w ≡ true → Known s p (own_of s p past) (lanes_at s past) w) →
    Holds (λ r. is_eligible s p (own_of s p past) (lanes_at s past) r ≡ true) (request_of s w)
delivers s limit p past (Begin (Int c) from) r k = interrupt_eligible s p (own_of s p past) (lanes_at s past) c from (k refl)
delivers s limit p past (Begin (Dpc d) from) r k =
    let q = k refl in
    all_true (is_first_dpc OrdinaryPart d (queue_at (lanes_at s past) p)) _ (insert_first OrdinaryPart (queue_at (lanes_at s past) p) d from q.1)
    (low_test (level_at (own_of s p past)) 2 q.0)
delivers s limit p past (Begin (Threaded d) from) r k =
    let q = k refl in
    let m = both (level_at (own_of s p past) == 0) _ q.0 in
    let n = both (is_null (own_frames p past)) _ m.1 in
    all_true (is_first_dpc ThreadedPart d (queue_at (lanes_at s past) p)) _ (insert_first ThreadedPart (queue_at (lanes_at s past) p) d from q.1)
    (all_true (level_at (own_of s p past) == 0) (is_null (own_frames p past)) m.0 n.0)
delivers s limit p past (Begin (Apc a) from) r k = apc_eligible s p past a from (k refl)
delivers s limit p past (Expire key from) r k = key_eligible s p (own_of s p past) (lanes_at s past) key from (k refl)
delivers s limit p past (Flush a from) r k =
    let q = k refl in flush_eligible s limit p past a from q.0 r q.1 q.2
delivers s limit p past w r k = tt

-- in a run what an event delivers was eligible on its processor just before it
pub deliveries_are_eligible : (s : Script) (limit : ℕ) (e : Event) (past : List Event) (r : Request) → IsRun s limit (e ∷ past) → request_of s e.what
    ≡ Some r → eligible s e.cpu r past ≡ true
deliveries_are_eligible s limit e past r run h =
    holds_at (λ r. is_eligible s e.cpu (own_of s e.cpu past) (lanes_at s past) r ≡ true) (request_of s e.what) r
    (delivers s limit e.cpu past e.what run.1 (legal_known s limit e past run.0)) h
