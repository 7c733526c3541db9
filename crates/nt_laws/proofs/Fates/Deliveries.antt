-- In a run each delivery names an insert that was pending just before it.
use Rattle.std.proofs.Common.{ap, inl, inr, subst, sym, ◌∙◌}
use Rattle.std.specs.List.{Contains}
use Rattle.std.specs.Prelude.{List, None, Option, Some, find, nat_lt, option_and_then, refl, reverse, true, ℕ, ◌&&◌, ◌==◌, ◌∷◌, ◌≡◌}
use Rattle.nt_event.specs.declared.commands.ApcKind.{ApcKind}
use Rattle.nt_event.specs.declared.commands.ApcKind.TheVariants.{Normal as NormalApc, Special as SpecialApc, User as UserApc}
use Rattle.nt_event.specs.declared.commands.Regions.{Regions}
use Rattle.nt_event.specs.declared.events.Begun.TheVariants.{Apc, Dpc, Threaded}
use Rattle.nt_event.specs.declared.events.Event.{Event}
use Rattle.nt_event.specs.declared.events.What.{What}
use Rattle.nt_event.specs.declared.events.What.TheVariants.{Begin, Flush}
use Rattle.nt_event.specs.declared.inserts.Insert.{Insert}
use Rattle.nt_event.specs.declared.inserts.Part.{Part}
use Rattle.nt_event.specs.declared.inserts.Part.TheVariants.{Ordinary as OrdinaryPart, Threaded as ThreadedPart}
use Rattle.nt_event.specs.declared.inserts.Pick.{Pick}
use Rattle.nt_event.specs.declared.numbers.ApcNo.{ApcNo}
use Rattle.nt_event.specs.declared.numbers.CpuNo.{CpuNo}
use Rattle.nt_event.specs.declared.numbers.DpcNo.{DpcNo}
use Rattle.nt_event.specs.declared.numbers.ThreadNo.{ThreadNo}
use Rattle.nt_event.specs.declared.scripts.Script.{Script}
use Rattle.nt_event.specs.Apcs.{ApcQueues, deliverable, first_kernel, first_of_kind, first_user, is_of_kind, lets_through}
use Rattle.nt_event.specs.Frames.{running, thread_part}
use Rattle.nt_event.specs.Jobs.{level_at, user_due}
use Rattle.nt_event.specs.Lanes.{facts_at, facts_of, lanes_at, queue_at}
use Rattle.nt_event.specs.Own.{own_of}
use Rattle.nt_event.specs.Queues.{QueueState, first_dpc, is_high_in, is_in, pending}
use Rattle.nt_event.specs.Regions.{regions_of}
use Rattle.nt_event.specs.Routines.{owner_of}
use Rattle.nt_event.specs.Step.{IsRun}
use Rattle.nt_event.specs.Threads.{ThreadFacts}
use Rattle.nt_event.specs.Waits.{facts}
use Rattle.nt_event.specs.Lists.{when}
use Rattle.nt_runs.proofs.Known.{Known, KnownBegin, KnownInsert, legal_known}
use Rattle.nt_event.proofs.Options.{when_gives}
use Rattle.nt_runs.proofs.Running.{running_here}
use Rattle.nt_runs.proofs.Turns.{is_next}
use Rattle.nt_laws.specs.Fates.{ApcIsPending, DpcIsPending, NamesPending}
use Rattle.nt_event.proofs.Elements.{contains_none, found_contains, or_gives, reversed_contains}
use Rattle.nt_laws.proofs.Fates.Picks.{owners_fit}
use Rattle.nt_runs.proofs.Pending.{legal_cpu, queue_there}
use Rattle.nt_runs.proofs.Rundown.Steps.{facts_there}

-- ---- the first ones are pending

-- the first DPC found in a part is one of the pending inserts
pub first_dpc_pending : (part : Part) (xs : List Insert) (x : Insert) → first_dpc part xs ≡ Some x → Contains xs x
first_dpc_pending part xs x h =
    elim (or_gives (find (is_high_in part) xs) (find (is_in part) (reverse xs)) x h) [
      | inl high ↦ (found_contains (is_high_in part) xs x high).0
      | inr low ↦ reversed_contains xs x (found_contains (is_in part) (reverse xs) x low).0
    ]

-- the first APC of a kind is one of the pending ones
kind_pending : (k : ApcKind) (q : ApcQueues) (x : Pick) → first_of_kind k q ≡ Some x → Contains q.pending x
kind_pending k q x h =
    reversed_contains q.pending x (found_contains (is_of_kind k) (reverse q.pending) x h).0

-- the first kernel APC is one of the pending ones
kernel_pending : (q : ApcQueues) (x : Pick) → first_kernel q ≡ Some x → Contains q.pending x
kernel_pending q x h =
    elim (or_gives (first_of_kind SpecialApc q) (first_of_kind NormalApc q) x h) [
      | inl special ↦ kind_pending SpecialApc q x special
      | inr normal ↦ kind_pending NormalApc q x normal
    ]

-- a deliverable kernel APC is one of the pending ones
deliverable_pending : (q : ApcQueues) (r : Regions) (level : ℕ) (x : Pick) → deliverable q r level ≡ Some x → Contains q.pending x
deliverable_pending q r level x h = go (first_kernel q) refl h
  where
    go : (o : Option Pick) → first_kernel q ≡ o → option_and_then (λ x. when ((level == 0) && lets_through r x.kind) (Some x)) o ≡ Some x → Contains q.pending x
    go None e k = cc
    go (Some y) e k =
        let w = when_gives ((level == 0) && lets_through r y.kind) (Some y) x k in
        kernel_pending q x (e ∙ w.1)

-- a user APC that is due is one of the thread's pending ones
user_due_pending : (x : ThreadFacts) (y : Pick) → user_due x ≡ Some y → Contains x.apcs.pending y
user_due_pending x y h =
    kind_pending UserApc x.apcs y (when_gives x.user_pending (first_user x.apcs) y h).1

-- ---- where they are pending

-- a DPC insert known as the first of its part is pending in the queue of its processor
dpc_named : (s : Script) (p : CpuNo) (past : List Event) (part : Part) (d : DpcNo) (from : ℕ) → nat_lt p.0 s.cpus ≡ true →
    KnownInsert part (queue_at (lanes_at s past) p) d from → DpcIsPending s p d from past
dpc_named s p past part d from has k =
    let first : first_dpc part (pending s p past) ≡ Some k.insert = ap (λ (q : QueueState). first_dpc part q.pending) (sym (queue_there s p past has))
    ∙ k.first in
    (k.insert, first_dpc_pending part (pending s p past) k.insert first, sym k.dpc, sym k.number)

-- the running thread has what is pending at it
at_running : (s : Script) (limit : ℕ) (p : CpuNo) (past : List Event) (a : ApcNo) (from : ℕ) (x : Pick) → IsRun s limit past → a ≡ x.apc → from ≡ x.number →
    (o : Option ThreadNo) → running p past ≡ o → Contains (facts_of (lanes_at s past) o).apcs.pending x → (running p past ≡ Some (owner_of s a)) ×
    ApcIsPending s (owner_of s a) a from past
at_running s limit p past a from x r i n None e h = contains_none x h
at_running s limit p past a from x r i n (Some t) e h =
    let here = running_here s limit p t past r e in
    let there : Contains (facts s t past).apcs.pending x = subst (λ (f : ThreadFacts). Contains f.apcs.pending x) (facts_there s limit t past here.0) h in
    let owner : t ≡ owner_of s a = ap (λ (n : ℕ). record { 0 = n }) (sym (owners_fit s t past x there)) ∙ ap (owner_of s) (sym i) in
    (e ∙ ap Some owner, (x, subst (λ (t : ThreadNo). Contains (facts s t past).apcs.pending x) owner there, sym i, sym n))

-- in a run an APC known as the next to begin is pending at its owner, which runs on the processor
apc_named : (s : Script) (limit : ℕ) (p : CpuNo) (past : List Event) (a : ApcNo) (from : ℕ) → IsRun s limit past →
    KnownBegin s p (own_of s p past) (lanes_at s past) (Apc a) from → (running p past ≡ Some (owner_of s a)) × ApcIsPending s (owner_of s a) a from past
apc_named s limit p past a from r (inl k) =
    let x = own_of s p past in
    let l = lanes_at s past in
    at_running s limit p past a from k.1.pick r k.1.apc k.1.number (running p past) refl
    (deliverable_pending (facts_of l x.frames.running).apcs (regions_of (thread_part x.frames)) (level_at x) k.1.pick k.1.first)
apc_named s limit p past a from r (inr k) =
    at_running s limit p past a from k.1.pick r k.1.apc k.1.number (running p past) refl
    (user_due_pending (facts_of (lanes_at s past) (running p past)) k.1.pick k.1.first)

-- in a run what a processor is known to do next names a pending insert if it delivers one
names : (s : Script) (limit : ℕ) (p : CpuNo) (past : List Event) (w : What) → IsRun s limit past → nat_lt p.0 s.cpus ≡ true →
    (is_next w ≡ true → Known s p (own_of s p past) (lanes_at s past) w) → NamesPending s p w past
names s limit p past (Begin (Dpc d) from) r has k = dpc_named s p past OrdinaryPart d from has (k refl).1
names s limit p past (Begin (Threaded d) from) r has k = dpc_named s p past ThreadedPart d from has (k refl).1
names s limit p past (Begin (Apc a) from) r has k = apc_named s limit p past a from r (k refl)
names s limit p past (Flush a from) r has k =
    let q = k refl in
    at_running s limit p past a from q.2.pick r q.2.apc q.2.number (Some q.0) q.1.thread
    (kind_pending UserApc (facts_at (lanes_at s past) q.0).apcs q.2.pick q.2.first)
names s limit p past w r has k = tt

-- in a run each begin of a DPC or APC and each flush names an insert that was pending just before it
pub deliveries_name_pending_inserts : (s : Script) (limit : ℕ) (e : Event) (past : List Event) → IsRun s limit (e ∷ past) → NamesPending s e.cpu e.what past
deliveries_name_pending_inserts s limit e past r =
    names s limit e.cpu past e.what r.1 (legal_cpu s limit e past r.0) (legal_known s limit e past r.0)
