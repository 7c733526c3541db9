-- What held lanes tell.
use Rattle.std.proofs.Common.{ap, arith, inl, inr, refl, subst, sym, ◌∙◌}
use Rattle.std.proofs.lemmas.Bool.{false≢true}
use Rattle.std.specs.Prelude.{All, Bool, IfSome, IsSome, IsTrue, List, None, Option, Some, [], false, if◌then◌else◌, is_some, option_map, suc, true, unwrap_or}
use Rattle.std.specs.Prelude.{ℕ, ◌<◌, ◌∷◌, ◌≡◌}
use Rattle.nt_event.specs.declared.inserts.Insert.{Insert}
use Rattle.nt_event.specs.declared.inserts.Part.{Part}
use Rattle.nt_event.specs.declared.inserts.Part.TheVariants.{Ordinary as OrdinaryPart, Threaded as ThreadedPart}
use Rattle.nt_event.specs.declared.inserts.Standing.{Standing}
use Rattle.nt_event.specs.declared.numbers.CpuNo.{CpuNo}
use Rattle.nt_event.specs.declared.numbers.DpcNo.{DpcNo}
use Rattle.nt_event.specs.declared.scripts.Script.{Script}
use Rattle.nt_event.specs.Lanes.{object_at, queue_at}
use Rattle.nt_event.specs.Objects.{is_queued, queue_for}
use Rattle.nt_event.specs.Queues.{first_dpc, is_queue}
use Rattle.nt_event.specs.Requests.{queue_asks}
use Rattle.nt_event.specs.Routines.{depth_limit, part_of}
use Rattle.nt_event.specs.Script.{has_cpu, has_dpc}
use Rattle.nt_event.specs.Timers.{Timers}
use Rattle.nt_dpc.proofs.Events.{ask_is_the_events}
use Rattle.nt_dpc.proofs.Numbered.{Stands}
use Rattle.nt_dpc.proofs.Pending.{first_stands}
use Rattle.nt_dpc.specs.Laws.{IsObject, asks_on}
use Rattle.nt_dpc.specs.Objects.{ObjectFacts}
use Rattle.nt_dpc.specs.Queues.{MayInsert, QueueFacts, asked_class, asks_dispatch, class_in}
use Rattle.nt_states.specs.Sound.{IsSound}
use Rattle.nt_timer.specs.Laws.{IsSized}
use Rattle.nt_lane.specs.Answers.{AreThere, BothAgree, HeldStates, held_lanes, timers_told}

-- ---- the objects and processors that they name are the script's

-- the named processor, or the own one where none is named, is a processor of the script
pub named_for : (s : Script) (o : Option CpuNo) (by : CpuNo) → IfSome o (λ p. IsTrue (has_cpu s p)) → IsTrue (has_cpu s by) →
    IsTrue (has_cpu s (unwrap_or o by))
named_for s None by h k = k
named_for s (Some p) by h k = h

-- the queue of the place where an object stands is of a processor of the script
pub standing_named : (s : Script) (o : Option Standing) (r : Option CpuNo) → r ≡ option_map (λ at. at.queue) o →
    IfSome o (λ at. IsTrue (has_cpu s at.queue)) → IfSome r (λ p. IsTrue (has_cpu s p))
standing_named s None r e h = rw e tt
standing_named s (Some at) r e h = rw e h

-- what holds of all inserts of a list holds of each that stands in it
stands_all : (P : Insert → Type 0) (x : Insert) (xs : List Insert) → All P xs → Stands x xs → P x
stands_all P x [] h at = absurd at
stands_all P x (y ∷ ys) h (inl same) = subst P (sym same) (h 0 y (omega arith))
stands_all P x (y ∷ ys) h (inr at) = stands_all P x ys (λ k d l. h (suc k) d (omega arith)) at

-- the first pending entry of a part names an object of the script if all entries do
pub first_named : (s : Script) (part : Part) (xs : List Insert) (r : Option (DpcNo × ℕ)) → All (λ x. IsTrue (has_dpc s x.dpc)) xs →
    r ≡ option_map (λ i. (i.dpc, i.number)) (first_dpc part xs) → IfSome r (λ y. IsTrue (has_dpc s y.0))
first_named s part xs r h e = rw e (go (first_dpc part xs) refl)
  where
    go : (o : Option Insert) → first_dpc part xs ≡ o →
        IfSome (option_map (λ i. let y : DpcNo × ℕ = (i.dpc, i.number) in y) o) (λ y. IsTrue (has_dpc s y.0))
    go None k = tt
    go (Some i) k = stands_all (λ (x : Insert). IsTrue (has_dpc s x.dpc)) i xs h (first_stands part xs i k)

-- ---- an insert of the held object into the held queue

-- a DPC object that stands nowhere stands in no queue that is held
nowhere : (x : Option Standing) (p : CpuNo) → is_some x ≡ false → is_queue (option_map (λ at. at.queue) x) p ≡ false
nowhere None p h = refl
nowhere (Some y) p h = cc

-- an object may be inserted into the queue that it goes to if both agree on whether it stands there
pub may_insert : (o : ObjectFacts) (q : QueueFacts) (by : CpuNo) → BothAgree (Some o) (Some q) → queue_for o.state.target by ≡ q.cpu → MayInsert q o by
may_insert o q by agree to = λ free. (to, agree ∙ nowhere o.state.standing q.cpu free)

-- an insert of a held object that is not queued asks just for the class that the held queue gives it
pub held_asks : (h : HeldStates) (d : DpcNo) (by p : CpuNo) (o : ObjectFacts) (q : QueueFacts) (class : Option ℕ) →
    is_queued (object_at (held_lanes h) d) ≡ false → p ≡ queue_for (object_at (held_lanes h) d).target by → o.dpc ≡ d → o.state ≡ object_at (held_lanes h) d →
    o.part ≡ part_of h.script o.dpc → q.state ≡ queue_at (held_lanes h) p → q.cpu ≡ p → q.limit ≡ depth_limit h.script → class ≡ asked_class q o by →
    queue_asks h.script d by (held_lanes h) ≡ asks_on (queue_for (object_at (held_lanes h) d).target by) class
held_asks h d by p o q class free to od os op qs qc limit e =
    let object : IsObject h.script (held_lanes h).objects o = record { state = rw od (sym os); part = sym op } in
    let at : queue_at (held_lanes h) q.cpu ≡ q.state = rw qc (sym qs) in
    let goes : queue_for o.state.target by ≡ q.cpu = rw (os, qc) (sym to) in
    let f : is_queued o.state ≡ false = rw os free in
    let main : queue_asks h.script o.dpc by (held_lanes h) ≡ asks_on q.cpu (asked_class q o by) =
    ask_is_the_events h.script (held_lanes h) o q by object at limit
    goes f in
    let at_d = ap (λ (x : DpcNo). queue_asks h.script x by (held_lanes h)) (sym od) in
    at_d ∙ (main ∙ (ap (λ (x : CpuNo). asks_on x (asked_class q o by)) (qc ∙ to)
    ∙ ap (asks_on (queue_for (object_at (held_lanes h) d).target by)) (sym e)))

-- a class that an insert asks for is below sixteen
pub asked_below : (q : QueueFacts) (o : ObjectFacts) (by : CpuNo) (class : Option ℕ) → class ≡ asked_class q o by → IfSome class (λ c. c < 16)
asked_below q o by class e = rw e (go (is_queued o.state) o.part (asks_dispatch q o by))
  where
    go : (b : Bool) (part : Part) (a : Bool) → IfSome (if b then None else class_in part a) (λ c. c < 16)
    go true part a = tt
    go false ThreadedPart a = omega arith
    go false OrdinaryPart true = omega arith
    go false OrdinaryPart false = tt

-- ---- the timers

-- the held lanes that are there, the timers among them, are a sound state of all lanes of the script
pub sound_held : (h : HeldStates) → AreThere h → IsSome h.timers → IsSound (record { script = h.script; lanes = held_lanes h })
sound_held h a k = record { script = a.script; timers = go h.timers k a.timers }
  where
    go : (o : Option Timers) → IsSome o → IfSome o (IsSized h.script) → IsSized h.script (timers_told h.script o)
    go None l s = absurd (false≢true l)
    go (Some t) l s = s
