-- At the close, nothing is eligible on a processor that isn't cut, and no DPC is pending there.
use Rattle.std.proofs.Common.{ap, arith, inl, inr, subst, sym, ◌∙◌}
use Rattle.std.proofs.lemmas.Bool.{lt-ltb}
use Rattle.std.specs.List.{Contains}
use Rattle.std.specs.Option.{option_map_or}
use Rattle.std.specs.Prelude.{Bool, List, Option, [], false, nat_lt, not, refl, suc, true, zero, ℕ, ◌&&◌, ◌∷◌, ◌≡◌, ◌⊎◌}
use Rattle.nt_event.specs.declared.events.Event.{Event}
use Rattle.nt_event.specs.Frame.{Frame}
use Rattle.nt_event.specs.declared.inserts.Insert.{Insert}
use Rattle.nt_event.specs.declared.inserts.Part.{Part}
use Rattle.nt_event.specs.declared.inserts.Part.TheVariants.{Ordinary as OrdinaryPart, Threaded as ThreadedPart}
use Rattle.nt_event.specs.declared.numbers.CpuNo.{CpuNo}
use Rattle.nt_event.specs.declared.numbers.DpcNo.{DpcNo}
use Rattle.nt_event.specs.declared.numbers.ThreadNo.{ThreadNo}
use Rattle.nt_event.specs.declared.scripts.Script.{Script}
use Rattle.nt_event.specs.Eligible.{DpcRequest, ExpiryRequest, FlushRequest, IntRequest, KernelApcRequest, Request, ThreadedRequest, UserApcRequest, eligible}
use Rattle.nt_event.specs.Eligible.{is_at_base, is_first_dpc}
use Rattle.nt_event.specs.Classes.{is_interrupt_level}
use Rattle.nt_event.specs.Frames.{frames_in, frames_of, is_base_body, is_on_thread, own_frames, thread_part}
use Rattle.nt_event.specs.Jobs.{is_due, rests, spins_still}
use Rattle.nt_event.specs.Lanes.{lanes_at, queue_at}
use Rattle.nt_event.specs.Own.{own_of}
use Rattle.nt_event.specs.Queues.{first_dpc, is_of_dpc, pending, same_part}
use Rattle.nt_event.specs.Regions.{owes_sweep}
use Rattle.nt_event.specs.Lists.{is_null}
use Rattle.nt_runs.proofs.Pending.{queue_there}
use Rattle.nt_event.proofs.Elements.{contains_here}
use Rattle.nt_close.specs.Close.{IsClosed}
use Rattle.nt_close.proofs.AtRest.{IsAtRest, closed_either, closed_rests, closed_stuck, no_interrupt, no_sweep, none_wanted_0, none_wanted_2, rest_inner}
use Rattle.nt_close.proofs.PendingDpcs.{ordinary_wanted, threaded_wanted}
use Rattle.nt_close.proofs.Spinning.{none_at_spin}

-- ---- no DPC is pending

-- at the close no DPC is pending in the queue of a processor that rests
pub no_dpc_is_left : (s : Script) (limit : ℕ) (p : CpuNo) (past : List Event) → IsClosed s limit p past → rests (own_of s p past) ≡ true →
    pending s p past ≡ []
no_dpc_is_left s limit p past k q = go (pending s p past) refl
  where
    there : (x : Insert) (xs : List Insert) → pending s p past ≡ x ∷ xs → Contains (pending s p past) x
    there x xs e = subst (λ (ys : List Insert). Contains ys x) (sym e) (contains_here x xs)

    one : (x : Insert) → Contains (pending s p past) x → (part : Part) → x.part ≡ part → ⊥
    one x c OrdinaryPart e =
        none_wanted_2 s p past (closed_rests s limit p past k q)
        (ordinary_wanted s limit p x past k.run k.named (closed_rests s limit p past k q).rested c (ap (same_part OrdinaryPart) e))
    one x c ThreadedPart e =
        none_wanted_0 s p past (closed_rests s limit p past k q) (threaded_wanted s limit p x past k.run k.named c (ap (same_part ThreadedPart) e))

    go : (xs : List Insert) → pending s p past ≡ xs → pending s p past ≡ []
    go [] e = e
    go (x ∷ xs) e = absurd (one x (there x xs e) x.part refl)

-- at the close no DPC of the part is the first in the queue of a processor that rests
none_first : (s : Script) (limit : ℕ) (p : CpuNo) (part : Part) (d : DpcNo) (past : List Event) → IsClosed s limit p past →
    rests (own_of s p past) ≡ true →
    is_first_dpc part d (queue_at (lanes_at s past) p) ≡ false
none_first s limit p part d past k q =
    ap (is_first_dpc part d) (queue_there s p past k.named)
    ∙ ap (λ (xs : List Insert). option_map_or (is_of_dpc d) (first_dpc part xs) false) (no_dpc_is_left s limit p past k q)

-- ---- nothing is eligible

-- an "and" is false if its first side is false
fails_first : (a b : Bool) → a ≡ false → (a && b) ≡ false
fails_first true b h = cc
fails_first false b h = refl

-- an "and" is false if its second side is false
fails_second : (a b : Bool) → b ≡ false → (a && b) ≡ false
fails_second true b h = h
fails_second false b h = refl

-- an "and" is false if its second side is false whenever its first is true
tested_then : (a b : Bool) → (a ≡ true → b ≡ false) → (a && b) ≡ false
tested_then true b h = h refl
tested_then false b h = refl

-- an interrupt class is above 0
above_0 : (c : ℕ) → is_interrupt_level c ≡ true → nat_lt 0 c ≡ true
above_0 zero h = h
above_0 (suc c) h = lt-ltb 0 (suc c) (omega arith)

-- the thread part of a processor at rest is empty
no_part : (s : Script) (p : CpuNo) (past : List Event) → IsAtRest s p past → thread_part (frames_of s p past) ≡ []
no_part s p past k =
    ap (λ (o : Option ThreadNo). option_map_or (frames_in (frames_of s p past).threads) o []) k.clear.running

-- a processor at rest doesn't stand at the base of a thread
not_at_base : (s : Script) (p : CpuNo) (past : List Event) → IsAtRest s p past → is_at_base (own_of s p past) ≡ false
not_at_base s p past k =
    ap (λ (o : Option Frame). option_map_or (λ f. is_base_body f.body) o false) (rest_inner s p past k)

-- a processor at rest isn't on a thread
not_on_thread : (s : Script) (p : CpuNo) (past : List Event) → IsAtRest s p past → is_on_thread (frames_of s p past) ≡ false
not_on_thread s p past k =
    fails_second (is_null (own_frames p past)) _ (ap (λ (fs : List Frame). not (is_null fs)) (no_part s p past k))

-- at the close no request is eligible on a processor that rests
none_at_rest : (s : Script) (limit : ℕ) (p : CpuNo) (past : List Event) (r : Request) → IsClosed s limit p past → rests (own_of s p past) ≡ true →
    eligible s p r past ≡ false
none_at_rest s limit p past (IntRequest level) k q =
    tested_then (is_interrupt_level level) _ (λ i. fails_first (is_due (own_of s p past) level) _
    (no_interrupt s p level past (closed_rests s limit p past k q) i (above_0 level i)))
none_at_rest s limit p past (ExpiryRequest key) k q =
    fails_first (owes_sweep p past) _ (no_sweep s p past (closed_rests s limit p past k q))
none_at_rest s limit p past (DpcRequest d) k q =
    fails_first (is_first_dpc OrdinaryPart d (queue_at (lanes_at s past) p)) _ (none_first s limit p OrdinaryPart d past k q)
none_at_rest s limit p past (ThreadedRequest d) k q =
    fails_first (is_first_dpc ThreadedPart d (queue_at (lanes_at s past) p)) _ (none_first s limit p ThreadedPart d past k q)
none_at_rest s limit p past (KernelApcRequest a) k q =
    fails_first (is_on_thread (frames_of s p past)) _ (not_on_thread s p past (closed_rests s limit p past k q))
none_at_rest s limit p past (UserApcRequest a) k q =
    fails_second _ _ (fails_first (is_at_base (own_of s p past)) _ (not_at_base s p past (closed_rests s limit p past k q)))
none_at_rest s limit p past (FlushRequest a) k q =
    fails_second _ _ (fails_second _ _ (fails_first (is_at_base (own_of s p past)) _ (not_at_base s p past (closed_rests s limit p past k q))))

-- at the close no request is eligible on a processor that isn't cut
pub nothing_is_eligible : (s : Script) (limit : ℕ) (p : CpuNo) (past : List Event) (r : Request) → IsClosed s limit p past → eligible s p r past ≡ false
nothing_is_eligible s limit p past r k = go (closed_either s limit p past k)
  where
    go : (rests (own_of s p past) ≡ true) ⊎ (spins_still (own_of s p past) ≡ true) → eligible s p r past ≡ false
    go (inl q) = none_at_rest s limit p past r k q
    go (inr q) = none_at_spin s limit p past k.run (closed_stuck s limit p past k q) r
