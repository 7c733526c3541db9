-- In a run, what holds of a leaving thread.
use Rattle.std.proofs.Common.{ap, sym, ◌∙◌}
use Rattle.std.specs.Prelude.{Bool, List, None, Option, Some, [], false, length, refl, true, ℕ, ◌∷◌, ◌≡◌}
use Rattle.nt_event.specs.declared.events.Begun.TheVariants.{Apc, Dpc, Int, Threaded}
use Rattle.nt_event.specs.declared.events.Event.{Event}
use Rattle.nt_event.specs.declared.events.What.{What}
use Rattle.nt_event.specs.declared.events.What.TheVariants.{Begin, Call, Clean, End, Expire, Fire, Flush, Free, Gone, Look, Normal, Rest, Rewait, Switch}
use Rattle.nt_event.specs.declared.numbers.ThreadNo.{ThreadNo}
use Rattle.nt_event.specs.declared.scripts.Script.{Script}
use Rattle.nt_event.specs.Frames.{called, due_of, freed, normal_of, rewaited, running, thread_after, thread_frames, time}
use Rattle.nt_event.specs.Regions.{stand_at}
use Rattle.nt_event.specs.Requests.{serves}
use Rattle.nt_event.specs.Routines.{cpu_of}
use Rattle.nt_event.specs.Script.{has_thread}
use Rattle.nt_event.specs.Step.{IsLegal, IsRun, thread_field}
use Rattle.nt_event.specs.Threads.{ThreadFacts}
use Rattle.nt_event.specs.Waits.{facts, made_facts, named_facts}
use Rattle.nt_event.specs.Numbers.{is_by}
use Rattle.nt_runs.proofs.Calm.{ran}
use Rattle.nt_runs.proofs.Running.{called_keeps, freed_keeps, normal_keeps, rewaited_keeps, same_thread, thread_named}
use Rattle.nt_runs.proofs.Turns.{is_next}
use Rattle.nt_runs.proofs.Leaving.Facts.{is_end}
use Rattle.nt_runs.proofs.Rundown.{Leaves, leaves_unnamed, unnamed_leaving}
use Rattle.nt_runs.proofs.Rundown.Run.{after, before, begun, changed, cleaned, ended_frame, flushes, interrupted, kept, own, switched}
use Rattle.nt_runs.proofs.Rundown.Steps.{Stands, stands}

-- anything follows if a false leave test is true
no_leave : {A : Type 0} → false ≡ true → A
no_leave h = cc

-- case: the event is by the thread: what holds of a leaving thread holds after it
leaves_named : (s : Script) (limit : ℕ) (t : ThreadNo) (e : Event) (past : List Event) → has_thread s t ≡ true → is_by e t ≡ true → IsLegal s limit e past →
    IsRun s limit past → (facts s t (e ∷ past)).leaving ≡ true → ((facts s t past).leaving ≡ true → Leaves s t past) → Leaves s t (e ∷ past)
leaves_named s limit t e past has b g r l ih = go e.what refl
  where
    was : (w : What) → e.what ≡ w → is_end w ≡ false → (facts s t past).leaving ≡ true
    was w k n = before s limit t e past has b g r w k n l

    z : is_next e.what ≡ true → Stands s limit t past
    z n =
        stands s limit t past r (ran s limit (cpu_of s t) t e past (own s limit t e past has b g r) b g n)

    keeps : (w : What) → e.what ≡ w → is_next w ≡ true → is_end w ≡ false →
        thread_after s (length past) (due_of e.what (time past)) w (thread_frames s (cpu_of s t) t past) ≡ thread_frames s (cpu_of s t) t past → serves 1 w
        ≡ false → Leaves s t (e ∷ past)
    keeps w k n m same v =
        kept s limit t e past has b g r (z (ap is_next k ∙ n)) w k same v (was w k m) (ih (was w k m))

    go : (w : What) → e.what ≡ w → Leaves s t (e ∷ past)
    go (Switch u st) k =
        switched s limit t e past has b g r u st k (was (Switch u st) k refl) (ih (was (Switch u st) k refl))
    go (Look rises) k =
        let none : None ≡ Some t = ap (λ (w : What). thread_field w (running e.cpu past)) (sym k)
        ∙ (sym (thread_named s limit e past g) ∙ same_thread e.thread t b) in
        absurd (clash none)
      where
        clash : ◌≡◌ {A = Option ThreadNo} None (Some t) → ⊥
        clash h = cc
    go (Begin (Apc a) from) k =
        begun s limit t e past has b g r (z (ap is_next k)) a from k (was (Begin (Apc a) from) k refl) (ih (was (Begin (Apc a) from) k refl))
    go (Begin (Int c) from) k =
        interrupted s limit t e past has b g r (z (ap is_next k)) c from k (was (Begin (Int c) from) k refl) (ih (was (Begin (Int c) from) k refl))
    go (Begin (Dpc d) from) k = keeps (Begin (Dpc d) from) k refl refl refl refl
    go (Begin (Threaded d) from) k = keeps (Begin (Threaded d) from) k refl refl refl refl
    go (Flush a from) k =
        flushes s limit t e past has b g r (z (ap is_next k)) a from k (was (Flush a from) k refl) (ih (was (Flush a from) k refl))
    go (Call f c y) k =
        changed s limit t e past has b g r (z (ap is_next k)) (Call f c y) f (called (due_of e.what (time past)) c y) k
        (called_keeps (due_of e.what (time past)) c y) refl refl (was (Call f c y) k refl) (ih (was (Call f c y) k refl))
    go (Rewait f y) k =
        changed s limit t e past has b g r (z (ap is_next k)) (Rewait f y) f (rewaited y) k (rewaited_keeps y) refl refl (was (Rewait f y) k refl)
        (ih (was (Rewait f y) k refl))
    go (Normal f) k =
        changed s limit t e past has b g r (z (ap is_next k)) (Normal f) f normal_of k normal_keeps refl refl (was (Normal f) k refl)
        (ih (was (Normal f) k refl))
    go (Clean c) k =
        cleaned s limit t e past has b g r (z (ap is_next k)) c k (was (Clean c) k refl) (ih (was (Clean c) k refl))
    go (Expire key from) k = keeps (Expire key from) k refl refl refl refl
    go (Free f c) k =
        changed s limit t e past has b g r (z (ap is_next k)) (Free f c) f freed k freed_keeps refl refl (was (Free f c) k refl)
        (ih (was (Free f c) k refl))
    go (Fire d y) k = keeps (Fire d y) k refl refl refl refl
    go Rest k = keeps Rest k refl refl refl refl
    go (End f) k = ended_frame s limit t e past has b g r (z (ap is_next k)) f k l ih
    go (Gone u) k =
        let gone : (facts s t (e ∷ past)).leaving ≡ false = ap (λ (x : ThreadFacts). x.leaving) (after s limit t e past has b g r)
        ∙ ap (λ (w : What). (named_facts s t (length past) w (made_facts s (length past) (stand_at s (cpu_of s t) past) w (facts s t past))).leaving) k in
        no_leave (sym gone ∙ l)

-- whether or not the event is by the thread: what holds of a leaving thread holds after it
leaves_after : (s : Script) (limit : ℕ) (t : ThreadNo) (e : Event) (past : List Event) (by : Bool) → has_thread s t ≡ true → is_by e t ≡ by →
    IsLegal s limit e past → IsRun s limit past → (facts s t (e ∷ past)).leaving ≡ true → ((facts s t past).leaving ≡ true → Leaves s t past) →
    Leaves s t (e ∷ past)
leaves_after s limit t e past true has b g r l ih = leaves_named s limit t e past has b g r l ih
leaves_after s limit t e past false has b g r l ih =
    let was : (facts s t past).leaving ≡ true = sym (unnamed_leaving s t e past b) ∙ l in
    leaves_unnamed s limit t e past has b g r was (ih was)

-- in a run a leaving thread has no user APC frame, and no kernel APC pending once a rundown began
pub leaves : (s : Script) (limit : ℕ) (t : ThreadNo) (past : List Event) → has_thread s t ≡ true → IsRun s limit past → (facts s t past).leaving ≡ true →
    Leaves s t past
leaves s limit t [] has r l = no_leave l
leaves s limit t (e ∷ past) has r l =
    leaves_after s limit t e past (is_by e t) has refl r.0 r.1 l (λ k. leaves s limit t past has r.1 k)
