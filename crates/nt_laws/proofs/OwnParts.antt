-- What a processor keeps is determined by its part of the history.
use Rattle.std.proofs.Common.{ap, sym, ◌∙◌}
use Rattle.std.specs.Prelude.{Bool, List, None, [], false, if◌then◌else◌, length, refl, true, ℕ, ◌+◌, ◌<◌, ◌∷◌, ◌≡◌}
use Rattle.nt_event.specs.declared.events.Event.{Event}
use Rattle.nt_event.specs.declared.numbers.CpuNo.{CpuNo}
use Rattle.nt_event.specs.declared.scripts.Script.{Script}
use Rattle.nt_event.specs.Frames.{due_of, frames_of, own_after, own_frames, running, running_after, thread_frames, thread_if, time}
use Rattle.nt_event.specs.Own.{fire, fire_after, is_rest, made, own_of, rested, took, took_after}
use Rattle.nt_event.specs.Regions.{owes_sweep, sweep_after}
use Rattle.nt_event.specs.Requests.{seen, served}
use Rattle.nt_event.specs.Step.{step}
use Rattle.nt_event.specs.Numbers.{is_by, is_of, thread}
use Rattle.nt_event.proofs.Tables.{table-same}
use Rattle.nt_runs.proofs.Rundown.Run.{after}
use Rattle.nt_laws.specs.Locality.{Made, own_part}

-- ---- by the events of the part

module _ {A : Type 0} (start : A) (after : Made → A → A) where
  by_part : List Made → A
  by_part [] = start
  by_part (m ∷ ms) = after m (by_part ms)

-- a thing that only a processor's own events change is determined by the processor's own part
by_own : {A : Type 0} (start : A) (after : Made → A → A) (f : List Event → A) (p : CpuNo) → f [] ≡ start →
    ((e : Event) (past : List Event) → f (e ∷ past) ≡ (if is_of e p
    then after (record { number = length past; event = e; due = due_of e.what (time past) }) (f past) else f past)) → (past : List Event) → f past
    ≡ by_part start after (own_part p past)
unfolding by_part
by_own start after f p z step [] = z
by_own {A} start after f p z step (e ∷ past) =
    step e past ∙ go (is_of e p) (by_own start after f p z step past)
  where
    go : (b : Bool) → f past ≡ by_part start after (own_part p past) →
        (if b then after (record { number = length past; event = e; due = due_of e.what (time past) }) (f past) else f past)
        ≡ by_part start after (if b then (record { number = length past; event = e; due = due_of e.what (time past) } ∷ own_part p past) else own_part p past)
    go true ih = ap (after (record { number = length past; event = e; due = due_of e.what (time past) })) ih
    go false ih = ih

-- so two histories with the same part give the same
same_by : {A : Type 0} (start : A) (after : Made → A → A) (f : List Event → A) (p : CpuNo) → f [] ≡ start →
    ((e : Event) (past : List Event) → f (e ∷ past) ≡ (if is_of e p
    then after (record { number = length past; event = e; due = due_of e.what (time past) }) (f past) else f past)) → (h k : List Event) → own_part p h
    ≡ own_part p k → f h ≡ f k
same_by start after f p z step h k e =
    by_own start after f p z step h ∙ (ap (by_part start after) e ∙ sym (by_own start after f p z step k))

-- what a processor keeps is equal in histories with the same own part and the same values noticed and served
pub keeps_its_part : (s : Script) (p : CpuNo) (h k : List Event) → own_part p h ≡ own_part p k → ((c : ℕ) → c < 16 → seen s p c h ≡ seen s p c k) →
    ((c : ℕ) → c < 16 → served s p c h ≡ served s p c k) → own_of s p h ≡ own_of s p k
keeps_its_part s p h k e f g = λ i. record {
  made = same_by 0 (λ m x. x + 1) (made p) p refl (λ e past. refl) h k e i;
  frames = frames i;
  seen = table-same 16 (λ c. seen s p c h) (λ c. seen s p c k) f i;
  served = table-same 16 (λ c. served s p c h) (λ c. served s p c k) g i;
  rested = same_by false (λ m x. is_rest m.event.what) (rested p) p refl (λ e past. refl) h k e i;
  took = same_by None (λ m x. took_after m.event.what x) (took p) p refl (λ e past. refl) h k e i;
  fire = same_by None (λ m x. fire_after s m.event.what x) (fire s p) p refl (λ e past. refl) h k e i;
  sweep = same_by false (λ m x. sweep_after m.event.what x) (owes_sweep p) p refl (λ e past. refl) h k e i;
}
  where
    frames : frames_of s p h ≡ frames_of s p k
    frames = λ i. record {
      own = same_by [] (λ m x. own_after m.number m.due m.event.what x) (own_frames p) p refl (λ e past. refl) h k e i;
      running = same_by None (λ m x. running_after m.event.what x) (running p) p refl (λ e past. refl) h k e i;
      threads = table-same (length s.threads) (λ t. thread_frames s p (thread t) h) (λ t. thread_frames s p (thread t) k)
          (λ t l. same_by [] (λ m x. thread_if (is_by m.event (thread t)) s m.number m.due m.event.what x) (thread_frames s p (thread t)) p refl
          (λ e past. refl) h k e) i;
    }
