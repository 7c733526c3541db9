-- A thread's open frames have entered no more regions than its processor has made events.
use Rattle.nt_event.specs.Calls.{wait_begun}
use Rattle.nt_event.specs.Frames.{at_name, called, done_to, due_of, effect_by, ended_base, flushed, freed, is_base_body, new_frame, normal_of, resumed}
use Rattle.nt_event.specs.Frames.{rewaited, thread_after, thread_frames, thread_if, time}
use Rattle.nt_event.specs.Numbers.{is_by, is_of}
use Rattle.nt_event.specs.Own.{made}
use Rattle.nt_event.specs.Regions.{crit_of, guard_of}
use Rattle.nt_event.specs.Replies.{is_done}
use Rattle.nt_event.specs.Routines.{kind_of, rundown_of}
use Rattle.nt_event.specs.declared.commands.Command.{Command}
use Rattle.nt_event.specs.declared.commands.Command.TheVariants.{EnterCrit, EnterGuard, LeaveCrit, LeaveGuard}
use Rattle.nt_event.specs.declared.commands.Reply.{Reply}
use Rattle.nt_event.specs.declared.events.Begun.TheVariants.{Apc}
use Rattle.nt_event.specs.declared.events.Event.{Event}
use Rattle.nt_event.specs.declared.events.What.{What}
use Rattle.nt_event.specs.declared.events.What.TheVariants.{Begin, Call, End, Flush, Free, Gone, Normal, Rewait, Switch}
use Rattle.nt_event.specs.declared.frames.Again.{Again}
use Rattle.nt_event.specs.declared.frames.Body.{Body}
use Rattle.nt_event.specs.declared.frames.Body.TheVariants.{Apc as OnApc, Base as OnBase, Rundown as OnRundown}
use Rattle.nt_event.specs.Frame.{Frame}
use Rattle.nt_event.specs.declared.numbers.CpuNo.{CpuNo}
use Rattle.nt_event.specs.declared.numbers.RoutineNo.{RoutineNo}
use Rattle.nt_event.specs.declared.numbers.ThreadNo.{ThreadNo}
use Rattle.nt_event.specs.declared.scripts.Script.{Script}
use Rattle.std.proofs.Common.{arith, refl, sum_by}
use Rattle.std.proofs.lemmas.List.Sums.{sum_by-cons}
use Rattle.std.specs.Prelude.{Bool, List, None, Option, Some, [], false, if◌then◌else◌, length, true, ℕ, ◌+◌, ◌==◌, ◌∷◌, ◌≡◌, ◌≤◌}

-- a count of a frame, which a call raises by one at most
record Counts (c : Frame → ℕ) : Type 0 where
  anew : (n : ℕ) (b : Body) → c (new_frame n b) ≡ 0
  called : (due : Option ℕ) (k : Command) (y : Reply) (f : Frame) → c (called due k y f) ≤ c f + 1
  rewaited : (y : Reply) (f : Frame) → c (rewaited y f) ≡ c f
  normal : (f : Frame) → c (normal_of f) ≡ 0
  freed : (f : Frame) → c (freed f) ≡ c f
  ended : (f : Frame) → c (ended_base f) ≡ 0
  resumed : (st : Option ℕ) (f : Frame) → c (resumed st f) ≡ c f

-- a command that was done raises each of the two counts of its frame by one at most
done_raises : (k : Command) (f : Frame) → ((done_to k f).crit ≤ f.crit + 1) × ((done_to k f).guard ≤ f.guard + 1)
done_raises EnterCrit f = (omega arith, omega arith)
done_raises LeaveCrit f = (omega arith, omega arith)
done_raises EnterGuard f = (omega arith, omega arith)
done_raises LeaveGuard f = (omega arith, omega arith)
done_raises k f = (omega arith, omega arith)

-- so does a call
call_raises : (due : Option ℕ) (k : Command) (y : Reply) (f : Frame) → ((called due k y f).crit ≤ f.crit + 1) × ((called due k y f).guard ≤ f.guard + 1)
call_raises due k y f = go (wait_begun due k)
  where
    if_done : (b : Bool) → ((if b then done_to k f else f).crit ≤ f.crit + 1) × ((if b then done_to k f else f).guard ≤ f.guard + 1)
    if_done true = done_raises k f
    if_done false = (omega arith, omega arith)

    go : (o : Option Again) → ((effect_by o k y f).crit ≤ f.crit + 1) × ((effect_by o k y f).guard ≤ f.guard + 1)
    go (Some w) = (omega arith, omega arith)
    go None = if_done (is_done y)

-- one of the two counts of a frame: of the critical regions and of the guarded ones that it is in
record Picks (pick : ℕ → ℕ → ℕ) : Type 0 where
  none : pick 0 0 ≡ 0
  raised : (crit guard new_crit new_guard : ℕ) → new_crit ≤ crit + 1 → new_guard ≤ guard + 1 → pick new_crit new_guard ≤ pick crit guard + 1

-- the count of critical regions is one of the two counts of a frame
picks_crit : Picks (λ crit guard. crit)
picks_crit = record { none = refl; raised = λ crit guard new_crit new_guard at_crit at_guard. at_crit }

-- the count of guarded regions is one of the two counts of a frame
picks_guard : Picks (λ crit guard. guard)
picks_guard = record { none = refl; raised = λ crit guard new_crit new_guard at_crit at_guard. at_guard }

-- each of the two is such a count
counts : (pick : ℕ → ℕ → ℕ) → Picks pick → Counts (λ f. pick f.crit f.guard)
counts pick picks = record {
  anew = λ n b. picks.none;
  called = λ due k y f. (let raises = call_raises due k y f in
      picks.raised f.crit f.guard (called due k y f).crit (called due k y f).guard raises.0 raises.1);
  rewaited = λ y f. refl;
  normal = λ f. picks.none;
  freed = λ f. refl;
  ended = λ f. picks.none;
  resumed = λ st f. keeps st f;
}
  where
    keeps : (st : Option ℕ) (f : Frame) → pick (resumed st f).crit (resumed st f).guard ≡ pick f.crit f.guard
    keeps None f = refl
    keeps (Some x) f = refl

module _ (c : Frame → ℕ) (k : Counts c) where
  at_name_counts : (n : ℕ) (g : Frame → Frame) (fs : List Frame) → ((f : Frame) → c (g f) ≤ c f + 1) → sum_by c (at_name n g fs) ≤ sum_by c fs + 1
  at_name_counts n g [] h = omega arith
  at_name_counts n g (f ∷ fs) h = go (f.name == n)
    where
      go : (b : Bool) → sum_by c ((if b then g f else f) ∷ fs) ≤ sum_by c (f ∷ fs) + 1
      go true = let l = h f in omega (arith, l, sum_by-cons c (g f) fs, sum_by-cons c f fs)
      go false = omega arith

  new_counts : (n : ℕ) (b : Body) (fs : List Frame) → sum_by c (new_frame n b ∷ fs) ≤ sum_by c fs + 1
  new_counts n b fs = let z = k.anew n b in omega (arith, z, sum_by-cons c (new_frame n b) fs)

  after_counts : (s : Script) (n : ℕ) (due : Option ℕ) (w : What) (fs : List Frame) → sum_by c (thread_after s n due w fs) ≤ sum_by c fs + 1
  after_counts s n due (Switch u st) [] = new_counts n (OnBase u) []
  after_counts s n due (Switch u st) (f ∷ fs) =
      let z = k.resumed st f in omega (arith, z, sum_by-cons c (resumed st f) fs, sum_by-cons c f fs)
  after_counts s n due (Begin (Apc a) from) fs = new_counts n (OnApc a (kind_of s a)) fs
  after_counts s n due (Flush a from) fs = go (rundown_of s a)
    where
      go : (r : Option RoutineNo) → sum_by c (flushed n a r fs) ≤ sum_by c fs + 1
      go None = omega arith
      go (Some r) = new_counts n (OnRundown a) fs
  after_counts s n due (Call f m y) fs = at_name_counts f (called due m y) fs (λ g. k.called due m y g)
  after_counts s n due (Rewait f y) fs = at_name_counts f (rewaited y) fs (λ g. let z = k.rewaited y g in omega (arith, z))
  after_counts s n due (Normal f) fs = at_name_counts f normal_of fs (λ g. let z = k.normal g in omega (arith, z))
  after_counts s n due (Free f m) fs = at_name_counts f freed fs (λ g. let z = k.freed g in omega (arith, z))
  after_counts s n due (End f) [] = omega arith
  after_counts s n due (End f) (g ∷ fs) = go (g.name == f) (is_base_body g.body)
    where
      go : (a b : Bool) → sum_by c (if a then (if b then (ended_base g ∷ fs) else fs) else (g ∷ fs)) ≤ sum_by c (g ∷ fs) + 1
      go true true = let z = k.ended g in omega (arith, z, sum_by-cons c (ended_base g) fs, sum_by-cons c g fs)
      go true false = omega (arith, sum_by-cons c g fs)
      go false b = omega arith
  after_counts s n due (Gone u) fs = omega arith
  after_counts s n due w fs = omega arith

  made_counts : (s : Script) (p : CpuNo) (t : ThreadNo) (past : List Event) → sum_by c (thread_frames s p t past) ≤ made p past
  made_counts s p t [] = omega arith
  made_counts s p t (e ∷ past) = go (is_of e p) (is_by e t) (made_counts s p t past)
    where
      fs : List Frame
      fs = thread_frames s p t past

      go : (a b : Bool) → sum_by c (thread_frames s p t past) ≤ made p past →
          sum_by c (if a then thread_if b s (length past) (due_of e.what (time past)) e.what (thread_frames s p t past) else thread_frames s p t past)
          ≤ (if a then made p past + 1 else made p past)
      go true true h = let z = after_counts s (length past) (due_of e.what (time past)) e.what (thread_frames s p t past) in omega (arith, z, h)
      go true false h = omega (arith, h)
      go false b h = h

-- a call adds at most one to the critical regions of its frame
pub crit_called : (due : Option ℕ) (c : Command) (y : Reply) (f : Frame) → (called due c y f).crit ≤ f.crit + 1
crit_called due c y f = (call_raises due c y f).0

-- a call adds at most one to the guarded regions of its frame
pub guard_called : (due : Option ℕ) (c : Command) (y : Reply) (f : Frame) → (called due c y f).guard ≤ f.guard + 1
guard_called due c y f = (call_raises due c y f).1

-- a thread's frames are in no more critical regions than its processor has made events
pub crit_made : (s : Script) (p : CpuNo) (t : ThreadNo) (past : List Event) → crit_of (thread_frames s p t past) ≤ made p past
crit_made s p t past = made_counts (λ f. f.crit) (counts (λ crit guard. crit) picks_crit) s p t past

-- a thread's frames are in no more guarded regions than its processor has made events
pub guard_made : (s : Script) (p : CpuNo) (t : ThreadNo) (past : List Event) → guard_of (thread_frames s p t past) ≤ made p past
guard_made s p t past = made_counts (λ f. f.guard) (counts (λ crit guard. guard) picks_guard) s p t past
