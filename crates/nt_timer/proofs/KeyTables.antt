-- Timers and delays in one table, by the numbers of their keys.
use Rattle.std.proofs.Common.{◌≡◌, ◌<◌, ◌≤◌, ◌+◌, ◌-◌, List, [], ◌∷◌, Option, None, ℕ, ap, arith, drop, length, refl, replicate, set, suc, take, zero, ◌∙◌}
use Rattle.nt_event.specs.declared.commands.TimerKey.{TimerKey}
use Rattle.nt_event.specs.declared.commands.TimerKey.TheVariants.{Delay as OfDelay, Timer as OfTimer}
use Rattle.nt_event.specs.declared.inserts.Setting.{Setting}
use Rattle.nt_event.specs.declared.numbers.ThreadNo.{ThreadNo}
use Rattle.nt_event.specs.declared.numbers.TimerNo.{TimerNo}
use Rattle.nt_event.specs.Timers.{Timers, setting_in}
use Rattle.nt_timer.specs.Settings.{IsNumbered, new_timers, with_setting}
use Rattle.nt_timer.specs.Wheel.{WheelFacts}
use Rattle.nt_timer.proofs.Firsts.{timers_of}
use Rattle.std.proofs.lemmas.List.{drop-replicate, drop-set-add, drop-set-lt, get_or-set_other, length-replicate, take-replicate, take-set-le}

-- the first settings of a written table are the first settings written
take-set : (n : ℕ) (xs : List (Option Setting)) (i : ℕ) (o : Option Setting) → take n (set xs i o) ≡ set (take n xs) i o
take-set zero xs i o = refl
take-set (suc n) [] i o = refl
take-set (suc n) (x ∷ xs) zero o = refl
take-set (suc n) (x ∷ xs) (suc i) o = ap (λ (ys : List (Option Setting)). x ∷ ys) (take-set n xs i o)

-- writing an entry of a number below 65536 keeps the entries from 65536 on unset
pub numbered_set : (xs : List (Option Setting)) (t : ℕ) (o : Option Setting) → t < 65536 → IsNumbered xs → IsNumbered (set xs t o)
numbered_set xs t o less h n far =
    let ne : n ≡ t → ⊥ = λ e. omega arith in get_or-set_other xs t n o None ne ∙ h n far

-- ---- a key of either kind is written

-- writing a timer's entry in the common table gives that timer the setting and changes no other key
pub timer_put : (now timers : ℕ) (settings : List (Option Setting)) (t : TimerNo) (o : Option Setting) (key : TimerKey) (x : Timers) (w : WheelFacts) →
    timers_of now timers settings ≡ x → key ≡ OfTimer t → t.0 < timers → w ≡ record { now = now; settings = set settings t.0 o } →
    timers_of w.now timers w.settings ≡ with_setting key o x
timer_put now timers settings t o key x w e k less h =
    let a = take-set timers settings t.0 o in
    let b = drop-set-lt timers settings t.0 o less in
    rw (h, k, ← e) (λ i. record { now = now; timers = a i; delays = b i })

-- writing the entry of a thread's delay in the common table sets that delay and changes no other key
pub delay_put : (now timers : ℕ) (settings : List (Option Setting)) (t : ThreadNo) (o : Option Setting) (key : TimerKey) (x : Timers) (w : WheelFacts) →
    timers_of now timers settings ≡ x → key ≡ OfDelay t → w ≡ record { now = now; settings = set settings (timers + t.0) o } →
    timers_of w.now timers w.settings ≡ with_setting key o x
delay_put now timers settings t o key x w e k h =
    let a = take-set-le timers settings (timers + t.0) o (omega arith) in
    let b = drop-set-add timers settings t.0 o in
    rw (h, k, ← e) (λ i. record { now = now; timers = a i; delays = b i })

-- after the delay of a thread below 65536 is written, timers and delays from number 65536 on are still unset
pub delay_numbered : (timers : ℕ) (settings settings' : List (Option Setting)) (t : ℕ) (o : Option Setting) → settings' ≡ set settings (timers + t) o →
    t < 65536 → IsNumbered (take timers settings) → IsNumbered (drop timers settings) → IsNumbered (take timers settings') × IsNumbered (drop timers settings')
delay_numbered timers settings settings' t o e less a b = (
  rw (e, take-set-le timers settings (timers + t) o (omega arith)) a,
  rw (e, drop-set-add timers settings t o) (numbered_set (drop timers settings) t o less b),
)

-- ---- a new table

-- a table of absent settings has no setting at any place
none_replicated : (k i : ℕ) → setting_in (replicate k None) i ≡ None
none_replicated zero i = refl
none_replicated (suc k) zero = refl
none_replicated (suc k) (suc i) = none_replicated k i

-- in a new table neither a timer nor a delay from number 65536 on is set
pub new_numbered : (timers threads : ℕ) (w : WheelFacts) → w ≡ record { now = 0; settings = replicate (timers + threads) None } →
    IsNumbered (take timers w.settings) × IsNumbered (drop timers w.settings)
new_numbered timers threads w e =
    let n : timers + threads - timers ≡ threads = omega arith in (
      rw (e, take-replicate {X = Option Setting} timers (timers + threads) None (omega arith)) (λ i far. none_replicated timers i),
      rw (e, drop-replicate {X = Option Setting} timers (timers + threads) None, n) (λ i far. none_replicated threads i),
    )

-- a new table at time 0 stands for new timers
pub new_tables : (timers threads : ℕ) (w : WheelFacts) → w ≡ record { now = 0; settings = replicate (timers + threads) None } →
    timers_of w.now timers w.settings ≡ new_timers timers threads
new_tables timers threads w e =
    let n : timers + threads - timers ≡ threads = omega arith in
    let a = take-replicate {X = Option Setting} timers (timers + threads) None (omega arith) in
    let b = drop-replicate {X = Option Setting} timers (timers + threads) None ∙ ap (λ (k : ℕ). replicate k None) n in
    rw e (λ i. record { now = 0; timers = a i; delays = b i })

-- a new table has at least as many entries as there are timers
pub new_length : (timers threads : ℕ) (w : WheelFacts) → w ≡ record { now = 0; settings = replicate (timers + threads) None } → timers ≤ length w.settings
new_length timers threads w e = rw (e, length-replicate {A = Option Setting} (timers + threads) None) (omega arith)
