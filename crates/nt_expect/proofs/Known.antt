-- What a sound input gives: the fields of its things and numbers are read as they are written.
use Rattle.std.proofs.Common.{◌≡◌, ℕ, ◌<◌, ◌≤◌, true, List, length, Result, Ok, refl, arith, lit<}
use Rattle.std.specs.Prelude.{◌++◌, decimal, nat_lt}
use Rattle.std.proofs.lemmas.Bool.{lt-ltb, ltb-true}
use Rattle.nt_text.specs.declared.kind.ScriptKind.{ScriptKind}
use Rattle.nt_text.specs.Lines.{is_field}
use Rattle.nt_text.proofs.Decimals.{decimal_field}
use Rattle.nt_event.specs.declared.numbers.ApcNo.{ApcNo}
use Rattle.nt_event.specs.declared.numbers.DpcNo.{DpcNo}
use Rattle.nt_event.specs.declared.numbers.LockNo.{LockNo}
use Rattle.nt_event.specs.declared.numbers.ThreadNo.{ThreadNo}
use Rattle.nt_event.specs.declared.numbers.TimerNo.{TimerNo}
use Rattle.nt_event.specs.Classes.{is_isr_level}
use Rattle.nt_event.specs.Script.{has_apc, has_cpu, has_dpc, has_lock, has_thread, has_timer}
use Rattle.nt_line.specs.Fields.{read_apc, read_cpu, read_dpc, read_isr_level, read_level, read_lock, read_number, read_thread, read_timer}
use Rattle.nt_line.specs.NameLists.{show_apc, show_dpc, show_lock, show_thread, show_timer}
use Rattle.nt_line.specs.Rows.{show_cpu}
use Rattle.nt_line.proofs.FieldTexts.{Takes, cpu_again, cpu_takes, isr_level_takes, level_takes, number_again, number_takes}
use Rattle.nt_line.proofs.Found.{are_read, is_new}
use Rattle.nt_line.proofs.Spelled.{AreRead}
use Rattle.nt_line.proofs.UsedNames.{apc_takes, dpc_takes, lock_takes, thread_takes, timer_takes}
use Rattle.nt_script.specs.declared.walk.Input.{Input}
use Rattle.nt_script.specs.Sound.{IsSound}
use Rattle.nt_script.proofs.Clean.{apc_field, dpc_field, name_field, thread_field, timer_field}
use Rattle.nt_script.proofs.Fit.{Fit}
use Rattle.nt_script.proofs.Soundness.{Counts, sound_fits}

pub record Known (input : Input) : Type 0 where
  pub fit : Fit input
  pub are : AreRead input.names
  pub counts : Counts input.script input.names

-- a sound input fits, its things are read from their names, and it has as many names as things
pub known : (input : Input) → IsSound input → Known input
known input s =
    let fit = sound_fits input s in
    record {
      fit = fit;
      are = are_read input.names fit.few fit.names;
      counts = record { dpcs = s.dpcs; timers = s.timers; threads = s.threads; apcs = s.apcs; routines = s.routines; locks = s.locks };
    }

-- a field of a kind: what is read is spelled so and fits, and what fits is read and makes a field
pub record FieldOf {A : Type 0} (read : List ℕ → Result A ScriptKind) (show : A → List ℕ) (Fits : A → Type 0) : Type 0 where
  pub shown : (f : List ℕ) (x : A) → read f ≡ Ok x → f ≡ show x
  pub fits : (f : List ℕ) (x : A) → read f ≡ Ok x → Fits x
  pub again : (x : A) → Fits x → read (show x) ≡ Ok x
  pub clean : (x : A) → Fits x → is_field (show x) ≡ true

-- ---- numbers

-- the number of a note is written in decimal and read again if it has 32 bits
pub note_field : FieldOf (read_number 4294967295) decimal (λ n. n ≤ 4294967295)
note_field = record {
  shown = (number_takes 4294967295 (lit< tt)).shown;
  fits = (number_takes 4294967295 (lit< tt)).fits;
  again = λ n h. number_again 4294967295 n (lit< tt) h;
  clean = λ n h. decimal_field n (omega (arith, h));
}

-- a level is written in decimal and read again if it is at most 15
pub level_field : FieldOf read_level decimal (λ l. l ≤ 15)
level_field = record {
  shown = level_takes.shown;
  fits = level_takes.fits;
  again = λ l h. number_again 15 l (lit< tt) h;
  clean = λ l h. decimal_field l (omega (arith, h));
}

-- an interrupt routine's level is written in decimal and read again if such a routine may have it
pub isr_level_field : FieldOf read_isr_level decimal (λ l. (l ≤ 15) × (is_isr_level l ≡ true))
isr_level_field = record {
  shown = isr_level_takes.shown;
  fits = isr_level_takes.fits;
  again = λ l h. rw (number_again 15 l (lit< tt) h.0, h.1) refl;
  clean = λ l h. let le = h.0 in decimal_field l (omega (arith, le));
}

-- a processor is written and read again if the script has it
pub cpu_field : (input : Input) → Known input → FieldOf (read_cpu input.script.cpus) show_cpu (λ p. has_cpu input.script p ≡ true)
cpu_field input k = record {
  shown = (cpu_takes input.script.cpus).shown;
  fits = λ f p e. lt-ltb p.0 input.script.cpus ((cpu_takes input.script.cpus).fits f p e);
  again = λ p h. cpu_again input.script.cpus p k.fit.cpus.1 (ltb-true p.0 input.script.cpus h);
  clean = λ p h. let lt = ltb-true p.0 input.script.cpus h in let most = k.fit.cpus.1 in decimal_field p.0 (omega (arith, lt, most));
}

-- ---- names

-- a number below a count passes the test against a count equal to it
has_it : (i n m : ℕ) → n ≡ m → i < n → nat_lt i m ≡ true
has_it i n m e lt = lt-ltb i m (omega (arith, e, lt))

-- a number that passes the test against a count is below a count equal to it
below : (i n m : ℕ) → n ≡ m → nat_lt i m ≡ true → i < n
below i n m e h = let lt = ltb-true i m h in omega (arith, e, lt)

-- a name of a kind of which there are as many names as things
named : {A : Type 0} {read : List ℕ → Result A ScriptKind} {show : A → List ℕ} (number : A → ℕ) (n m : ℕ) → n ≡ m →
    Takes read show (λ x. number x < n) → ((x : A) → number x < n → read (show x) ≡ Ok x) →
    ((x : A) → number x < n → is_field (show x) ≡ true) → FieldOf read show (λ x. nat_lt (number x) m ≡ true)
named number n m same t again clean = record {
  shown = t.shown;
  fits = λ f x e. has_it (number x) n m same (t.fits f x e);
  again = λ x h. again x (below (number x) n m same h);
  clean = λ x h. clean x (below (number x) n m same h);
}

-- a DPC object is written by its name and read again if the script has it
pub dpc_named : (input : Input) → Known input → FieldOf (read_dpc input.names) (show_dpc input.names) (λ d. has_dpc input.script d ≡ true)
dpc_named input k =
    let names = input.names in
    named (λ (x : DpcNo). x.0) (length names.dpcs) (length input.script.dpcs) k.counts.dpcs (dpc_takes names k.fit.few) k.are.dpcs
    (λ x lt. dpc_field names k.fit.names x.0 lt)

-- a timer is written by its name and read again if the script has it
pub timer_named : (input : Input) → Known input → FieldOf (read_timer input.names) (show_timer input.names) (λ t. has_timer input.script t ≡ true)
timer_named input k =
    let names = input.names in
    named (λ (x : TimerNo). x.0) (length names.timers) (length input.script.timers) k.counts.timers (timer_takes names k.fit.few) k.are.timers
    (λ x lt. timer_field names k.fit.names x.0 lt)

-- a thread is written by its name and read again if the script has it
pub thread_named : (input : Input) → Known input → FieldOf (read_thread input.names) (show_thread input.names) (λ t. has_thread input.script t ≡ true)
thread_named input k =
    let names = input.names in
    named (λ (x : ThreadNo). x.0) (length names.threads) (length input.script.threads) k.counts.threads (thread_takes names k.fit.few) k.are.threads
    (λ x lt. thread_field names k.fit.names x.0 lt)

-- an APC object is written by its name and read again if the script has it
pub apc_named : (input : Input) → Known input → FieldOf (read_apc input.names) (show_apc input.names) (λ a. has_apc input.script a ≡ true)
apc_named input k =
    let names = input.names in
    named (λ (x : ApcNo). x.0) (length names.apcs) (length input.script.apcs) k.counts.apcs (apc_takes names k.fit.few) k.are.apcs
    (λ x lt. apc_field names k.fit.names x.0 lt)

-- a lock that the script has is among those with a name
pub lock_at : (input : Input) → Known input → (l : LockNo) → has_lock input.script l ≡ true → l.0 < length input.names.locks
lock_at input k l h = below l.0 (length input.names.locks) input.script.locks k.counts.locks h

-- a lock is written by its name and read again if the script has it
pub lock_named : (input : Input) → Known input → FieldOf (read_lock input.names) (show_lock input.names) (λ l. has_lock input.script l ≡ true)
lock_named input k =
    let names = input.names in
    named (λ (x : LockNo). x.0) (length names.locks) input.script.locks k.counts.locks (lock_takes names k.fit.few) k.are.locks
    (λ x lt. name_field (show_lock names x)
    (is_new (((names.dpcs ++ names.timers) ++ names.threads) ++ names.apcs) names.locks x.0 k.fit.names.locks lt).0)
