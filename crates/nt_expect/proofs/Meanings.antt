-- What shows an expectation in small histories, worked by hand.
use Rattle.std.proofs.Common.{◌≡◌, ℕ, true, false, [], ◌∷◌, Some, None, refl, ap, subst, sym, arith, inl, inr}
use Rattle.std.proofs.lemmas.Bool.{ltb-true}
use Rattle.nt_event.specs.declared.commands.ApcKind.TheVariants.{Special}
use Rattle.nt_event.specs.declared.commands.Command.TheVariants as cmd
use Rattle.nt_event.specs.declared.commands.Mode.TheVariants.{Kernel}
use Rattle.nt_event.specs.declared.commands.Refusal.TheVariants.{TooHigh}
use Rattle.nt_event.specs.declared.commands.Reply.TheVariants as reply
use Rattle.nt_event.specs.declared.events.Begun.TheVariants as begun
use Rattle.nt_event.specs.declared.events.Event.{Event}
use Rattle.nt_event.specs.declared.events.What.{What}
use Rattle.nt_event.specs.declared.events.What.TheVariants as what
use Rattle.nt_event.specs.declared.numbers.CpuNo.{CpuNo}
use Rattle.nt_event.specs.declared.scripts.Script.{Script}
use Rattle.nt_event.specs.Lists.{table_from}
use Rattle.nt_event.specs.Numbers.{apc, cpu, dpc, lock, routine, thread, timer}
use Rattle.nt_event.specs.Own.{own_of}
use Rattle.nt_event.specs.Script.{has_cpu}
use Rattle.nt_event.specs.Step.{is_cut}
use Rattle.nt_expect.specs.declared.expectations.Activity.TheVariants as act
use Rattle.nt_expect.specs.declared.expectations.Expectation.TheVariants.{Always, Never, NeverAbove, NeverAfter, NeverBefore, NeverOn, NeverTwice, NeverWith}
use Rattle.nt_expect.specs.declared.expectations.NamedReply.TheVariants as named
use Rattle.nt_expect.specs.declared.expectations.Watched.TheVariants.{Begin, Call, Note, Refused}
use Rattle.nt_expect.specs.Meaning.{Came, IsQuiet, IsShownAt, ShowsAt, SpinsOn, apc_waits, dpc_waits, is_blocked}

abbrev event : ℕ → ℕ → What → Event
event p level w = record { cpu = cpu p; thread = None; level = level; what = w }

-- notes 1 and 2 of processor 0, at levels 3 and 2
abbrev note_1 : Event
note_1 = event 0 3 (what.Call 0 (cmd.Note 1) reply.Done)

abbrev note_2 : Event
note_2 = event 0 2 (what.Call 0 (cmd.Note 2) reply.Done)

-- ---- notes

-- a note shows that this note is not never made, and does so at its own number
one_note : (s : Script) (limit : ℕ) → IsShownAt s limit (Never (Note 1)) (note_2 ∷ note_1 ∷ []) 0
one_note s limit = inl (note_1, [], record { newer = note_2 ∷ []; is = refl; number = refl }, refl)

-- its number is 0, and not 1
no_other_number : (s : Script) → ShowsAt s (Never (Note 1)) note_2 (note_1 ∷ []) → ⊥
no_other_number s h = absurd cc

-- the second of two equal notes shows that the note is made twice
twice : (s : Script) (limit : ℕ) → IsShownAt s limit (NeverTwice (Note 1)) (note_1 ∷ note_2 ∷ note_1 ∷ []) 2
twice s limit = inl (note_1, note_2 ∷ note_1 ∷ [], record { newer = []; is = refl; number = refl }, (refl, inr (inl refl)))

-- a note that was made once does not show that it is made twice
once_is_not_twice : (s : Script) → ShowsAt s (NeverTwice (Note 1)) note_1 (note_2 ∷ []) → ⊥
once_is_not_twice s (h, inl x) = absurd cc
once_is_not_twice s (h, inr x) = x

-- a note after another shows that it comes after that one
after : (s : Script) → ShowsAt s (NeverAfter (Note 2) (Note 1)) note_2 (note_1 ∷ [])
after s = (refl, inl refl)

-- a note with nothing before it shows that it comes before the other
before : (s : Script) → ShowsAt s (NeverBefore (Note 2) (Note 1)) note_2 []
before s = (refl, λ h. h)

-- the first of the two came before
not_before : (s : Script) → ShowsAt s (NeverBefore (Note 2) (Note 1)) note_2 (note_1 ∷ []) → ⊥
not_before s h = h.1 (inl refl)

-- a note at level 3 shows that it is made above level 2
above : (s : Script) → ShowsAt s (NeverAbove (Note 1) 2) note_1 []
above s = (refl, omega arith)

-- the level itself is not above it
not_above : (s : Script) → ShowsAt s (NeverAbove (Note 2) 2) note_2 [] → ⊥
not_above s h = let lt = h.1 in absurd (omega (arith, lt))

-- a note of processor 0 shows that it is made on processor 0
on_0 : (s : Script) → ShowsAt s (NeverOn (Note 1) (cpu 0)) note_1 []
on_0 s = (refl, refl)

-- a note of processor 0 does not show that it is made on processor 1
not_on_1 : (s : Script) → ShowsAt s (NeverOn (Note 1) (cpu 1)) note_1 [] → ⊥
not_on_1 s h = let same : 0 ≡ 1 = ap (λ (p : CpuNo). p.0) h.1 in absurd (omega (arith, same))

-- ---- replies

-- a call that is refused shows that something is refused
refused : (s : Script) → ShowsAt s (Never Refused) (event 0 3 (what.Call 0 (cmd.SetTimer (timer 0) 1 0) (reply.Refused TooHigh))) []
refused s = refl

-- a reply is named whatever the cause
refused_call : (s : Script) → ShowsAt s (Never (Call (cmd.SetTimer (timer 0) 1 0) named.Refused))
    (event 0 3 (what.Call 0 (cmd.SetTimer (timer 0) 1 0) (reply.Refused TooHigh))) []
refused_call s = (refl, refl)

-- ---- what begins

abbrev switch : Event
switch = event 0 0 (what.Switch (thread 0) None)

-- the first switch to a thread shows that the thread begins
begins : (s : Script) → ShowsAt s (Never (Begin (act.Thread (thread 0)))) switch []
begins s = (refl, refl)

-- a later switch is no begin
begun_before : (s : Script) → ShowsAt s (Never (Begin (act.Thread (thread 0)))) switch (note_1 ∷ switch ∷ []) → ⊥
begun_before s h = let no = h.1 in absurd cc

-- ---- what stands on two processors

abbrev begin_on : ℕ → Event
begin_on p = event p 2 (what.Begin (begun.Dpc (dpc 0)) 0)

-- a DPC that begins on one processor while it stands on another shows that it runs with itself
together : (s : Script) → ShowsAt s (NeverWith (act.Dpc (dpc 0)) (act.Dpc (dpc 0))) (begin_on 1) (begin_on 0 ∷ [])
together s = record { p = cpu 0; q = cpu 1; apart = refl; here = refl; there = refl }

-- ---- what waits

-- a DPC that was queued and has not begun waits
waits : dpc_waits (dpc 0) (event 0 2 (what.Call 0 (cmd.Queue (dpc 0)) reply.Yes) ∷ []) ≡ true
waits = refl

-- it began
begun_no_more_waits : dpc_waits (dpc 0) (begin_on 0 ∷ event 0 2 (what.Call 0 (cmd.Queue (dpc 0)) reply.Yes) ∷ []) ≡ false
begun_no_more_waits = refl

-- a thread of processor 0, an APC object of it, a DPC object and a lock
abbrev script : Script
script =
    record {
      cpus = 1;
      depth = None;
      threaded = None;
      isrs = [];
      dpcs = record { threaded = false; routine = routine 0 } ∷ [];
      timers = [];
      threads = record { cpu = cpu 0; routine = routine 0 } ∷ [];
      apcs = record { kind = Special; thread = thread 0; kernel = routine 0; normal = None; rundown = None } ∷ [];
      routines = record { commands = [] } ∷ [];
      locks = 1;
    }

-- an event of the thread
abbrev own_event : What → Event
own_event w = record { cpu = cpu 0; thread = Some (thread 0); level = 0; what = w }

abbrev taken : Event
taken = own_event (what.Switch (thread 0) None)

-- an APC that was inserted and not delivered waits
an_apc_waits : apc_waits script (apc 0) (own_event (what.Call 0 (cmd.InsertApc (apc 0)) reply.Yes) ∷ taken ∷ []) ≡ true
unfolding table_from
an_apc_waits = refl

-- a thread whose wait was answered with blocked is blocked
blocks : is_blocked script (thread 0) (own_event (what.Call 0 (cmd.StartWait Kernel false) reply.Blocked) ∷ taken ∷ []) ≡ true
unfolding table_from
blocks = refl

-- it waited, but a kernel APC was there
does_not_block : is_blocked script (thread 0) (own_event (what.Call 0 (cmd.StartWait Kernel false) (reply.Status 256)) ∷ taken ∷ []) ≡ false
unfolding table_from
does_not_block = refl

-- a processor whose acquire was answered with a spin spins on the lock
spins : SpinsOn script (lock 0) (own_event (what.Call 0 (cmd.Acquire (lock 0)) reply.Spin) ∷ taken ∷ [])
unfolding table_from
spins = (cpu 0, refl)

-- ---- the end

-- no thread, no work
abbrev empty : Script
empty = record script { dpcs = []; threads = []; apcs = []; routines = []; locks = 0 }

abbrev rest : Event
rest = event 0 0 what.Rest

-- in the empty script the only processor is processor 0
only_0 : (p : CpuNo) → has_cpu empty p ≡ true → p ≡ cpu 0
only_0 p h = let lt = ltb-true p.0 1 h in let zero_is : p.0 ≡ 0 = omega (arith, lt) in ap cpu zero_is

-- in the empty script all is quiet after the processor rests
quiet : IsQuiet empty 10 (rest ∷ [])
unfolding table_from
quiet = record {
  settled = refl;
  uncut = λ p h. subst (λ (p : CpuNo). is_cut 10 (own_of empty p (rest ∷ [])) ≡ false) (sym (only_0 p h)) refl;
}

-- a note that never came
always_is_shown : IsShownAt empty 10 (Always (Note 1)) (rest ∷ []) 1
always_is_shown = inr (quiet, no_note, refl)
  where
    no_note : Came (Note 1) (rest ∷ []) → ⊥
    no_note (inl x) = x
    no_note (inr x) = x
