-- The event that is read from a line names things of the script, and its numbers are in range.
use Rattle.std.proofs.Common.{◌≡◌, ℕ, Bool, true, false, cond, List, [], ◌∷◌, length, Option, Ok, Err, refl, subst, lit<}
use Rattle.std.specs.Prelude.{codes, ◌&&◌}
use Rattle.std.specs.Str.{bytes_eq}
use Rattle.std.proofs.lemmas.Bool.{and_from}
use Rattle.nt_text.specs.declared.kind.ScriptKind.TheVariants.{UnknownWord}
use Rattle.nt_text.specs.Lines.{Row}
use Rattle.nt_event.specs.declared.commands.Command.{Command}
use Rattle.nt_event.specs.declared.commands.Reply.{Reply}
use Rattle.nt_event.specs.declared.commands.TimerKey.{TimerKey}
use Rattle.nt_event.specs.declared.commands.TimerKey.TheVariants as key
use Rattle.nt_event.specs.declared.events.Begun.{Begun}
use Rattle.nt_event.specs.declared.events.Begun.TheVariants as of_begun
use Rattle.nt_event.specs.declared.events.Event.{Event}
use Rattle.nt_event.specs.declared.events.What.{What}
use Rattle.nt_event.specs.declared.events.What.TheVariants.{Begin, Call, Clean, End, Expire, Fire, Flush, Free, Gone, Normal, Rest, Rewait, Switch}
use Rattle.nt_event.specs.declared.numbers.ApcNo.{ApcNo}
use Rattle.nt_event.specs.declared.numbers.CpuNo.{CpuNo}
use Rattle.nt_event.specs.declared.numbers.DpcNo.{DpcNo}
use Rattle.nt_event.specs.declared.numbers.LockNo.{LockNo}
use Rattle.nt_event.specs.declared.numbers.ThreadNo.{ThreadNo}
use Rattle.nt_event.specs.declared.numbers.TimerNo.{TimerNo}
use Rattle.nt_event.specs.declared.scripts.Script.{Script}
use Rattle.nt_event.specs.Fitting.{begun_fits, key_fits, what_fits}
use Rattle.nt_event.specs.Script.{command_fits, has_apc, has_cpu, has_dpc, has_lock, has_thread, has_timer, where_given}
use Rattle.nt_line.specs.declared.keywords.Verb.{Verb}
use Rattle.nt_line.specs.Commands.{behind, command_of}
use Rattle.nt_line.specs.Fields.{read_apc, read_dpc, read_level, read_lock, read_thread, read_timer}
use Rattle.nt_line.specs.Fits.{HasRange}
use Rattle.nt_line.specs.Keywords.{verb_arity}
use Rattle.nt_line.specs.Results.{◌>>=◌}
use Rattle.nt_line.proofs.FieldTexts.{level_takes, number_takes}
use Rattle.nt_line.proofs.UsedNames.{apc_takes, dpc_takes, lock_takes, thread_takes, timer_takes}
use Rattle.nt_script.specs.declared.walk.Input.{Input}
use Rattle.nt_script.proofs.Soundness.{command_to}
use Rattle.nt_print.specs.Conditions.{BegunInRange, EventIsPlain, LookIsBare, WhatInRange}
use Rattle.nt_print.proofs.OneEvent.{Known}
use Rattle.nt_report.specs.declared.events.EventLine.{EventLine}
use Rattle.nt_report.specs.declared.words.BegunWord.{BegunWord}
use Rattle.nt_report.specs.declared.words.BegunWord.TheVariants as of_begin
use Rattle.nt_report.specs.declared.words.EventWord.{EventWord}
use Rattle.nt_report.specs.declared.words.EventWord.TheVariants as word
use Rattle.nt_report.specs.Fields.{at_end, one_field, read_class, read_event, read_processor, read_running, replied, status, used}
use Rattle.nt_report.specs.Events.{begun, begun_of, command, delay_key, event_line, expired, read_begun_word, read_event_word, read_verb, timer_key, what}
use Rattle.nt_report.specs.Events.{what_of}
use Rattle.nt_report.proofs.Steps.{end_ok, made, ok, one_fits, one_ok, through}
use Rattle.nt_report.proofs.Commands.{command_of_fits}
use Rattle.nt_report.proofs.PlainFields.{event_word, has_it, processor_fits, replied_fits, running_fits, status_fits, used_word}

-- ---- things

-- a DPC that is read from a field is one of the script
dpc_fits : (input : Input) → Known input → (row : Row) (y : DpcNo × Row) → one_field (read_dpc input.names) row ≡ Ok y → has_dpc input.script y.0 ≡ true
dpc_fits input k row y e = has_it y.0.0 (length input.names.dpcs) (length input.script.dpcs) k.counts.dpcs (one_fits (dpc_takes input.names k.fit.few) row y e)

-- a timer that is read from a field is one of the script
timer_fits : (input : Input) → Known input → (row : Row) (y : TimerNo × Row) → one_field (read_timer input.names) row ≡ Ok y → has_timer input.script y.0 ≡ true
timer_fits input k row y e =
    has_it y.0.0 (length input.names.timers) (length input.script.timers) k.counts.timers (one_fits (timer_takes input.names k.fit.few) row y e)

-- a thread that is read from a field is one of the script
thread_fits : (input : Input) → Known input → (row : Row) (y : ThreadNo × Row) → one_field (read_thread input.names) row ≡ Ok y →
    has_thread input.script y.0 ≡ true
thread_fits input k row y e =
    has_it y.0.0 (length input.names.threads) (length input.script.threads) k.counts.threads (one_fits (thread_takes input.names k.fit.few) row y e)

-- an APC that is read from a field is one of the script
apc_fits : (input : Input) → Known input → (row : Row) (y : ApcNo × Row) → one_field (read_apc input.names) row ≡ Ok y → has_apc input.script y.0 ≡ true
apc_fits input k row y e = has_it y.0.0 (length input.names.apcs) (length input.script.apcs) k.counts.apcs (one_fits (apc_takes input.names k.fit.few) row y e)

-- a spin lock that is read from a field is one of the script
lock_fits : (input : Input) → Known input → (row : Row) (y : LockNo × Row) → one_field (read_lock input.names) row ≡ Ok y → has_lock input.script y.0 ≡ true
lock_fits input k row y e = has_it y.0.0 (length input.names.locks) input.script.locks k.counts.locks (one_fits (lock_takes input.names k.fit.few) row y e)

-- ---- parts of what an event did

abbrev CommandRead : Script → Command × Row → Type 0
CommandRead s y = (command_fits s y.0 ≡ true) × HasRange y.0

-- a command that is read from a row fits the script and is in range
command_plain : (input : Input) → Known input → (row : Row) (y : Command × Row) → command input row ≡ Ok y → CommandRead input.script y
command_plain input k row y e =
    let P = CommandRead input.script in
    let names = input.names in
    let cpus = input.script.cpus in
    through P (one_field (read_verb input.version) row) (λ (v : Verb × Row). command_of names cpus v.0 v.1 >>= λ c. ok (c, behind (verb_arity v.0) v.1)) y e
    (λ v is then. through P (command_of names cpus v.0 v.1) (λ (c : Command). ok (c, behind (verb_arity v.0) v.1)) y then
    (λ c is' then'. made P (c, behind (verb_arity v.0) v.1) y then'
    (command_to input.script names k.counts c (command_of_fits names cpus k.fit.few v.0 v.1 c is'))))

abbrev BegunRead : Script → Begun × Row → Type 0
BegunRead s y = (begun_fits s y.0 ≡ true) × BegunInRange y.0

-- an activity that is read after its first word fits the script and is in range
begun_of_plain : (input : Input) → Known input → (w : BegunWord) (row : Row) (y : Begun × Row) → begun_of input.names w row ≡ Ok y → BegunRead input.script y
begun_of_plain input k of_begin.Int row y e =
    through (BegunRead input.script) (one_field read_level row) (λ (l : ℕ × Row). ok (of_begun.Int l.0, l.1)) y e
    (λ l is then. made (BegunRead input.script) (of_begun.Int l.0, l.1) y then (refl, one_fits level_takes row l is))
begun_of_plain input k of_begin.Dpc row y e =
    through (BegunRead input.script) (one_field (read_dpc input.names) row) (λ (d : DpcNo × Row). ok (of_begun.Dpc d.0, d.1)) y e
    (λ d is then. made (BegunRead input.script) (of_begun.Dpc d.0, d.1) y then (dpc_fits input k row d is, tt))
begun_of_plain input k of_begin.Threaded row y e =
    through (BegunRead input.script) (one_field (read_dpc input.names) row) (λ (d : DpcNo × Row). ok (of_begun.Threaded d.0, d.1)) y e
    (λ d is then. made (BegunRead input.script) (of_begun.Threaded d.0, d.1) y then (dpc_fits input k row d is, tt))
begun_of_plain input k (of_begin.Apc kind) row y e =
    through (BegunRead input.script) (one_field (read_apc input.names) row) (λ (a : ApcNo × Row). ok (of_begun.Apc a.0, a.1)) y e
    (λ a is then. made (BegunRead input.script) (of_begun.Apc a.0, a.1) y then (apc_fits input k row a is, tt))

-- an activity that is read from a row fits the script and is in range
begun_plain : (input : Input) → Known input → (row : Row) (y : Begun × Row) → begun input.names row ≡ Ok y → BegunRead input.script y
begun_plain input k row y e =
    through (BegunRead input.script) (one_field read_begun_word row) (λ (w : BegunWord × Row). begun_of input.names w.0 w.1) y e
    (λ w is then. begun_of_plain input k w.0 w.1 y then)

abbrev KeyRead : Script → TimerKey × Row → Type 0
KeyRead s y = key_fits s y.0 ≡ true

-- a key that is read as that of a timer fits the script
timer_key_plain : (input : Input) → Known input → (row : Row) (y : TimerKey × Row) → timer_key input.names row ≡ Ok y → KeyRead input.script y
timer_key_plain input k row y e =
    through (KeyRead input.script) (one_field (read_timer input.names) row) (λ (t : TimerNo × Row). ok (key.Timer t.0, t.1)) y e
    (λ t is then. made (KeyRead input.script) (key.Timer t.0, t.1) y then (timer_fits input k row t is))

-- a key that is read as that of a thread's delay fits the script
delay_key_plain : (input : Input) → Known input → (row : Row) (y : TimerKey × Row) → delay_key input.names row ≡ Ok y → KeyRead input.script y
delay_key_plain input k row y e =
    through (KeyRead input.script) (one_field (read_thread input.names) row) (λ (t : ThreadNo × Row). ok (key.Delay t.0, t.1)) y e
    (λ t is then. made (KeyRead input.script) (key.Delay t.0, t.1) y then (thread_fits input k row t is))

-- a key that is read as that of an expiry fits the script
expired_plain : (input : Input) → Known input → (row : Row) (y : TimerKey × Row) → expired input.names row ≡ Ok y → KeyRead input.script y
expired_plain input k [] y e = absurd cc
expired_plain input k (f ∷ fs) y e = go (bytes_eq f (codes "timer")) (bytes_eq f (codes "delay")) e
  where
    go : (b d : Bool) → cond b (timer_key input.names fs) (cond d (delay_key input.names fs) (Err UnknownWord)) ≡ Ok y → KeyRead input.script y
    go true d e = timer_key_plain input k fs y e
    go false true e = delay_key_plain input k fs y e
    go false false e = absurd cc

-- ---- what an event did

pub record WhatIsPlain (input : Input) (w : What) : Type 0 where
  pub fits : what_fits input.script w ≡ true
  pub range : WhatInRange input.version w
  pub bare : (e : Event) → LookIsBare e w

abbrev WhatRead : Input → What × Row → Type 0
WhatRead input y = WhatIsPlain input y.0

-- an action that is read after a known first word fits the script and is in range
what_of_plain : (input : Input) → Known input → (w : EventWord) (row : Row) (y : What × Row) → what_of input w row ≡ Ok y →
    WhatRead input y
what_of_plain input k word.Call row y e =
    let P = WhatRead input in
    through P (one_field read_event row)
    (λ (f : ℕ × Row). command input f.1 >>= λ c. replied c.1 >>= λ r. ok (Call f.0 c.0 r.0, r.1)) y e
    (λ f is then. through P (command input f.1) (λ (c : Command × Row). replied c.1 >>= λ r. ok (Call f.0 c.0 r.0, r.1)) y then
    (λ c is' then'. through P (replied c.1) (λ (r : Reply × Row). ok (Call f.0 c.0 r.0, r.1)) y then'
    (λ r is'' then''.
    let p = command_plain input k f.1 c is' in
    made P (Call f.0 c.0 r.0, r.1) y then''
    (record { fits = p.0; range = (event_word row f is, p.1, replied_fits c.1 r is''); bare = λ e. tt }))))
what_of_plain input k word.Begin row y e =
    let P = WhatRead input in
    through P (begun input.names row) (λ (b : Begun × Row). used b.1 >>= λ u. ok (Begin b.0 u.0, u.1)) y e
    (λ b is then. through P (used b.1) (λ (u : ℕ × Row). ok (Begin b.0 u.0, u.1)) y then
    (λ u is' then'.
    let p = begun_plain input k row b is in
    made P (Begin b.0 u.0, u.1) y then' (record { fits = p.0; range = (p.1, used_word b.1 u is'); bare = λ e. tt })))
what_of_plain input k word.Normal row y e =
    through (WhatRead input) (one_field read_event row) (λ (f : ℕ × Row). ok (Normal f.0, f.1)) y e
    (λ f is then. made (WhatRead input) (Normal f.0, f.1) y then (record { fits = refl; range = event_word row f is; bare = λ e. tt }))
what_of_plain input k word.End row y e =
    through (WhatRead input) (one_field read_event row) (λ (f : ℕ × Row). ok (End f.0, f.1)) y e
    (λ f is then. made (WhatRead input) (End f.0, f.1) y then (record { fits = refl; range = event_word row f is; bare = λ e. tt }))
what_of_plain input k word.Expire row y e =
    let P = WhatRead input in
    through P (expired input.names row) (λ (t : TimerKey × Row). used t.1 >>= λ u. ok (Expire t.0 u.0, u.1)) y e
    (λ t is then. through P (used t.1) (λ (u : ℕ × Row). ok (Expire t.0 u.0, u.1)) y then
    (λ u is' then'. made P (Expire t.0 u.0, u.1) y then'
    (record { fits = expired_plain input k row t is; range = used_word t.1 u is'; bare = λ e. tt })))
what_of_plain input k word.Fire row y e =
    let P = WhatRead input in
    through P (one_field (read_dpc input.names) row) (λ (d : DpcNo × Row). replied d.1 >>= λ r. ok (Fire d.0 r.0, r.1)) y e
    (λ d is then. through P (replied d.1) (λ (r : Reply × Row). ok (Fire d.0 r.0, r.1)) y then
    (λ r is' then'. made P (Fire d.0 r.0, r.1) y then'
    (record { fits = dpc_fits input k row d is; range = replied_fits d.1 r is'; bare = λ e. tt })))
what_of_plain input k word.Clean row y e =
    through (WhatRead input) (one_field read_class row) (λ (c : ℕ × Row). ok (Clean c.0, c.1)) y e
    (λ c is then. made (WhatRead input) (Clean c.0, c.1) y then
    (record { fits = refl; range = one_fits (number_takes 2 (lit< tt)) row c is; bare = λ e. tt }))
what_of_plain input k word.Switch row y e =
    let P = WhatRead input in
    through P (one_field (read_thread input.names) row) (λ (t : ThreadNo × Row). status t.1 >>= λ s. ok (Switch t.0 s.0, s.1)) y e
    (λ t is then. through P (status t.1) (λ (s : Option ℕ × Row). ok (Switch t.0 s.0, s.1)) y then
    (λ s is' then'. made P (Switch t.0 s.0, s.1) y then'
    (record { fits = thread_fits input k row t is; range = status_fits t.1 s is'; bare = λ e. tt })))
what_of_plain input k word.Rewait row y e =
    let P = WhatRead input in
    through P (one_field read_event row) (λ (f : ℕ × Row). replied f.1 >>= λ r. ok (Rewait f.0 r.0, r.1)) y e
    (λ f is then. through P (replied f.1) (λ (r : Reply × Row). ok (Rewait f.0 r.0, r.1)) y then
    (λ r is' then'. made P (Rewait f.0 r.0, r.1) y then'
    (record { fits = refl; range = (event_word row f is, replied_fits f.1 r is'); bare = λ e. tt })))
what_of_plain input k word.Flush row y e =
    let P = WhatRead input in
    through P (one_field (read_apc input.names) row) (λ (a : ApcNo × Row). used a.1 >>= λ u. ok (Flush a.0 u.0, u.1)) y e
    (λ a is then. through P (used a.1) (λ (u : ℕ × Row). ok (Flush a.0 u.0, u.1)) y then
    (λ u is' then'. made P (Flush a.0 u.0, u.1) y then'
    (record { fits = apc_fits input k row a is; range = used_word a.1 u is'; bare = λ e. tt })))
what_of_plain input k word.Gone row y e =
    through (WhatRead input) (one_field (read_thread input.names) row) (λ (t : ThreadNo × Row). ok (Gone t.0, t.1)) y e
    (λ t is then. made (WhatRead input) (Gone t.0, t.1) y then (record { fits = thread_fits input k row t is; range = tt; bare = λ e. tt }))
what_of_plain input k word.Free row y e =
    let P = WhatRead input in
    through P (one_field read_event row) (λ (f : ℕ × Row). one_field (read_lock input.names) f.1 >>= λ l. ok (Free f.0 l.0, l.1)) y e
    (λ f is then. through P (one_field (read_lock input.names) f.1) (λ (l : LockNo × Row). ok (Free f.0 l.0, l.1)) y then
    (λ l is' then'. made P (Free f.0 l.0, l.1) y then'
    (record { fits = lock_fits input k f.1 l is'; range = event_word row f is; bare = λ e. tt })))
what_of_plain input k word.Rest row y e = made (WhatRead input) (Rest, row) y e (record { fits = refl; range = tt; bare = λ e. tt })

-- an action that is read from a row fits the script and is in range
what_plain : (input : Input) → Known input → (row : Row) (y : What × Row) → what input row ≡ Ok y → WhatRead input y
what_plain input k row y e =
    through (WhatRead input) (one_field read_event_word row) (λ (w : EventWord × Row). what_of input w.0 w.1) y e
    (λ w is then. what_of_plain input k w.0 w.1 y then)

-- ---- the whole line

abbrev LineRead : Input → EventLine → Type 0
LineRead input line = EventIsPlain input line.event

-- the line of an event: its number, its processor, its thread, its level and its action
line : ℕ → CpuNo → Option ThreadNo → ℕ → What → EventLine
line n p t l w = record { number = n; event = record { cpu = p; thread = t; level = l; what = w } }

-- the event that is read from a line is plain
pub event_line_plain : (input : Input) → Known input → (number : List ℕ) (row : Row) (y : EventLine) →
    event_line input number row ≡ Ok y → EventIsPlain input y.event
unfolding line
event_line_plain input k number row y e =
    let P = LineRead input in
    let names = input.names in
    let cpus = input.script.cpus in
    through P (read_event number) (λ (n : ℕ). one_field (read_processor cpus) row >>= λ p. one_field (read_running names) p.1 >>= λ t.
    one_field read_level t.1 >>= λ l. what input l.1 >>= λ w. at_end (line n p.0 t.0 l.0 w.0) w.1) y e
    (λ n is0 e0. through P (one_field (read_processor cpus) row) (λ (p : CpuNo × Row). one_field (read_running names) p.1 >>= λ t.
    one_field read_level t.1 >>= λ l. what input l.1 >>= λ w. at_end (line n p.0 t.0 l.0 w.0) w.1) y e0
    (λ p is1 e1. through P (one_field (read_running names) p.1) (λ (t : Option ThreadNo × Row).
    one_field read_level t.1 >>= λ l. what input l.1 >>= λ w. at_end (line n p.0 t.0 l.0 w.0) w.1) y e1
    (λ t is2 e2. through P (one_field read_level t.1) (λ (l : ℕ × Row). what input l.1 >>= λ w. at_end (line n p.0 t.0 l.0 w.0) w.1) y e2
    (λ l is3 e3. through P (what input l.1) (λ (w : What × Row). at_end (line n p.0 t.0 l.0 w.0) w.1) y e3
    (λ w is4 e4.
    let o1 = one_ok (read_processor cpus) row p is1 in
    let o2 = one_ok (read_running names) p.1 t is2 in
    let plain = what_plain input k l.1 w is4 in
    let cpu : has_cpu input.script p.0 ≡ true = processor_fits cpus o1.0 p.0 o1.1 in
    let thread : where_given (has_thread input.script) t.0 ≡ true = running_fits input.script names k.fit.few k.counts.threads o2.0 t.0 o2.1 in
    let fits = and_from (has_cpu input.script p.0 && where_given (has_thread input.script) t.0) (what_fits input.script w.0)
    (and_from (has_cpu input.script p.0) (where_given (has_thread input.script) t.0) cpu thread) plain.fits in
    subst P (end_ok (line n p.0 t.0 l.0 w.0) y w.1 e4)
    (fits, (one_fits level_takes t.1 l is3, plain.range, plain.bare (record { cpu = p.0; thread = t.0; level = l.0; what = w.0 }))))))))
