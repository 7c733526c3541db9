-- The event that is read from a line is no look.
use Rattle.std.proofs.Common.{subst, ℕ, Option, List, Ok, ◌≡◌}
use Rattle.nt_text.specs.Lines.{Row}
use Rattle.nt_event.specs.declared.commands.Command.{Command}
use Rattle.nt_event.specs.declared.commands.Reply.{Reply}
use Rattle.nt_event.specs.declared.commands.TimerKey.{TimerKey}
use Rattle.nt_event.specs.declared.events.Begun.{Begun}
use Rattle.nt_event.specs.declared.events.What.{What}
use Rattle.nt_event.specs.declared.events.What.TheVariants.{Begin, Call, Clean, End, Expire, Fire, Flush, Free, Gone, Normal, Rest, Rewait, Switch}
use Rattle.nt_event.specs.declared.numbers.ApcNo.{ApcNo}
use Rattle.nt_event.specs.declared.numbers.CpuNo.{CpuNo}
use Rattle.nt_event.specs.declared.numbers.DpcNo.{DpcNo}
use Rattle.nt_event.specs.declared.numbers.LockNo.{LockNo}
use Rattle.nt_event.specs.declared.numbers.ThreadNo.{ThreadNo}
use Rattle.nt_history.specs.Briefs.{HasValues, no_rises}
use Rattle.nt_line.specs.Fields.{read_apc, read_dpc, read_level, read_lock, read_thread}
use Rattle.nt_line.specs.Results.{◌>>=◌}
use Rattle.nt_script.specs.declared.walk.Input.{Input}
use Rattle.nt_report.specs.declared.events.EventLine.{EventLine}
use Rattle.nt_report.specs.declared.words.EventWord.{EventWord}
use Rattle.nt_report.specs.declared.words.EventWord.TheVariants as word
use Rattle.nt_report.specs.Fields.{at_end, one_field, read_class, read_event, read_processor, read_running, replied, status, used}
use Rattle.nt_report.specs.Events.{begun, command, event_line, expired, read_event_word, what, what_of}
use Rattle.nt_report.proofs.Steps.{end_ok, made, ok, through}

abbrev IsBare : What × Row → Type 0
IsBare y = HasValues no_rises y.0

-- an action that is read after a known first word is no look with values
what_of_bare : (input : Input) (w : EventWord) (row : Row) (y : What × Row) → what_of input w row ≡ Ok y → IsBare y
what_of_bare input word.Call row y e =
    through IsBare (one_field read_event row) (λ (f : ℕ × Row). command input f.1 >>= λ c. replied c.1 >>= λ r. ok (Call f.0 c.0 r.0, r.1)) y e
    (λ f is then. through IsBare (command input f.1) (λ (c : Command × Row). replied c.1 >>= λ r. ok (Call f.0 c.0 r.0, r.1)) y then
    (λ c is' then'. through IsBare (replied c.1) (λ (r : Reply × Row). ok (Call f.0 c.0 r.0, r.1)) y then'
    (λ r is'' then''. made IsBare (Call f.0 c.0 r.0, r.1) y then'' tt)))
what_of_bare input word.Begin row y e =
    through IsBare (begun input.names row) (λ (b : Begun × Row). used b.1 >>= λ u. ok (Begin b.0 u.0, u.1)) y e
    (λ b is then. through IsBare (used b.1) (λ (u : ℕ × Row). ok (Begin b.0 u.0, u.1)) y then
    (λ u is' then'. made IsBare (Begin b.0 u.0, u.1) y then' tt))
what_of_bare input word.Normal row y e =
    through IsBare (one_field read_event row) (λ (f : ℕ × Row). ok (Normal f.0, f.1)) y e (λ f is then. made IsBare (Normal f.0, f.1) y then tt)
what_of_bare input word.End row y e =
    through IsBare (one_field read_event row) (λ (f : ℕ × Row). ok (End f.0, f.1)) y e (λ f is then. made IsBare (End f.0, f.1) y then tt)
what_of_bare input word.Expire row y e =
    through IsBare (expired input.names row) (λ (t : TimerKey × Row). used t.1 >>= λ u. ok (Expire t.0 u.0, u.1)) y e
    (λ t is then. through IsBare (used t.1) (λ (u : ℕ × Row). ok (Expire t.0 u.0, u.1)) y then
    (λ u is' then'. made IsBare (Expire t.0 u.0, u.1) y then' tt))
what_of_bare input word.Fire row y e =
    through IsBare (one_field (read_dpc input.names) row) (λ (d : DpcNo × Row). replied d.1 >>= λ r. ok (Fire d.0 r.0, r.1)) y e
    (λ d is then. through IsBare (replied d.1) (λ (r : Reply × Row). ok (Fire d.0 r.0, r.1)) y then
    (λ r is' then'. made IsBare (Fire d.0 r.0, r.1) y then' tt))
what_of_bare input word.Clean row y e =
    through IsBare (one_field read_class row) (λ (c : ℕ × Row). ok (Clean c.0, c.1)) y e (λ c is then. made IsBare (Clean c.0, c.1) y then tt)
what_of_bare input word.Switch row y e =
    through IsBare (one_field (read_thread input.names) row) (λ (t : ThreadNo × Row). status t.1 >>= λ s. ok (Switch t.0 s.0, s.1)) y e
    (λ t is then. through IsBare (status t.1) (λ (s : Option ℕ × Row). ok (Switch t.0 s.0, s.1)) y then
    (λ s is' then'. made IsBare (Switch t.0 s.0, s.1) y then' tt))
what_of_bare input word.Rewait row y e =
    through IsBare (one_field read_event row) (λ (f : ℕ × Row). replied f.1 >>= λ r. ok (Rewait f.0 r.0, r.1)) y e
    (λ f is then. through IsBare (replied f.1) (λ (r : Reply × Row). ok (Rewait f.0 r.0, r.1)) y then
    (λ r is' then'. made IsBare (Rewait f.0 r.0, r.1) y then' tt))
what_of_bare input word.Flush row y e =
    through IsBare (one_field (read_apc input.names) row) (λ (a : ApcNo × Row). used a.1 >>= λ u. ok (Flush a.0 u.0, u.1)) y e
    (λ a is then. through IsBare (used a.1) (λ (u : ℕ × Row). ok (Flush a.0 u.0, u.1)) y then
    (λ u is' then'. made IsBare (Flush a.0 u.0, u.1) y then' tt))
what_of_bare input word.Gone row y e =
    through IsBare (one_field (read_thread input.names) row) (λ (t : ThreadNo × Row). ok (Gone t.0, t.1)) y e
    (λ t is then. made IsBare (Gone t.0, t.1) y then tt)
what_of_bare input word.Free row y e =
    through IsBare (one_field read_event row) (λ (f : ℕ × Row). one_field (read_lock input.names) f.1 >>= λ l. ok (Free f.0 l.0, l.1)) y e
    (λ f is then. through IsBare (one_field (read_lock input.names) f.1) (λ (l : LockNo × Row). ok (Free f.0 l.0, l.1)) y then
    (λ l is' then'. made IsBare (Free f.0 l.0, l.1) y then' tt))
what_of_bare input word.Rest row y e = made IsBare (Rest, row) y e tt

-- an action that is read from a row is no look with values
what_bare : (input : Input) (row : Row) (y : What × Row) → what input row ≡ Ok y → IsBare y
what_bare input row y e =
    through IsBare (one_field read_event_word row) (λ (w : EventWord × Row). what_of input w.0 w.1) y e
    (λ w is then. what_of_bare input w.0 w.1 y then)

abbrev IsBareLine : EventLine → Type 0
IsBareLine line = HasValues no_rises line.event.what

-- the event line of a number, a processor, a thread, a level and an action
line : ℕ → CpuNo → Option ThreadNo → ℕ → What → EventLine
line n p t l w = record { number = n; event = record { cpu = p; thread = t; level = l; what = w } }

-- if the event that is read from a line is a look, it has no values
pub line_bare : (input : Input) (number : List ℕ) (row : Row) (y : EventLine) → event_line input number row ≡ Ok y →
    HasValues no_rises y.event.what
unfolding line
line_bare input number row y e =
    let P = IsBareLine in
    let names = input.names in
    let cpus = input.script.cpus in
    through P (read_event number) (λ (n : ℕ). one_field (read_processor cpus) row >>= λ p. one_field (read_running names) p.1 >>= λ t.
    one_field read_level t.1 >>= λ l. what input l.1 >>= λ w. at_end (line n p.0 t.0 l.0 w.0) w.1) y e
    (λ n is0 e0. through P (one_field (read_processor cpus) row) (λ (p : CpuNo × Row). one_field (read_running names) p.1 >>= λ t.
    one_field read_level t.1 >>= λ l. what input l.1 >>= λ w. at_end (line n p.0 t.0 l.0 w.0) w.1) y e0
    (λ p is1 e1. through P (one_field (read_running names) p.1) (λ (t : Option ThreadNo × Row).
    one_field read_level t.1 >>= λ l. what input l.1 >>= λ w. at_end (line n p.0 t.0 l.0 w.0) w.1) y e1
    (λ t is2 e2. through P (one_field read_level t.1) (λ (l : ℕ × Row). what input l.1 >>= λ w. at_end (line n p.0 t.0 l.0 w.0) w.1) y e2
    (λ l is3 e3. through P (what input l.1) (λ (w : What × Row). at_end (line n p.0 t.0 l.0 w.0) w.1) y e3
    (λ w is4 e4. subst P (end_ok (line n p.0 t.0 l.0 w.0) y w.1 e4) (what_bare input l.1 w is4))))))
