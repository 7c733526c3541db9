-- The first event from some number on that is sought.
use Rattle.std.specs.Option.{option_or}
use Rattle.std.specs.Prelude.{Bool, List, None, Option, Some, [], false, if◌then◌else◌, length, nat_le, ℕ, ◌&&◌}
use Rattle.std.specs.Prelude.{◌==◌, ◌∷◌}
use Rattle.nt_event.specs.declared.commands.TimerKey.TheVariants as keys
use Rattle.nt_event.specs.declared.events.Event.{Event}
use Rattle.nt_event.specs.declared.events.What.{What}
use Rattle.nt_event.specs.declared.numbers.TimerNo.{TimerNo}
use Rattle.nt_event.specs.Eligible.{same_key}
use Rattle.nt_event.specs.Families.{in_begin, in_expiry, in_switch}
use Rattle.nt_event.specs.Numbers.{is_of}
use Rattle.nt_event.specs.Requests.{begins_class}
use Rattle.nt_why.specs.declared.fates.Fate.{Fate}
use Rattle.nt_why.specs.declared.fates.Fate.TheVariants as fate
use Rattle.nt_why.specs.declared.sought.Sought.{Sought}
use Rattle.nt_why.specs.declared.sought.Sought.TheVariants as sought

-- the event expires the timer
abbrev pub expires : TimerNo → What → Bool
expires t w = in_expiry (λ key from. same_key key (keys.Timer t)) false w

-- the event is sought: it begins the interrupt of this level on the processor, takes up the thread, or expires the
-- timer
abbrev pub is_sought : Sought → Event → Bool
is_sought (sought.Interrupt p l) e = is_of e p && in_begin (λ b from. begins_class l b) false e.what
is_sought (sought.Thread t) e = in_switch (λ u status. u.0 == t.0) false e.what
is_sought (sought.Timer t) e = expires t e.what

-- the number of the first event, from this number on, that is sought
abbrev pub first_from : Sought → ℕ → List Event → Option ℕ
first_from x from [] = None
first_from x from (e ∷ past) =
    option_or (first_from x from past) (if nat_le from (length past) && is_sought x e then Some (length past) else None)

-- the number of the last event that is sought
abbrev pub last_in : Sought → List Event → Option ℕ
last_in x [] = None
last_in x (e ∷ past) = if is_sought x e then Some (length past) else last_in x past

-- what became of the thing: this event began it, or it waits still
abbrev pub begun_by : Option ℕ → Fate
begun_by None = fate.Waits
begun_by (Some n) = fate.Begun n
