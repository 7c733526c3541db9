-- The set keys of a shade, and what an event leaves of them: by due time, and of one due time what was set first.
use Rattle.std.specs.Prelude.{Bool, List, None, Option, Some, [], false, filter, find, if◌then◌else◌, nat_lt, not, suc}
use Rattle.std.specs.Prelude.{option_and_then, zero, ℕ, ◌+◌, ◌==◌, ◌∷◌}
use Rattle.nt_event.specs.declared.commands.Reply.{Reply}
use Rattle.nt_event.specs.declared.commands.TimerKey.{TimerKey}
use Rattle.nt_event.specs.declared.commands.TimerKey.TheVariants.{Delay as OfDelay, Timer as OfTimer}
use Rattle.nt_event.specs.declared.events.Event.{Event}
use Rattle.nt_event.specs.declared.events.What.{What}
use Rattle.nt_event.specs.declared.jobs.Stand.{Stand}
use Rattle.nt_event.specs.declared.numbers.ThreadNo.{ThreadNo}
use Rattle.nt_event.specs.declared.scripts.Script.{Script}
use Rattle.nt_event.specs.Families.{DelaysIn, GivesWay, OwnCall, StartTimer, StopTimer, TestsAlert, TimerCall, WaitsIn}
use Rattle.nt_event.specs.Families.{by_own_call, by_timer_call, in_call, in_expiry, in_rewait}
use Rattle.nt_event.specs.Numbers.{is_of}
use Rattle.nt_event.specs.Replies.{is_answer, is_blocked, is_yes}
use Rattle.nt_event.specs.Routines.{cpu_of}
use Rattle.nt_shade_dpcs.specs.declared.timers.ShadeKey.{ShadeKey}

abbrev pub same_key : TimerKey → TimerKey → Bool
same_key (OfTimer t) (OfTimer u) = t.0 == u.0
same_key (OfDelay t) (OfDelay u) = t.0 == u.0
same_key (OfTimer t) (OfDelay u) = false
same_key (OfDelay t) (OfTimer u) = false

-- the list without what is set of this key
abbrev pub without_key : {A : Type 0} → (A → TimerKey) → TimerKey → List A → List A
without_key key k xs = filter (λ x. not (same_key k (key x))) xs

-- the list with one more, behind all that aren't due later
abbrev pub placed : {A : Type 0} → (A → ℕ) → A → List A → List A
placed due v [] = v ∷ []
placed due v (x ∷ xs) = if nat_lt (due v) (due x) then v ∷ x ∷ xs else x ∷ placed due v xs

-- its place there
abbrev pub place_for : ℕ → List ShadeKey → ℕ
place_for due [] = zero
place_for due (x ∷ xs) = if nat_lt due x.due then zero else suc (place_for due xs)

-- the key isn't set
abbrev pub unset : TimerKey → List ShadeKey → List ShadeKey
unset k xs = without_key (λ x. x.key) k xs

-- the key is set anew, after all others
abbrev pub set_anew : ShadeKey → List ShadeKey → List ShadeKey
set_anew v xs = placed (λ x. x.due) v (unset v.key xs)

abbrev pub delayed : Option ThreadNo → Option ℕ → List ShadeKey → List ShadeKey
delayed None due xs = xs
delayed (Some t) None xs = xs
delayed (Some t) (Some due) xs = set_anew (record { key = OfDelay t; due = due; period = 0 }) xs

abbrev pub timer_keyed : ℕ → TimerCall → Reply → List ShadeKey → List ShadeKey
timer_keyed now (StartTimer t due period) y xs =
    if is_answer y then set_anew (record { key = OfTimer t; due = now + due; period = period }) xs else xs
timer_keyed now (StopTimer t) y xs = if is_yes y then unset (OfTimer t) xs else xs

abbrev pub own_keyed : ℕ → Option ThreadNo → OwnCall → Reply → List ShadeKey → List ShadeKey
own_keyed now maker (DelaysIn m a units) y xs = if is_blocked y then delayed maker (Some (now + units)) xs else xs
own_keyed now maker (WaitsIn m a) y xs = xs
own_keyed now maker (TestsAlert m) y xs = xs
own_keyed now maker GivesWay y xs = xs

-- a timer with a period that expires is set anew from this time
abbrev pub renewed_in : TimerKey → ℕ → Option ShadeKey → List ShadeKey → List ShadeKey
renewed_in k now None xs = unset k xs
renewed_in k now (Some x) xs =
    if x.period == 0 then unset k xs else set_anew (record { key = k; due = now + x.period; period = x.period }) xs

abbrev pub expired_in : ℕ → TimerKey → List ShadeKey → List ShadeKey
expired_in now (OfTimer t) xs = renewed_in (OfTimer t) now (find (λ x. same_key (OfTimer t) x.key) xs) xs
expired_in now (OfDelay t) xs = unset (OfDelay t) xs

-- the thread that makes the event, on its own processor
abbrev pub maker_in : Script → Event → Option ThreadNo → Option ThreadNo
maker_in s e None = None
maker_in s e (Some t) = if is_of e (cpu_of s t) then Some t else None

abbrev pub maker_of : Script → Event → Option ThreadNo
maker_of s e = maker_in s e e.thread

-- what an event of this maker leaves at this time; a wait that it takes up again is due then
abbrev pub keys_after : ℕ → Option ThreadNo → Option ℕ → What → List ShadeKey → List ShadeKey
keys_after now maker due w xs =
    in_call
    (λ f c y. by_timer_call (λ k. timer_keyed now k y xs) (by_own_call (λ k. own_keyed now maker k y xs) xs c) c)
    (in_rewait (λ f y. if is_blocked y then delayed maker due xs else xs)
    (in_expiry (λ key from. expired_in now key xs) xs w) w) w

-- when a wait that the event takes up again is due, where its processor stood so
abbrev pub again_due : Stand → What → Option ℕ
again_due st w = in_rewait (λ f y. option_and_then (λ x. x.due) st.again) None w
