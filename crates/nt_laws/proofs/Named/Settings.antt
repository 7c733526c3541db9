-- Keys that are set are of the script, and were set by an earlier event.
use Rattle.std.proofs.Common.{arith, sym, subst, ◌∙◌}
use Rattle.std.proofs.lemmas.Bool.Decides.{nat_tests}
use Rattle.std.proofs.lemmas.List.{get_or_past}
use Rattle.std.specs.Prelude.{Bool, IfSome, List, None, Option, Some, [], false, get_or, if◌then◌else◌, length, nat_lt, option_and_then, refl, suc, true, ℕ}
use Rattle.std.specs.Prelude.{◌&&◌, ◌+◌, ◌<◌, ◌==◌, ◌∷◌, ◌≡◌, ◌≤◌}
use Rattle.nt_event.specs.declared.commands.Command.TheVariants.{CancelTimer, Delay, SetTimer}
use Rattle.nt_event.specs.declared.commands.Reply.TheVariants.{Blocked, Yes}
use Rattle.nt_event.specs.declared.commands.TimerKey.{TimerKey}
use Rattle.nt_event.specs.declared.commands.TimerKey.TheVariants.{Delay as OfDelay, Timer as OfTimer}
use Rattle.nt_event.specs.declared.events.Event.{Event}
use Rattle.nt_event.specs.declared.events.What.{What}
use Rattle.nt_event.specs.declared.events.What.TheVariants.{Call, Expire, Rewait}
use Rattle.nt_event.specs.declared.frames.Again.{Again}
use Rattle.nt_event.specs.declared.inserts.Setting.{Setting}
use Rattle.nt_event.specs.declared.numbers.ThreadNo.{ThreadNo}
use Rattle.nt_event.specs.declared.numbers.TimerNo.{TimerNo}
use Rattle.nt_event.specs.declared.scripts.Script.{Script}
use Rattle.nt_event.specs.Frames.{time}
use Rattle.nt_event.specs.Regions.{stand_at}
use Rattle.nt_event.specs.Timers.{SetKey, blocked_after, delay_set, delay_setting, expired_delay, first_due, renewed, timer_after, timer_setting, timers_at}
use Rattle.nt_event.specs.Waits.{is_of_thread}
use Rattle.nt_event.specs.Replies.{is_answer}
use Rattle.nt_event.specs.Lists.{table}
use Rattle.nt_event.specs.Numbers.{thread, timer}
use Rattle.nt_event.proofs.Tables.{get_or-table, length-table_from}
use Rattle.nt_timer.specs.Settings.{setting_at}
use Rattle.nt_timer.proofs.Among.{first_due_among, set_key_is_set}
use Rattle.nt_event.specs.Fitting.{key_fits}

abbrev SetBelow : ℕ → Option Setting → Type 0
SetBelow n o = IfSome o (λ x. x.number < n)

-- a setting numbered below a number is numbered below the next one
below_next : (n : ℕ) (o : Option Setting) → SetBelow n o → SetBelow (suc n) o
below_next n None h = tt
below_next n (Some x) h = omega (arith, h)

-- a choice between two settings numbered below a number is numbered below it
either : (n : ℕ) (b : Bool) (x y : Option Setting) → SetBelow n x → SetBelow n y → SetBelow n (if b then x else y)
either n true x y h k = h
either n false x y h k = k

-- a setting that is renewed at an event is numbered below the next event
renewed_below : (n now : ℕ) (o : Option Setting) → SetBelow (suc n) (renewed n now o)
renewed_below n now None = tt
renewed_below n now (Some x) = go (x.period == 0)
  where
    go : (b : Bool) → SetBelow (suc n) (if b then None else Some (record { due = now + x.period; number = n; period = x.period }))
    go true = tt
    go false = omega arith

-- what an event leaves of a timer's setting is numbered below the next event
timer_step : (t : TimerNo) (n now : ℕ) (w : What) (old : Option Setting) → SetBelow n old → SetBelow (suc n) (timer_after t n now w old)
timer_step t n now (Call f (SetTimer x due period) y) old h =
    either (suc n) (is_answer y && (x.0 == t.0)) (Some (record { due = now + due; number = n; period = period })) old (omega arith) (below_next n old h)
timer_step t n now (Call f (CancelTimer x) Yes) old h = either (suc n) (x.0 == t.0) None old tt (below_next n old h)
timer_step t n now (Expire (OfTimer x) from) old h =
    either (suc n) (x.0 == t.0) (renewed n now old) old (renewed_below n now old) (below_next n old h)
timer_step t n now w old h = below_next n old h

-- a timer's setting is numbered below the length of the history
timer_below : (t : TimerNo) (past : List Event) → SetBelow (length past) (timer_setting t past)
timer_below t [] = tt
timer_below t (e ∷ past) =
    timer_step t (length past) (time past) e.what (timer_setting t past) (timer_below t past)

-- a delay set at an event, or none, is numbered below the next event
delay_set_below : (n : ℕ) (due : Option ℕ) (old : Option Setting) → SetBelow n old → SetBelow (suc n) (delay_set n due old)
delay_set_below n None old h = below_next n old h
delay_set_below n (Some due) old h = omega arith

-- what a blocking wait leaves of a delay's setting is numbered below the next event
blocked_step : (n now : ℕ) (again : Option Again) (w : What) (old : Option Setting) → SetBelow n old → SetBelow (suc n) (blocked_after n now again w old)
blocked_step n now again (Call f (Delay m a units) Blocked) old h = delay_set_below n (Some (now + units)) old h
blocked_step n now again (Rewait f Blocked) old h = delay_set_below n (option_and_then (λ w. w.due) again) old h
blocked_step n now again w old h = below_next n old h

-- what an expiry leaves of a delay's setting is numbered below the bound of the old one
expired_step : (n : ℕ) (t : ThreadNo) (w : What) (old : Option Setting) → SetBelow n old → SetBelow n (expired_delay t w old)
expired_step n t (Expire (OfDelay u) from) old h = either n (u.0 == t.0) None old tt h
expired_step n t w old h = h

-- a delay's setting is numbered below the length of the history
delay_below : (s : Script) (t : ThreadNo) (past : List Event) → SetBelow (length past) (delay_setting s t past)
delay_below s t [] = tt
delay_below s t (e ∷ past) =
    let again : Option Again = (stand_at s e.cpu past).again in
    let old : Option Setting = delay_setting s t past in
    expired_step (suc (length past)) t e.what (if is_of_thread s t e then blocked_after (length past) (time past) again e.what old else old)
    (either (suc (length past)) (is_of_thread s t e) (blocked_after (length past) (time past) again e.what old) old
    (blocked_step (length past) (time past) again e.what old (delay_below s t past)) (below_next (length past) old (delay_below s t past)))

-- a place in a table at which something is set is one of the table, and what is set there has a smaller number
in_table : (size n i : ℕ) (f : ℕ → Option Setting) (x : Setting) → ((k : ℕ) → SetBelow n (f k)) → get_or {A = Option Setting} (table size f) i None ≡ Some x →
    (nat_lt i size ≡ true) × (x.number < n)
in_table size n i f x h e = go (nat_lt i size) refl
  where
    some : (o : Option Setting) → SetBelow n o → o ≡ Some x → x.number < n
    some None b k = cc
    some (Some y) b k = let same : y ≡ x = cc in subst (λ (z : Setting). z.number < n) same b

    go : (b : Bool) → nat_lt i size ≡ b → (nat_lt i size ≡ true) × (x.number < n)
    go true l =
        let within : i < size = grind (arith, nat_tests) in
        (l, some (f i) (h i) (sym (get_or-table {A = Option Setting} size i f None within) ∙ e))
    go false l =
        let past : length (table size f) ≤ i = (let n = length-table_from {A = Option Setting} 0 size f in grind (arith, nat_tests)) in
        absurd (none (sym (get_or_past (table size f) i None past) ∙ e))
      where
        none : ◌≡◌ {A = Option Setting} None (Some x) → ⊥
        none k = cc

-- a timer key that is set is one of the script, and was set by an earlier event
key_set : (s : Script) (key : TimerKey) (x : Setting) (past : List Event) → setting_at key (timers_at s past) ≡ Some x → (key_fits s key ≡ true) ×
    (x.number < length past)
key_set s (OfTimer t) x past e =
    in_table (length s.timers) (length past) t.0 (λ t. timer_setting (timer t) past) x (λ k. timer_below (timer k) past) e
key_set s (OfDelay t) x past e =
    in_table (length s.threads) (length past) t.0 (λ t. delay_setting s (thread t) past) x (λ k. delay_below s (thread k) past) e

-- the first due key is one of the script's, and was set by an earlier event
pub due_fits : (s : Script) (past : List Event) (k : SetKey) → first_due (timers_at s past) ≡ Some k → (key_fits s k.key ≡ true) ×
    (k.setting.number < length past)
due_fits s past k e =
    let among = first_due_among (timers_at s past) k e in
    key_set s k.key k.setting past (set_key_is_set (timers_at s past) k among.0)
