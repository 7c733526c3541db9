-- A key is set by its last set event, and the first due key is the least of those that are set and due.
use Rattle.std.proofs.Common.{ap, arith, inl, inr, subst, sym, ◌∙◌}
use Rattle.std.proofs.lemmas.Bool.{eqb-true, ltb-false, ltb-true}
use Rattle.std.proofs.lemmas.List.{get_or_past}
use Rattle.std.specs.Prelude.{Bool, List, MatchOption, None, Option, Some, [], false, if◌then◌else◌, length, nat_lt, refl, suc, true, zero, ℕ, ◌+◌, ◌<◌, ◌==◌}
use Rattle.std.specs.Prelude.{◌∷◌, ◌↔◌, ◌≡◌, ◌≤◌, ◌⊎◌}
use Rattle.nt_event.specs.declared.commands.Command.TheVariants.{CancelTimer, Delay, SetTimer}
use Rattle.nt_event.specs.declared.commands.Reply.TheVariants.{Blocked, Yes}
use Rattle.nt_event.specs.declared.commands.TimerKey.{TimerKey}
use Rattle.nt_event.specs.declared.commands.TimerKey.TheVariants.{Delay as OfDelay, Timer as OfTimer}
use Rattle.nt_event.specs.declared.events.Event.{Event}
use Rattle.nt_event.specs.declared.events.What.{What}
use Rattle.nt_event.specs.declared.events.What.TheVariants.{Call, Expire, Rewait}
use Rattle.nt_event.specs.declared.frames.Again.{Again}
use Rattle.nt_event.specs.declared.inserts.Setting.{Setting}
use Rattle.nt_event.specs.declared.numbers.ThreadNo.{ThreadNo}
use Rattle.nt_event.specs.declared.numbers.TimerNo.{TimerNo}
use Rattle.nt_event.specs.declared.scripts.Script.{Script}
use Rattle.nt_event.specs.Frames.{time}
use Rattle.nt_event.specs.Regions.{stand_at}
use Rattle.nt_event.specs.Timers.{SetKey, blocked_after, delay_set, delay_setting, expired_delay, first_due, renewed, setting_in, timer_after, timer_setting}
use Rattle.nt_event.specs.Timers.{timers_at}
use Rattle.nt_event.specs.Waits.{is_of_thread}
use Rattle.nt_event.specs.Lists.{table}
use Rattle.nt_event.specs.Numbers.{thread, timer}
use Rattle.nt_event.proofs.Tables.{get_or-table, length-table_from}
use Rattle.nt_timer.specs.Laws.{IsFirstDue}
use Rattle.nt_timer.specs.Settings.{setting_at}
use Rattle.nt_timer.proofs.Order.{first_due_is_first}
use Rattle.nt_readings.specs.Positions.{At, EachAfter}
use Rattle.nt_readings.specs.Timers.{IsDelaySet, IsDelaySetBy, IsFirstDueKey, IsKeySet, IsPeriod, IsTimerSet, IsTimerSetBy, LeavesDelay, LeavesTimer}
use Rattle.nt_readings.specs.Timers.{blocked_due, cancels_timer, due_blocked, expires_delay, expires_timer, named_due, named_period, sets_timer}
use Rattle.nt_readings.proofs.Seen.{at_before}
use Rattle.nt_readings.proofs.Served.{none_after}

-- from false being true anything follows
no_bool : {A : Type 0} → false ≡ true → A
no_bool h = cc

-- from no setting being some setting anything follows
none_some : {A : Type 0} (x : Setting) → ◌≡◌ {A = Option Setting} None (Some x) → A
none_some x h = cc

-- two settings that are equal as options are equal
same_some : (x y : Setting) → ◌≡◌ {A = Option Setting} (Some x) (Some y) → x ≡ y
same_some x y h = cc

-- ---- what an event leaves of a timer

-- a `settimer` sets a timer with its due time, number and period
timer_set : (t : TimerNo) (n now : ℕ) (w : What) (old : Option Setting) → sets_timer t w ≡ true → timer_after t n now w old
    ≡ Some (record { due = now + named_due w; number = n; period = named_period w })
timer_set t n now (Call f (SetTimer x due period) y) old h = rw h refl
timer_set t n now w old h = cc

-- a `canceltimer` that is answered yes leaves the timer unset
timer_cancelled : (t : TimerNo) (n now : ℕ) (w : What) (old : Option Setting) → cancels_timer t w ≡ true → timer_after t n now w old ≡ None
timer_cancelled t n now (Call f (CancelTimer x) Yes) old h = rw h refl
timer_cancelled t n now w old h = cc

-- the expiry of a timer leaves it as renewed: set anew if it has a period, else unset
timer_expired : (t : TimerNo) (n now : ℕ) (w : What) (old : Option Setting) → expires_timer t w ≡ true → timer_after t n now w old ≡ renewed n now old
timer_expired t n now (Expire (OfTimer x) from) old h = rw h refl
timer_expired t n now w old h = cc

-- an event that neither sets, cancels nor expires a timer leaves it as it was
timer_left : (t : TimerNo) (n now : ℕ) (w : What) (old : Option Setting) → sets_timer t w ≡ false → cancels_timer t w ≡ false → expires_timer t w ≡ false →
    timer_after t n now w old ≡ old
timer_left t n now (Call f (SetTimer x due period) y) old h k l = rw h refl
timer_left t n now (Call f (CancelTimer x) Yes) old h k l = rw k refl
timer_left t n now (Expire (OfTimer x) from) old h k l = rw l refl
timer_left t n now w old h k l = refl

-- an expiry sets or cancels nothing
expiry_alone : (t : TimerNo) (w : What) → expires_timer t w ≡ true → (sets_timer t w ≡ false) × (cancels_timer t w ≡ false)
expiry_alone t (Expire (OfTimer x) from) h = (refl, refl)
expiry_alone t w h = cc

-- a number that isn't 0 is above 0
positive : (k : ℕ) → (k == 0) ≡ false → 0 < k
positive zero h = cc
positive (suc k) h = omega arith

-- the setting of a timer that is set anew
abbrev anew : ℕ → ℕ → Setting → Setting
anew n now y = record { due = now + y.period; number = n; period = y.period }

-- an expired timer that is set anew has its old period
renewed_some : (n now : ℕ) (old : Option Setting) (x : Setting) → renewed n now old ≡ Some x → (y : Setting) × (old ≡ Some y) × (0 < y.period) ×
    (x.period ≡ y.period) × (x.due ≡ now + y.period) × (x.number ≡ n)
renewed_some n now None x h = none_some x h
renewed_some n now (Some y) x h = go (y.period == 0) refl h
  where
    go : (b : Bool) → (y.period == 0) ≡ b → (if b then None else Some (anew n now y)) ≡ Some x → (z : Setting) × (Some y ≡ Some z) × (0 < z.period) ×
        (x.period ≡ z.period) × (x.due ≡ now + z.period) × (x.number ≡ n)
    go true e k = none_some x k
    go false e k =
        let same = same_some (anew n now y) x k in (
          y,
          refl,
          positive y.period e,
          ap (λ (z : Setting). z.period) (sym same),
          ap (λ (z : Setting). z.due) (sym same),
          ap (λ (z : Setting). z.number) (sym same),
        )

-- an expired timer with a period above 0 is set anew, due a period later
renewed_so : (n now : ℕ) (y : Setting) → 0 < y.period → renewed n now (Some y) ≡ Some (anew n now y)
renewed_so n now y h = go (y.period == 0) refl
  where
    go : (b : Bool) → (y.period == 0) ≡ b → if◌then◌else◌ {A = Option Setting} b None (Some (anew n now y)) ≡ Some (anew n now y)
    go true e = let z = eqb-true y.period 0 e in absurd (omega (arith, h, z))
    go false e = refl

-- ---- a timer that is set

abbrev IsSetSo : TimerNo → Setting → List Event → Type 0
IsSetSo t x past = IsTimerSet t x past × IsPeriod t x.period past

abbrev KeepsPeriod : TimerNo → Event → List Event → Type 0
KeepsPeriod t e before = (sets_timer t e.what ≡ false) × (cancels_timer t e.what ≡ false)

-- a timer that is set was set by its last set event, with that event's period
set_forth : (t : TimerNo) (x : Setting) (past : List Event) → timer_setting t past ≡ Some x → IsSetSo t x past
set_forth t x [] h = none_some x h
set_forth t x (e ∷ past) h = go (sets_timer t e.what) (cancels_timer t e.what) (expires_timer t e.what) refl refl refl (λ y k. set_forth t y past k)
  where
    old : Option Setting
    old = timer_setting t past

    go : (a b c : Bool) → sets_timer t e.what ≡ a → cancels_timer t e.what ≡ b → expires_timer t e.what ≡ c →
        ((y : Setting) → timer_setting t past ≡ Some y → IsSetSo t y past) → IsSetSo t x (e ∷ past)
    go true b c i j k ih =
        let same = same_some _ x (sym (timer_set t (length past) (time past) e.what old i) ∙ h) in
        let due : x.due ≡ time past + named_due e.what = ap (λ (z : Setting). z.due) (sym same) in
        let number : x.number ≡ length past = ap (λ (z : Setting). z.number) (sym same) in
        let period : x.period ≡ named_period e.what = ap (λ (z : Setting). z.period) (sym same) in (
          (
            length past,
            inl (refl, (number, inl (i, due, period))),
            (λ l. absurd (omega (arith, l)), none_after (LeavesTimer t) (length past) past (omega arith)),
          ),
          (length past, inl (refl, (i, period)), (λ l. absurd (omega (arith, l)), none_after (KeepsPeriod t) (length past) past (omega arith))),
        )
    go false true c i j k ih = none_some x (sym (timer_cancelled t (length past) (time past) e.what old j) ∙ h)
    go false false true i j k ih =
        let r = renewed_some (length past) (time past) old x (sym (timer_expired t (length past) (time past) e.what old k) ∙ h) in
        let before = (ih r.0 r.1).1 in
        let period : IsPeriod t x.period past = subst (λ (p : ℕ). IsPeriod t p past) (sym r.3) before in
        let more : 0 < x.period = let a = r.2 in let b = r.3 in omega (arith, a, b) in
        let due : x.due ≡ time past + x.period = r.4 ∙ ap (λ (p : ℕ). time past + p) (sym r.3) in (
          (
            length past,
            inl (refl, (r.5, inr (k, more, period, due))),
            (λ l. absurd (omega (arith, l)), none_after (LeavesTimer t) (length past) past (omega arith)),
          ),
          (period.0, inr period.1, (λ l. (i, j), period.2)),
        )
    go false false false i j k ih =
        let a = ih x (sym (timer_left t (length past) (time past) e.what old i j k) ∙ h) in
        ((a.0.0, inr a.0.1, (λ l. (i, j, k), a.0.2)), (a.1.0, inr a.1.1, (λ l. (i, j), a.1.2)))

-- a timer with a period that was not cancelled since its `settimer` is set with that period
abbrev HasPeriod : TimerNo → ℕ → List Event → Type 0
HasPeriod t p past = (y : Setting) × (timer_setting t past ≡ Some y) × (y.period ≡ p)

-- a timer with a period, not cancelled since its last `settimer`, is set with that period
period_has : (t : TimerNo) (p : ℕ) (past : List Event) → 0 < p → IsPeriod t p past → HasPeriod t p past
period_has t p [] more h = absurd h.1
period_has t p (e ∷ past) more h = go h.1 (λ a b. period_has t p past more (h.0, a, b))
  where
    later : (c : Bool) → expires_timer t e.what ≡ c → sets_timer t e.what ≡ false → cancels_timer t e.what ≡ false → HasPeriod t p past →
        HasPeriod t p (e ∷ past)
    later false k i j a = (a.0, timer_left t (length past) (time past) e.what (timer_setting t past) i j k ∙ a.1, a.2)
    later true k i j a =
        let q = a.2 in
        let more_y : 0 < a.0.period = omega (arith, q, more) in (
          record { due = time past + a.0.period; number = length past; period = a.0.period },
          timer_expired t (length past) (time past) e.what (timer_setting t past) k
              ∙ (ap (renewed (length past) (time past)) a.1 ∙ renewed_so (length past) (time past) a.0 more_y),
          a.2,
        )

    go : At (λ x before. (sets_timer t x.what ≡ true) × (p ≡ named_period x.what)) h.0 (e ∷ past) →
        (At (λ x before. (sets_timer t x.what ≡ true) × (p ≡ named_period x.what)) h.0 past → EachAfter (KeepsPeriod t) h.0 past → HasPeriod t p past) →
        HasPeriod t p (e ∷ past)
    go (inl a) ih = (
      record { due = time past + named_due e.what; number = length past; period = named_period e.what },
      timer_set t (length past) (time past) e.what (timer_setting t past) a.1.0,
      sym a.1.1,
    )
    go (inr a) ih =
        let k = h.2.0 (at_before (λ x before. (sets_timer t x.what ≡ true) × (p ≡ named_period x.what)) h.0 past a) in
        later (expires_timer t e.what) refl k.0 k.1 (ih a h.2.1)

-- a setting with these fields is the setting made of them
setting_is : (x : Setting) (due number period : ℕ) → x.due ≡ due → x.number ≡ number → x.period ≡ period →
    record { due = due; number = number; period = period } ≡ x
setting_is x due number period a b c = λ i. record { due = (sym a) i; number = (sym b) i; period = (sym c) i }

-- a timer is set as its last set event says, if it wasn't cancelled or expired since
set_back : (t : TimerNo) (x : Setting) (past : List Event) → IsTimerSet t x past → timer_setting t past ≡ Some x
set_back t x [] h = absurd h.1
set_back t x (e ∷ past) h = go h.1 (λ a b. set_back t x past (h.0, a, b))
  where
    by_it : ((sets_timer t e.what ≡ true) × (x.due ≡ time past + named_due e.what) × (x.period ≡ named_period e.what)) ⊎
        ((expires_timer t e.what ≡ true) × (0 < x.period) × IsPeriod t x.period past × (x.due ≡ time past + x.period)) → x.number ≡ length past →
        timer_setting t (e ∷ past) ≡ Some x
    by_it (inl a) n =
        timer_set t (length past) (time past) e.what (timer_setting t past) a.0
        ∙ ap (λ (z : Setting). Some z) (setting_is x (time past + named_due e.what) (length past) (named_period e.what) a.1 n a.2)
    by_it (inr a) n =
        let y = period_has t x.period past a.1 a.2 in
        let q = y.2 in
        let more = a.1 in
        let more_y : 0 < y.0.period = omega (arith, q, more) in
        timer_expired t (length past) (time past) e.what (timer_setting t past) a.0
        ∙ (ap (renewed (length past) (time past)) y.1
        ∙ (renewed_so (length past) (time past) y.0 more_y
        ∙ ap (λ (z : Setting). Some z) (setting_is x (time past + y.0.period) (length past) y.0.period (a.3 ∙ ap (λ (p : ℕ). time past + p) (sym y.2)) n
        (sym y.2))))

    go : At (IsTimerSetBy t x) h.0 (e ∷ past) → (At (IsTimerSetBy t x) h.0 past → EachAfter (LeavesTimer t) h.0 past → timer_setting t past ≡ Some x) →
        timer_setting t (e ∷ past) ≡ Some x
    go (inl a) ih = by_it a.1.1 a.1.0
    go (inr a) ih =
        let k = h.2.0 (at_before (IsTimerSetBy t x) h.0 past a) in
        timer_left t (length past) (time past) e.what (timer_setting t past) k.0 k.1 k.2 ∙ ih a h.2.1

-- a timer has a setting exactly where its last set event gave it and it wasn't cancelled or expired since
pub timers_set_last : (t : TimerNo) (x : Setting) (past : List Event) → (timer_setting t past ≡ Some x) ↔ IsTimerSet t x past
timers_set_last t x past = (λ h. (set_forth t x past h).0, λ h. set_back t x past h)

-- ---- a delay that is set

-- an event that blocks in a delay sets the delay with its due time and number
delay_blocked : (n now : ℕ) (again : Option Again) (w : What) (old : Option Setting) (due : ℕ) → blocked_due now again w ≡ Some due →
    blocked_after n now again w old ≡ Some (record { due = due; number = n; period = 0 })
delay_blocked n now again (Call f (Delay m a units) Blocked) old due h =
    let same : now + units ≡ due = cc in ap (λ (d : ℕ). delay_set n (Some d) old) same
delay_blocked n now again (Rewait f Blocked) old due h = ap (λ (o : Option ℕ). delay_set n o old) h
delay_blocked n now again w old due h = cc

-- an event that blocks in no delay leaves the delay's setting as it was
delay_not : (n now : ℕ) (again : Option Again) (w : What) (old : Option Setting) → blocked_due now again w ≡ None → blocked_after n now again w old ≡ old
delay_not n now again (Call f (Delay m a units) Blocked) old h = cc
delay_not n now again (Rewait f Blocked) old h = ap (λ (o : Option ℕ). delay_set n o old) h
delay_not n now again w old h = refl

-- the expiry of a delay leaves it unset
expired_so : (t : ThreadNo) (w : What) (old : Option Setting) → expires_delay t w ≡ true → expired_delay t w old ≡ None
expired_so t (Expire (OfDelay u) from) old h = rw h refl
expired_so t w old h = cc

-- an event that isn't the expiry of a delay leaves its setting as it was
expired_not : (t : ThreadNo) (w : What) (old : Option Setting) → expires_delay t w ≡ false → expired_delay t w old ≡ old
expired_not t (Expire (OfDelay u) from) old h = rw h refl
expired_not t w old h = refl

-- an event that blocks in a delay isn't the expiry of one
blocked_alone : (t : ThreadNo) (now : ℕ) (again : Option Again) (w : What) (due : ℕ) → blocked_due now again w ≡ Some due → expires_delay t w ≡ false
blocked_alone t now again (Expire (OfDelay u) from) due h = cc
blocked_alone t now again w due h = refl

-- what the event leaves of the delay
delay_by : (s : Script) (t : ThreadNo) (e : Event) (past : List Event) (b : Bool) → is_of_thread s t e ≡ b → expires_delay t e.what ≡ false →
    delay_setting s t (e ∷ past) ≡ (if b then blocked_after (length past) (time past) (stand_at s e.cpu past).again e.what (delay_setting s t past)
    else delay_setting s t past)
delay_by s t e past b h k =
    expired_not t e.what (if is_of_thread s t e then blocked_after (length past) (time past) (stand_at s e.cpu past).again e.what (delay_setting s t past)
    else delay_setting s t past) k ∙ ap (λ (c : Bool). if c
    then blocked_after (length past) (time past) (stand_at s e.cpu past).again e.what (delay_setting s t past) else delay_setting s t past) h

-- a delay that is set was set by the last event that blocked in it, and didn't expire since
delay_forth : (s : Script) (t : ThreadNo) (x : Setting) (past : List Event) → delay_setting s t past ≡ Some x → IsDelaySet s t x past
delay_forth s t x [] h = none_some x h
delay_forth s t x (e ∷ past) h =
    go (expires_delay t e.what) (is_of_thread s t e) (due_blocked s e past) refl refl refl (λ k. delay_forth s t x past k)
  where
    go : (a b : Bool) (o : Option ℕ) → expires_delay t e.what ≡ a → is_of_thread s t e ≡ b → due_blocked s e past ≡ o →
        (delay_setting s t past ≡ Some x → IsDelaySet s t x past) → IsDelaySet s t x (e ∷ past)
    go true b o i j k ih =
        none_some x (sym (expired_so t e.what (if is_of_thread s t e
        then blocked_after (length past) (time past) (stand_at s e.cpu past).again e.what (delay_setting s t past) else delay_setting s t past) i) ∙ h)
    go false true (Some due) i j k ih =
        let set : delay_setting s t (e ∷ past) ≡ Some (record { due = due; number = length past; period = 0 }) = delay_by s t e past true j i
        ∙ delay_blocked (length past) (time past) (stand_at s e.cpu past).again e.what (delay_setting s t past) due k in
        let same = same_some (record { due = due; number = length past; period = 0 }) x (sym set ∙ h) in (
          length past,
          inl (
            refl,
            (
              ap (λ (z : Setting). z.number) (sym same),
              ap (λ (z : Setting). z.period) (sym same),
              j,
              k
                  ∙ ap (λ (z : Setting). Some z.due) same,
            ),
          ),
          (λ l. absurd (omega (arith, l)), none_after (LeavesDelay s t) (length past) past (omega arith)),
        )
    go false true None i j k ih =
        let a = ih (sym (delay_by s t e past true j i ∙ delay_not (length past) (time past) (stand_at s e.cpu past).again e.what (delay_setting s t past) k)
        ∙ h) in
        (a.0, inr a.1, (λ l. (λ m. k, i), a.2))
    go false false o i j k ih =
        let a = ih (sym (delay_by s t e past false j i) ∙ h) in
        (a.0, inr a.1, (λ l. (λ m. no_bool (sym j ∙ m), i), a.2))

-- a delay is set as the last event that blocked in it says, if it didn't expire since
delay_back : (s : Script) (t : ThreadNo) (x : Setting) (past : List Event) → IsDelaySet s t x past → delay_setting s t past ≡ Some x
delay_back s t x [] h = absurd h.1
delay_back s t x (e ∷ past) h = go h.1 (λ a b. delay_back s t x past (h.0, a, b))
  where
    left_by : (b : Bool) → is_of_thread s t e ≡ b → LeavesDelay s t e past → delay_setting s t (e ∷ past) ≡ delay_setting s t past
    left_by true j k =
        delay_by s t e past true j k.1 ∙ delay_not (length past) (time past) (stand_at s e.cpu past).again e.what (delay_setting s t past) (k.0 j)
    left_by false j k = delay_by s t e past false j k.1

    go : At (IsDelaySetBy s t x) h.0 (e ∷ past) → (At (IsDelaySetBy s t x) h.0 past → EachAfter (LeavesDelay s t) h.0 past → delay_setting s t past ≡ Some x) →
        delay_setting s t (e ∷ past) ≡ Some x
    go (inl a) ih =
        let k = a.1 in
        delay_by s t e past true k.2 (blocked_alone t (time past) (stand_at s e.cpu past).again e.what x.due k.3)
        ∙ (delay_blocked (length past) (time past) (stand_at s e.cpu past).again e.what (delay_setting s t past) x.due k.3
        ∙ ap (λ (z : Setting). Some z) (setting_is x x.due (length past) 0 refl k.0 k.1))
    go (inr a) ih =
        left_by (is_of_thread s t e) refl (h.2.0 (at_before (IsDelaySetBy s t x) h.0 past a)) ∙ ih a h.2.1

-- a delay has a setting exactly where the thread's last delay that blocked gave it and it hasn't expired since
pub delays_set_last : (s : Script) (t : ThreadNo) (x : Setting) (past : List Event) → (delay_setting s t past ≡ Some x) ↔ IsDelaySet s t x past
delays_set_last s t x past = (λ h. delay_forth s t x past h, λ h. delay_back s t x past h)

-- ---- the first due key

-- a setting in a table is at a place below the table's length and is the function's there
in_table : (n i : ℕ) (f : ℕ → Option Setting) (x : Setting) → setting_in (table n f) i ≡ Some x → (i < n) × (f i ≡ Some x)
in_table n i f x h = go (nat_lt i n) refl
  where
    go : (b : Bool) → nat_lt i n ≡ b → (i < n) × (f i ≡ Some x)
    go true e = let l = ltb-true i n e in (l, sym (get_or-table n i f None l) ∙ h)
    go false e =
        let l = ltb-false i n e in
        let m : length (table n f) ≤ i = let k = length-table_from 0 n f in omega (arith, k, l) in
        none_some x (sym (get_or_past (table n f) i None m) ∙ h)

-- a key that has a setting in the table is one of the script's and is set so by its events
key_forth : (s : Script) (past : List Event) (key : TimerKey) (x : Setting) → setting_at key (timers_at s past) ≡ Some x → IsKeySet s past key x
key_forth s past (OfTimer t) x h =
    let a = in_table (length s.timers) t.0 (λ n. timer_setting (timer n) past) x h in (a.0, (timers_set_last t x past).0 a.1)
key_forth s past (OfDelay t) x h =
    let a = in_table (length s.threads) t.0 (λ n. delay_setting s (thread n) past) x h in
    (a.0, (delays_set_last s t x past).0 a.1)

-- a key of the script that is set so by its events has that setting in the table
key_back : (s : Script) (past : List Event) (key : TimerKey) (x : Setting) → IsKeySet s past key x → setting_at key (timers_at s past) ≡ Some x
key_back s past (OfTimer t) x h =
    get_or-table (length s.timers) t.0 (λ n. timer_setting (timer n) past) None h.0 ∙ (timers_set_last t x past).1 h.1
key_back s past (OfDelay t) x h =
    get_or-table (length s.threads) t.0 (λ n. delay_setting s (thread n) past) None h.0 ∙ (delays_set_last s t x past).1 h.1

-- the first due key is the least, by due time and number, of the keys that are set and due, or none is due
pub first_due_least : (s : Script) (past : List Event) → IsFirstDueKey s past (first_due (timers_at s past))
first_due_least s past = go (first_due (timers_at s past)) (first_due_is_first (timers_at s past))
  where
    go : (o : Option SetKey) → MatchOption o ((key : TimerKey) (setting : Setting) → setting_at key (timers_at s past) ≡ Some setting →
        (timers_at s past).now < setting.due) (IsFirstDue (timers_at s past)) → IsFirstDueKey s past o
    go None h = λ key x k. h key x (key_back s past key x k)
    go (Some k) h =
        (key_forth s past k.key k.setting h.is_set, h.due, λ key x i l. h.first key x (key_back s past key x i) l)
