-- In a run, while a key is due, some processor wants the clock interrupt or owes a sweep of the timers.
use Rattle.std.proofs.Common.{ap, arith, inl, inr, subst, sym, ◌∙◌}
use Rattle.std.proofs.lemmas.Bool.{eq-eqb, eqb-true, le-leb, ltb-false, ltb-true}
use Rattle.std.proofs.lemmas.List.{get_or_past}
use Rattle.std.specs.Prelude.{Bool, List, MatchOption, None, Option, Some, false, get_or, if◌then◌else◌, is_some, length, nat_lt, not, option_map, refl, true}
use Rattle.std.specs.Prelude.{ℕ, ◌&&◌, ◌+◌, ◌<◌, ◌==◌, ◌∷◌, ◌≡◌, ◌≤◌, ◌⊎◌}
use Rattle.nt_event.specs.declared.commands.Command.TheVariants.{Clock, Delay, SetTimer}
use Rattle.nt_event.specs.declared.commands.Mode.{Mode}
use Rattle.nt_event.specs.declared.commands.Regions.{Regions}
use Rattle.nt_event.specs.declared.commands.Reply.{Reply}
use Rattle.nt_event.specs.declared.commands.Reply.TheVariants.{Blocked, Done, Status}
use Rattle.nt_event.specs.declared.commands.TimerKey.{TimerKey}
use Rattle.nt_event.specs.declared.commands.TimerKey.TheVariants.{Delay as OfDelay, Timer as OfTimer}
use Rattle.nt_event.specs.declared.events.Begun.TheVariants.{Int}
use Rattle.nt_event.specs.declared.events.Event.{Event}
use Rattle.nt_event.specs.declared.events.What.{What}
use Rattle.nt_event.specs.declared.events.What.TheVariants.{Begin, Call, Clean, Expire}
use Rattle.nt_event.specs.declared.inserts.Setting.{Setting}
use Rattle.nt_event.specs.declared.numbers.CpuNo.{CpuNo}
use Rattle.nt_event.specs.declared.numbers.TimerNo.{TimerNo}
use Rattle.nt_event.specs.declared.scripts.Script.{Script}
use Rattle.nt_event.specs.Apcs.{deliverable}
use Rattle.nt_event.specs.Commands.{is_reached}
use Rattle.nt_event.specs.Frames.{time}
use Rattle.nt_event.specs.Lanes.{facts_of, lanes_at}
use Rattle.nt_event.specs.Own.{own_of}
use Rattle.nt_event.specs.Regions.{owes_sweep, stand_at, sweep_after}
use Rattle.nt_event.specs.Requests.{asks, serves}
use Rattle.nt_event.specs.Step.{IsLegal, IsRun}
use Rattle.nt_event.specs.Threads.{ThreadFacts}
use Rattle.nt_event.specs.Timers.{SetKey, delay_setting, first_due, timer_setting, timers_at}
use Rattle.nt_event.specs.Waits.{wait_reply}
use Rattle.nt_event.specs.Replies.{is_answer, kernel_apc, satisfied}
use Rattle.nt_event.specs.Numbers.{is_of, thread, timer}
use Rattle.nt_event.specs.Lists.{when}
use Rattle.nt_runs.proofs.Known.{Known, KnownCall, KnownClean, KnownRewait, legal_known}
use Rattle.nt_event.proofs.Options.{both}
use Rattle.nt_runs.proofs.Robin.{or_yes}
use Rattle.nt_runs.proofs.Running.{same_cpu}
use Rattle.nt_runs.proofs.Stops.{call_accepted}
use Rattle.nt_event.proofs.Tables.{get_or-table, length-table_from}
use Rattle.nt_runs.proofs.Turns.{is_next}
use Rattle.nt_runs.proofs.Pending.{legal_cpu}
use Rattle.nt_timer.proofs.Order.{first_due_is_first}
use Rattle.nt_timer.specs.Laws.{IsFirstDue}
use Rattle.nt_timer.specs.Settings.{setting_at}
use Rattle.nt_close.specs.Close.{IsOwed, IsWanted}
use Rattle.nt_close.proofs.Wanted.{asks_wanted, known_here, stays_wanted}

-- ---- set keys

abbrev pub set_at : Script → TimerKey → List Event → Option Setting
set_at s (OfTimer t) past = timer_setting t past
set_at s (OfDelay t) past = delay_setting s t past

-- the script has the timer, or the thread of the delay
abbrev pub has_key : Script → TimerKey → Bool
has_key s (OfTimer t) = nat_lt t.0 (length s.timers)
has_key s (OfDelay t) = nat_lt t.0 (length s.threads)

-- for a key that the script has, the table of the timers holds the key's own setting
set_there : (s : Script) (key : TimerKey) (past : List Event) → has_key s key ≡ true → setting_at key (timers_at s past) ≡ set_at s key past
set_there s (OfTimer t) past h =
    get_or-table (length s.timers) t.0 (λ t. timer_setting (timer t) past) None (ltb-true t.0 (length s.timers) h)
set_there s (OfDelay t) past h =
    get_or-table (length s.threads) t.0 (λ t. delay_setting s (thread t) past) None (ltb-true t.0 (length s.threads) h)

-- at an index that isn't below the length a table of settings has no setting
none_past : {A : Type 0} (n i : ℕ) (xs : List (Option Setting)) (x : Setting) → length xs ≡ n → nat_lt i n ≡ false → get_or xs i None ≡ Some x → A
none_past n i xs x e l h =
    let b : n ≤ i = ltb-false i n l in
    let none : get_or xs i None ≡ None = get_or_past xs i None (omega (arith, b, e)) in
    cc

-- a key that is set is one of the script's
key_named : (s : Script) (key : TimerKey) (past : List Event) (x : Setting) → setting_at key (timers_at s past) ≡ Some x → has_key s key ≡ true
key_named s (OfTimer t) past x h = go (nat_lt t.0 (length s.timers)) refl
  where
    go : (b : Bool) → nat_lt t.0 (length s.timers) ≡ b → nat_lt t.0 (length s.timers) ≡ true
    go true e = e
    go false e =
        none_past (length s.timers) t.0 (timers_at s past).timers x (length-table_from 0 (length s.timers) (λ t. timer_setting (timer t) past)) e h
key_named s (OfDelay t) past x h = go (nat_lt t.0 (length s.threads)) refl
  where
    go : (b : Bool) → nat_lt t.0 (length s.threads) ≡ b → nat_lt t.0 (length s.threads) ≡ true
    go true e = e
    go false e =
        none_past (length s.threads) t.0 (timers_at s past).delays x (length-table_from 0 (length s.threads) (λ t. delay_setting s (thread t) past)) e h

-- the key is set and due
pub record IsDueAt (s : Script) (key : TimerKey) (past : List Event) : Type 0 where
  pub has : has_key s key ≡ true
  pub setting : Setting
  pub is_set : set_at s key past ≡ Some setting
  pub due : setting.due ≤ time past

-- where there is no first due key, none is due
none_due : (s : Script) (key : TimerKey) (past : List Event) → IsDueAt s key past → first_due (timers_at s past) ≡ None → ⊥
none_due s key past k e =
    let first : MatchOption (first_due (timers_at s past))
    ((key : TimerKey) (setting : Setting) → setting_at key (timers_at s past) ≡ Some setting → time past < setting.due)
    (IsFirstDue (timers_at s past)) = first_due_is_first (timers_at s past) in
    let later : (key : TimerKey) (setting : Setting) → setting_at key (timers_at s past) ≡ Some setting →
    time past < setting.due = subst (λ (o : Option SetKey). MatchOption o
    ((key : TimerKey) (setting : Setting) → setting_at key (timers_at s past) ≡ Some setting → time past < setting.due)
    (IsFirstDue (timers_at s past))) e first in
    let l = later key k.setting (set_there s key past k.has ∙ k.is_set) in
    let d = k.due in
    absurd (omega (arith, l, d))

-- and the first due key is due
pub first_is_due : (s : Script) (past : List Event) (k : SetKey) → first_due (timers_at s past) ≡ Some k → IsDueAt s k.key past
first_is_due s past k e =
    let first : MatchOption (first_due (timers_at s past))
    ((key : TimerKey) (setting : Setting) → setting_at key (timers_at s past) ≡ Some setting → time past < setting.due)
    (IsFirstDue (timers_at s past)) = first_due_is_first (timers_at s past) in
    let is : IsFirstDue (timers_at s past) k = subst (λ (o : Option SetKey). MatchOption o
    ((key : TimerKey) (setting : Setting) → setting_at key (timers_at s past) ≡ Some setting → time past < setting.due)
    (IsFirstDue (timers_at s past))) e first in
    let has : has_key s k.key ≡ true = key_named s k.key past k.setting is.is_set in
    record { has = has; setting = k.setting; is_set = sym (set_there s k.key past has) ∙ is.is_set; due = is.due }

-- ---- what an event leaves owed

-- whether a processor owes a sweep after an event of its own is told by the event and what it owed before
sweep_own : (p : CpuNo) (e : Event) (past : List Event) → is_of e p ≡ true → owes_sweep p (e ∷ past) ≡ sweep_after e.what (owes_sweep p past)
sweep_own p e past o = rw o refl

-- an event is of the processor that it names as its own
itself : (e : Event) → is_of e e.cpu ≡ true
itself e = eq-eqb e.cpu.0 e.cpu.0 refl

-- an event after which its own processor owes a sweep
owes_own : (s : Script) (limit : ℕ) (e : Event) (past : List Event) → IsLegal s limit e past → sweep_after e.what (owes_sweep e.cpu past) ≡ true →
    IsOwed s (e ∷ past)
owes_own s limit e past g h =
    record { cpu = e.cpu; named = legal_cpu s limit e past g; why = inr (sweep_own e.cpu e past (itself e) ∙ h) }

-- a processor goes on to owe its sweep but after its Clean of class 2
sweep_keeps : (w : What) → (w ≡ Clean 2 → ⊥) → sweep_after w true ≡ true
sweep_keeps (Begin (Int level) from) h = or_yes (level == 13) true refl
sweep_keeps (Call f (SetTimer t due period) y) h = or_yes (is_answer y && (due == 0)) true refl
sweep_keeps (Clean c) h = go (c == 2) refl
  where
    go : (b : Bool) → (c == 2) ≡ b → (not b && true) ≡ true
    go true e = absurd (h (ap (λ (n : ℕ). Clean n) (eqb-true c 2 e)))
    go false e = refl
sweep_keeps w h = refl

-- class 13 is served by a Begin of the clock interrupt alone, after which a sweep is owed
clean_13 : {A : Type 0} (s : Script) (p : CpuNo) (past : List Event) → KnownClean p (own_of s p past) (lanes_at s past) 13 → A
clean_13 s p past (inl k) = let n = k.0 in absurd (omega (arith, n))
clean_13 s p past (inr (inl k)) = let n = k.0 in absurd (omega (arith, n))
clean_13 s p past (inr (inr k)) = let n = k.0 in absurd (omega (arith, n))

-- an event that serves class 13 on its processor leaves a sweep owed there
serves_13 : (s : Script) (limit : ℕ) (p : CpuNo) (e : Event) (past : List Event) → IsLegal s limit e past → is_of e p ≡ true → serves 13 e.what ≡ true →
    sweep_after e.what (owes_sweep e.cpu past) ≡ true
serves_13 s limit p e past g o h = go e.what refl h
  where
    go : (w : What) → e.what ≡ w → serves 13 w ≡ true → sweep_after w (owes_sweep e.cpu past) ≡ true
    go (Clean c) i h =
        let n : c ≡ 13 = eqb-true c 13 h in
        let k : Known s p (own_of s p past) (lanes_at s past) (Clean c) = subst
        (λ (w : What). is_next w ≡ true → Known s p (own_of s p past) (lanes_at s past) w) i (known_here s limit p e past o g) refl in
        clean_13 s p past (subst (λ (c : ℕ). KnownClean p (own_of s p past) (lanes_at s past) c) n k)
    go (Begin (Int level) from) i h = rw h refl
    go w i h = cc

-- what is owed stays owed, where no Clean of class 2 ends a sweep
owed_keeps : (s : Script) (limit : ℕ) (e : Event) (past : List Event) → IsLegal s limit e past → (e.what ≡ Clean 2 → owes_sweep e.cpu past ≡ false) →
    IsOwed s past → IsOwed s (e ∷ past)
owed_keeps s limit e past g clean k = go k.why
  where
    wanted : (b : Bool) → (is_of e k.cpu && serves 13 e.what) ≡ b → IsWanted s k.cpu 13 past → IsOwed s (e ∷ past)
    wanted true h w =
        let a = both (is_of e k.cpu) (serves 13 e.what) h in
        owes_own s limit e past g (serves_13 s limit k.cpu e past g a.0 a.1)
    wanted false h w =
        record { cpu = k.cpu; named = k.named; why = inl (stays_wanted s k.cpu 13 e past (λ o. other (is_of e k.cpu) (serves 13 e.what) o h) w) }
      where
        other : (a b : Bool) → a ≡ true → (a && b) ≡ false → b ≡ false
        other true b o h = h
        other false b o h = cc

    no : {A : Type 0} (b : Bool) → b ≡ true → b ≡ false → A
    no b x y = cc

    swept : (b : Bool) → is_of e k.cpu ≡ b → owes_sweep k.cpu past ≡ true → owes_sweep k.cpu (e ∷ past) ≡ true
    swept true o w =
        sweep_own k.cpu e past o ∙ (ap (sweep_after e.what) w
        ∙ sweep_keeps e.what (λ i. no (owes_sweep k.cpu past) w (ap (λ (p : CpuNo). owes_sweep p past) (sym (same_cpu e k.cpu o)) ∙ clean i)))
    swept false o w = rw o w

    go : IsWanted s k.cpu 13 past ⊎ (owes_sweep k.cpu past ≡ true) → IsOwed s (e ∷ past)
    go (inl w) = wanted (is_of e k.cpu && serves 13 e.what) refl w
    go (inr w) = record { cpu = k.cpu; named = k.named; why = inr (swept (is_of e k.cpu) refl w) }

-- a Clean of class 2 ends a sweep only where no key is due
clean_ends : (s : Script) (key : TimerKey) (p : CpuNo) (past : List Event) → IsDueAt s key past → KnownClean p (own_of s p past) (lanes_at s past) 2 →
    owes_sweep p past ≡ false
clean_ends s key p past k (inl c) = go (owes_sweep p past) refl c.2
  where
    go : (b : Bool) → owes_sweep p past ≡ b → when b (first_due (timers_at s past)) ≡ None → owes_sweep p past ≡ false
    go true e n = absurd (none_due s key past k n)
    go false e n = e
clean_ends s key p past k (inr (inl c)) = let n = c.0 in absurd (omega (arith, n))
clean_ends s key p past k (inr (inr c)) = let n = c.0 in absurd (omega (arith, n))

-- a key was due already, so something was owed
pub due_before : (s : Script) (limit : ℕ) (key : TimerKey) (e : Event) (past : List Event) → IsLegal s limit e past → IsDueAt s key past → IsOwed s past →
    IsOwed s (e ∷ past)
due_before s limit key e past g k h =
    owed_keeps s limit e past g (λ i. clean_ends s key e.cpu past k
    (subst (λ (w : What). is_next w ≡ true → Known s e.cpu (own_of s e.cpu past) (lanes_at s past) w) i (legal_known s limit e past g) refl)) h

-- ---- an event that makes a key due

-- in a run, after a clock call that is done, the clock interrupt is wanted or a sweep is owed
pub clock_owes : (s : Script) (limit : ℕ) (e : Event) (past : List Event) (f units : ℕ) → IsRun s limit (e ∷ past) → e.what ≡ Call f (Clock units) Done →
    IsOwed s (e ∷ past)
clock_owes s limit e past f units r i =
    record { cpu = e.cpu; named = legal_cpu s limit e past r.0; why = inl (asks_wanted s limit e.cpu 13 e past r.1 (λ o. ap (serves 13) i) asked) }
  where
    asked : asks s e.cpu 13 e past ≡ true
    asked = let o : (e.cpu.0 == e.cpu.0) ≡ true = itself e in rw (i, o) refl

-- an expiry is made in a sweep, which goes on
pub expiry_owes : (s : Script) (limit : ℕ) (e : Event) (past : List Event) (key : TimerKey) (from : ℕ) → IsLegal s limit e past → e.what ≡ Expire key from →
    IsOwed s (e ∷ past)
expiry_owes s limit e past key from g i =
    let k : Known s e.cpu (own_of s e.cpu past) (lanes_at s past) (Expire key from) = subst
    (λ (w : What). is_next w ≡ true → Known s e.cpu (own_of s e.cpu past) (lanes_at s past) w) i (legal_known s limit e past g) refl in
    owes_own s limit e past g (ap (λ (w : What). sweep_after w (owes_sweep e.cpu past)) i ∙ k.sweep)

-- a timer that is set with due time 0 is due at once, and its processor owes a sweep
pub set_owes : (s : Script) (limit : ℕ) (e : Event) (past : List Event) (f due period : ℕ) (t : TimerNo) (y : Reply) → IsLegal s limit e past → e.what
    ≡ Call f (SetTimer t due period) y → is_answer y ≡ true → due ≡ 0 → IsOwed s (e ∷ past)
set_owes s limit e past f due period t y g i a d =
    owes_own s limit e past g (ap (λ (w : What). sweep_after w (owes_sweep e.cpu past)) i ∙ let z : (due == 0) ≡ true = eq-eqb due 0 d in rw (a, z) refl)

-- a wait whose time is reached doesn't block
reached_answers : {A : Type 0} (x : ThreadFacts) (r : Regions) (level : ℕ) (m : Mode) (a b : Bool) → b ≡ true → wait_reply x r level m a (Some b) ≡ Blocked → A
reached_answers {A} x r level m a true e h = go (is_some (deliverable x.apcs r level)) h
  where
    go : (d : Bool) → (if d then Status kernel_apc else Status satisfied) ≡ Blocked → A
    go true h = cc
    go false h = cc
reached_answers x r level m a false e h = cc

-- a delay whose due time is reached already doesn't block
pub delay_blocks : {A : Type 0} (s : Script) (limit : ℕ) (e : Event) (past : List Event) (f : ℕ) (m : Mode) (a : Bool) (units : ℕ) → IsLegal s limit e past →
    e.what ≡ Call f (Delay m a units) Blocked → time past + units ≤ time past → A
delay_blocks s limit e past f m a units g i d =
    let known : KnownCall s e.cpu (own_of s e.cpu past) (lanes_at s past) f (Delay m a units) Blocked = subst
    (λ (w : What). is_next w ≡ true → Known s e.cpu (own_of s e.cpu past) (lanes_at s past) w) i (legal_known s limit e past g) refl in
    let replied = (call_accepted s e.cpu (own_of s e.cpu past) (lanes_at s past) f (Delay m a units) Blocked known refl).1 in
    reached_answers (facts_of (lanes_at s past) (stand_at s e.cpu past).thread) (stand_at s e.cpu past).regions (stand_at s e.cpu past).level m a
    (is_reached (time past) (time past + units)) (le-leb (time past + units) (time past) d) (sym replied)

-- a wait that is taken up again after its due time is reached doesn't block
pub rewait_blocks : {A : Type 0} (s : Script) (e : Event) (past : List Event) (f due : ℕ) →
    (k : KnownRewait e.cpu (own_of s e.cpu past) (lanes_at s past) f Blocked) → k.wait.due ≡ Some due → due ≤ time past → A
rewait_blocks s e past f due k o d =
    let replied : wait_reply (facts_of (lanes_at s past) (stand_at s e.cpu past).thread) (stand_at s e.cpu past).regions
    (stand_at s e.cpu past).level k.wait.mode k.wait.alertable (option_map (is_reached (time past)) k.wait.due) ≡ Blocked = sym k.reply in
    let reached : wait_reply (facts_of (lanes_at s past) (stand_at s e.cpu past).thread) (stand_at s e.cpu past).regions
    (stand_at s e.cpu past).level k.wait.mode k.wait.alertable (Some (is_reached (time past) due))
    ≡ Blocked = subst (λ (o : Option ℕ). wait_reply (facts_of (lanes_at s past) (stand_at s e.cpu past).thread) (stand_at s e.cpu past).regions
    (stand_at s e.cpu past).level k.wait.mode k.wait.alertable (option_map (is_reached (time past)) o) ≡ Blocked) o replied in
    reached_answers (facts_of (lanes_at s past) (stand_at s e.cpu past).thread) (stand_at s e.cpu past).regions
    (stand_at s e.cpu past).level k.wait.mode k.wait.alertable (is_reached (time past) due) (le-leb due (time past) d) reached
