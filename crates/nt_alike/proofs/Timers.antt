-- Timers without numbers: which key expires first, and what an event leaves.
use Rattle.std.proofs.Common.{ap, arith, inl, inr, subst, sym, ◌∙◌}
use Rattle.std.proofs.lemmas.Bool.{eqb-true, le-ltb, lt-ltb, ltb-false, ltb-true}
use Rattle.std.specs.List.{fold, reduce}
use Rattle.std.specs.Prelude.{Bool, List, None, Option, Some, [], false, filter, get_or, if◌then◌else◌, is_some, length, map, nat_lt, option_and_then}
use Rattle.std.specs.Prelude.{option_map, refl, suc, true, ℕ, ◌&&◌, ◌++◌, ◌+◌, ◌<◌, ◌==◌, ◌∷◌, ◌≡◌, ◌||◌}
use Rattle.nt_event.specs.declared.commands.Command.TheVariants.{CancelTimer, Delay, SetTimer}
use Rattle.nt_event.specs.declared.commands.Reply.TheVariants.{Blocked, Yes}
use Rattle.nt_event.specs.declared.commands.TimerKey.{TimerKey}
use Rattle.nt_event.specs.declared.commands.TimerKey.TheVariants.{Delay as OfDelay, Timer as OfTimer}
use Rattle.nt_event.specs.declared.events.Event.{Event}
use Rattle.nt_event.specs.declared.events.What.{What}
use Rattle.nt_event.specs.declared.events.What.TheVariants.{Call, Expire, Rewait}
use Rattle.nt_event.specs.declared.frames.Again.{Again}
use Rattle.nt_event.specs.declared.inserts.Setting.{Setting}
use Rattle.nt_event.specs.declared.jobs.Stand.{Stand}
use Rattle.nt_event.specs.declared.numbers.ThreadNo.{ThreadNo}
use Rattle.nt_event.specs.declared.numbers.TimerNo.{TimerNo}
use Rattle.nt_event.specs.declared.scripts.Script.{Script}
use Rattle.nt_event.specs.Frames.{time_after}
use Rattle.nt_event.specs.Lists.{table}
use Rattle.nt_event.specs.Numbers.{thread, timer}
use Rattle.nt_event.specs.Regions.{stand_at}
use Rattle.nt_event.specs.Replies.{is_answer}
use Rattle.nt_event.specs.Timers.{SetKey, Timers, blocked_after, delay_after, delay_set, earlier, expired_delay, first_due, is_due_key, is_earlier, keyed}
use Rattle.nt_event.specs.Timers.{renewed, set_keys, setting_in, timer_after, timers_after, timers_at}
use Rattle.nt_event.specs.Waits.{is_of_thread}
use Rattle.nt_event.proofs.Moves.{timers_move}
use Rattle.nt_event.proofs.Tables.{get_or-table, length-table_from, table-same}
use Rattle.nt_event.proofs.Written.{read_map}
use Rattle.nt_timer.specs.Settings.{setting_at}
use Rattle.nt_timer.proofs.Among.{Among, filter_among, set_key_is_set}
use Rattle.std.proofs.lemmas.List.{get_or_past}
use Rattle.nt_alike.specs.Alike.{SameOrder}
use Rattle.nt_alike.specs.Bare.{bare_event, bare_setting, bare_stand, bare_timers, bare_what}
use Rattle.nt_alike.proofs.Frames.{map_table}
use Rattle.nt_alike.proofs.Mapped.{filter_map}

-- ---- keys without numbers

abbrev pub bare_key : SetKey → SetKey
bare_key x = record x { setting = bare_setting x.setting }

-- the keys of a list of settings without numbers are those of the list, without numbers
keyed_map : (key : ℕ → TimerKey) (n : ℕ) (xs : List (Option Setting)) → keyed key n (map (option_map bare_setting) xs) ≡ map bare_key (keyed key n xs)
keyed_map key n [] = refl
keyed_map key n (None ∷ xs) = keyed_map key (suc n) xs
keyed_map key n (Some x ∷ xs) = ap (λ (ks : List SetKey). record { key = key n; setting = bare_setting x } ∷ ks) (keyed_map key (suc n) xs)

-- mapping two lists joined is joining the two mapped
map_append : {A B : Type 0} (f : A → B) (xs ys : List A) → map f (xs ++ ys) ≡ map f xs ++ map f ys
map_append f [] ys = refl
map_append {A} {B} f (x ∷ xs) ys = ap (λ (zs : List B). f x ∷ zs) (map_append f xs ys)

-- the set keys of timers without numbers are those of the timers, without numbers
keys_map : (x : Timers) → set_keys (bare_timers x) ≡ map bare_key (set_keys x)
keys_map x =
    rw (keyed_map (λ n. OfTimer (timer n)) 0 x.timers, keyed_map (λ n. OfDelay (thread n)) 0 x.delays)
    (sym (map_append bare_key (keyed (λ n. OfTimer (timer n)) 0 x.timers) (keyed (λ n. OfDelay (thread n)) 0 x.delays)))

-- the due keys of timers without numbers are those of the timers, without numbers
due_map : (x : Timers) → filter (is_due_key x.now) (set_keys (bare_timers x)) ≡ map bare_key (filter (is_due_key x.now) (set_keys x))
due_map x = ap (filter (is_due_key x.now)) (keys_map x) ∙ filter_map bare_key (is_due_key x.now) (is_due_key x.now) (λ k. refl) (set_keys x)

-- ---- the first due key

-- that each key of a list is set in the timers as the list says
AllSet : Timers → List SetKey → Type 0
AllSet x [] = Unit {0}
AllSet x (k ∷ ks) = (setting_at k.key x ≡ Some k.setting) × AllSet x ks

-- a list whose keys are each set as it says is set throughout
all_set : (x : Timers) (ks : List SetKey) → ((k : SetKey) → Among k ks → setting_at k.key x ≡ Some k.setting) → AllSet x ks
unfolding AllSet
all_set x [] h = tt
all_set x (k ∷ ks) h = (h k (inl refl), all_set x ks (λ z a. h z (inr a)))

module _ (x y : Timers) (order : SameOrder x y) where
  earlier_same : (a b c d : SetKey) → setting_at a.key x ≡ Some a.setting → setting_at b.key x ≡ Some b.setting →
      setting_at c.key y ≡ Some c.setting → setting_at d.key y ≡ Some d.setting → bare_key a ≡ bare_key c → bare_key b ≡ bare_key d →
      is_earlier a b ≡ is_earlier c d
  earlier_same a b c d sa sb sc sd h k =
      let ka : a.key ≡ c.key = ap (λ (z : SetKey). z.key) h in
      let kb : b.key ≡ d.key = ap (λ (z : SetKey). z.key) k in
      let da : a.setting.due ≡ c.setting.due = ap (λ (z : SetKey). z.setting.due) h in
      let db : b.setting.due ≡ d.setting.due = ap (λ (z : SetKey). z.setting.due) k in
      let n =
      order a.key b.key a.setting b.setting c.setting d.setting sa sb
      (ap (λ (z : TimerKey). setting_at z y) ka ∙ sc) (ap (λ (z : TimerKey). setting_at z y) kb ∙ sd) in
      rw (da, db) (go (c.setting.due == d.setting.due) refl (λ e. n (da ∙ eqb-true c.setting.due d.setting.due e ∙ sym db)))
    where
      go : (t : Bool) → (c.setting.due == d.setting.due) ≡ t →
          ((c.setting.due == d.setting.due) ≡ true → nat_lt a.setting.number b.setting.number ≡ nat_lt c.setting.number d.setting.number) →
          (nat_lt c.setting.due d.setting.due || (t && nat_lt a.setting.number b.setting.number))
          ≡ (nat_lt c.setting.due d.setting.due || (t && nat_lt c.setting.number d.setting.number))
      go true e n = ap (λ (u : Bool). nat_lt c.setting.due d.setting.due || u) (n e)
      go false e n = refl

  fold_same : (a c : SetKey) (xs ys : List SetKey) → setting_at a.key x ≡ Some a.setting → setting_at c.key y ≡ Some c.setting → AllSet x xs → AllSet y ys →
      bare_key a ≡ bare_key c → map bare_key xs ≡ map bare_key ys → bare_key (fold earlier a xs) ≡ bare_key (fold earlier c ys)
  unfolding AllSet
  fold_same a c [] [] sa sc sx sy h k = h
  fold_same a c [] (d ∷ ys) sa sc sx sy h k = cc
  fold_same a c (b ∷ xs) [] sa sc sx sy h k = cc
  fold_same a c (b ∷ xs) (d ∷ ys) sa sc sx sy h k =
      let kb : bare_key b ≡ bare_key d = cc in
      let ks : map bare_key xs ≡ map bare_key ys = cc in
      let t = earlier_same b a d c sx.0 sa sy.0 sc kb h in
      go (is_earlier b a) (is_earlier d c) t (fold_same a c xs ys sa sc sx.1 sy.1 h ks) (fold_same b d xs ys sx.0 sy.0 sx.1 sy.1 kb ks)
    where
      go : (t u : Bool) → t ≡ u → bare_key (fold earlier a xs) ≡ bare_key (fold earlier c ys) → bare_key (fold earlier b xs) ≡ bare_key (fold earlier d ys) →
          bare_key (fold earlier (if t then b else a) xs) ≡ bare_key (fold earlier (if u then d else c) ys)
      go true true e p q = q
      go false false e p q = p
      go true false e p q = cc
      go false true e p q = cc

  reduce_same : (xs ys : List SetKey) → AllSet x xs → AllSet y ys → map bare_key xs ≡ map bare_key ys →
      option_map bare_key (reduce earlier xs) ≡ option_map bare_key (reduce earlier ys)
  unfolding AllSet
  reduce_same [] [] sx sy k = refl
  reduce_same [] (d ∷ ys) sx sy k = cc
  reduce_same (b ∷ xs) [] sx sy k = cc
  reduce_same (b ∷ xs) (d ∷ ys) sx sy k =
      let kb : bare_key b ≡ bare_key d = cc in
      let ks : map bare_key xs ≡ map bare_key ys = cc in
      ap Some (fold_same b d xs ys sx.0 sy.0 sx.1 sy.1 kb ks)

  -- the same key is due first
  pub first_same : bare_timers x ≡ bare_timers y → option_map bare_key (first_due x) ≡ option_map bare_key (first_due y)
  first_same h =
      let now : x.now ≡ y.now = ap (λ (z : Timers). z.now) h in
      let due : map bare_key (filter (is_due_key x.now) (set_keys x)) ≡ map bare_key (filter (is_due_key y.now) (set_keys y)) =
      sym (due_map x) ∙ ap (λ (z : Timers). filter (is_due_key z.now) (set_keys z)) h ∙ due_map y in
      reduce_same (filter (is_due_key x.now) (set_keys x)) (filter (is_due_key y.now) (set_keys y))
      (all_set x (filter (is_due_key x.now) (set_keys x)) (λ k a. set_key_is_set x k (filter_among (is_due_key x.now) k (set_keys x) a).0))
      (all_set y (filter (is_due_key y.now) (set_keys y)) (λ k a. set_key_is_set y k (filter_among (is_due_key y.now) k (set_keys y) a).0)) due

-- ---- what an event leaves, but for numbers

-- renewing a setting and leaving out its number may be done in either order
renewed_bare : (n now : ℕ) (o : Option Setting) → option_map bare_setting (renewed n now o) ≡ renewed 0 now (option_map bare_setting o)
renewed_bare n now None = refl
renewed_bare n now (Some x) = go (x.period == 0)
  where
    go : (b : Bool) → option_map bare_setting (if b then None else Some (record { due = now + x.period; number = n; period = x.period }))
        ≡ (if b then None else Some (record { due = now + x.period; number = 0; period = x.period }))
    go true = refl
    go false = refl

-- a choice between two settings, without numbers, is the choice between the two without numbers
either : (b : Bool) (x y v w : Option Setting) → option_map bare_setting x ≡ v → option_map bare_setting y ≡ w →
    option_map bare_setting (if b then x else y) ≡ (if b then v else w)
either true x y v w h k = h
either false x y v w h k = k

-- what an event leaves of a timer's setting, but for its number, depends on no number
timer_bare : (t : TimerNo) (n now : ℕ) (w : What) (old : Option Setting) →
    option_map bare_setting (timer_after t n now w old) ≡ timer_after t 0 now (bare_what w) (option_map bare_setting old)
timer_bare t n now (Call f (SetTimer x due period) y) old = either (is_answer y && (x.0 == t.0)) _ _ _ _ refl refl
timer_bare t n now (Call f (CancelTimer x) Yes) old = either (x.0 == t.0) _ _ _ _ refl refl
timer_bare t n now (Expire (OfTimer x) from) old = either (x.0 == t.0) _ _ _ _ (renewed_bare n now old) refl
timer_bare t n now (Call f c y) old = refl
timer_bare t n now w old = refl

-- setting a delay if a due time is given and leaving out its number may be done in either order
delay_set_bare : (n : ℕ) (due : Option ℕ) (old : Option Setting) →
    option_map bare_setting (delay_set n due old) ≡ delay_set 0 due (option_map bare_setting old)
delay_set_bare n None old = refl
delay_set_bare n (Some due) old = refl

-- what a block leaves of a delay's setting, but for its number, depends on no number
blocked_bare : (n now : ℕ) (again : Option Again) (w : What) (old : Option Setting) →
    option_map bare_setting (blocked_after n now again w old) ≡ blocked_after 0 now again (bare_what w) (option_map bare_setting old)
blocked_bare n now again (Call f (Delay m a units) Blocked) old = refl
blocked_bare n now again (Rewait f Blocked) old = delay_set_bare n (option_and_then (λ w. w.due) again) old
blocked_bare n now again (Call f c y) old = refl
blocked_bare n now again w old = refl

-- what an expiry leaves of a delay's setting, but for its number, depends on no number
expired_bare : (t : ThreadNo) (w : What) (old : Option Setting) →
    option_map bare_setting (expired_delay t w old) ≡ expired_delay t (bare_what w) (option_map bare_setting old)
expired_bare t (Expire (OfDelay u) from) old = either (u.0 == t.0) _ _ _ _ refl refl
expired_bare t w old = refl

-- what an event leaves of a delay's setting, but for its number, depends on no number
delay_bare : (s : Script) (t : ThreadNo) (n now : ℕ) (again : Option Again) (e : Event) (old : Option Setting) →
    option_map bare_setting (delay_after s t n now again e old) ≡ delay_after s t 0 now again (bare_event e) (option_map bare_setting old)
delay_bare s t n now again e old =
    expired_bare t e.what (if is_of_thread s t e then blocked_after n now again e.what old else old)
    ∙ ap (expired_delay t (bare_what e.what)) (either (is_of_thread s t e) _ _ _ _ (blocked_bare n now again e.what old) refl)

-- the time after an event does not depend on the event's numbers
time_bare : (w : What) (now : ℕ) → time_after w now ≡ time_after (bare_what w) now
time_bare (Call f c y) now = refl
time_bare w now = refl

-- a setting read from a list of settings without numbers is that setting without its number
pub setting_read : (xs : List (Option Setting)) (i : ℕ) → setting_in (map (option_map bare_setting) xs) i ≡ option_map bare_setting (setting_in xs i)
setting_read xs i = read_map (option_map bare_setting) xs i None

-- what an event leaves of the timers, but for numbers, depends on no number
pub timers_bare : (s : Script) (n : ℕ) (st : Stand) (e : Event) (x : Timers) →
    bare_timers (timers_after s n st e x) ≡ timers_after s 0 (bare_stand st) (bare_event e) (bare_timers x)
timers_bare s n st e x =
    let a = time_bare e.what x.now in
    let b = map_table (option_map bare_setting) (length s.timers) (λ t. timer_after (timer t) n x.now e.what (setting_in x.timers t))
    ∙ table-same (length s.timers) (λ t. option_map bare_setting (timer_after (timer t) n x.now e.what (setting_in x.timers t)))
    (λ t. timer_after (timer t) 0 x.now (bare_what e.what) (setting_in (map (option_map bare_setting) x.timers) t))
    (λ t h. timer_bare (timer t) n x.now e.what (setting_in x.timers t)
    ∙ ap (timer_after (timer t) 0 x.now (bare_what e.what)) (sym (setting_read x.timers t))) in
    let c = map_table (option_map bare_setting) (length s.threads) (λ t. delay_after s (thread t) n x.now st.again e (setting_in x.delays t))
    ∙ table-same (length s.threads) (λ t. option_map bare_setting (delay_after s (thread t) n x.now st.again e (setting_in x.delays t)))
    (λ t. delay_after s (thread t) 0 x.now st.again (bare_event e) (setting_in (map (option_map bare_setting) x.delays) t))
    (λ t h. delay_bare s (thread t) n x.now st.again e (setting_in x.delays t)
    ∙ ap (delay_after s (thread t) 0 x.now st.again (bare_event e)) (sym (setting_read x.delays t))) in
    same a b c
  where
    same : {m k : ℕ} {a b c d : List (Option Setting)} → m ≡ k → a ≡ b → c ≡ d →
        ◌≡◌ {A = Timers} (record { now = m; timers = a; delays = c }) (record { now = k; timers = b; delays = d })
    same h k l = cc

-- ---- which keys an event sets anew

abbrev pub sets_timer : TimerNo → What → Bool
sets_timer t (Call f (SetTimer x due period) y) = is_answer y && (x.0 == t.0)
sets_timer t (Expire (OfTimer x) from) = x.0 == t.0
sets_timer t w = false

abbrev pub blocks_delay : Option Again → What → Bool
blocks_delay again (Call f (Delay m a units) Blocked) = true
blocks_delay again (Rewait f Blocked) = is_some (option_and_then (λ w. w.due) again)
blocks_delay again w = false

abbrev pub sets : Script → Stand → Event → TimerKey → Bool
sets s st e (OfTimer t) = sets_timer t e.what
sets s st e (OfDelay t) = is_of_thread s t e && blocks_delay st.again e.what

-- what is set anew has the event's number; what is not is what was set
Anew : Bool → ℕ → Option Setting → Option Setting → Type 0
Anew true n old new = (z : Setting) → new ≡ Some z → z.number ≡ n
Anew false n old new = (z : Setting) → new ≡ Some z → old ≡ Some z

-- a setting that is left as it was is not set anew
kept : (n : ℕ) (old : Option Setting) → Anew false n old old
unfolding Anew
kept n old = λ z h. h

-- where an event leaves no setting, it counts as set anew and as kept
dropped : (b : Bool) (n : ℕ) (old : Option Setting) → Anew b n old None
unfolding Anew
dropped true n old = λ z h. cc
dropped false n old = λ z h. cc

-- a setting made with a number has that number
number_of : (n due period : ℕ) (z : Setting) → ◌≡◌ {A = Option Setting} (Some (record { due = due; number = n; period = period })) (Some z) → z.number ≡ n
number_of n due period z h = let e : record { due = due; number = n; period = period } ≡ z = cc in sym (ap (λ (x : Setting). x.number) e)

-- a choice between a new setting and the old one is anew where it is the new one
set_or : (b : Bool) (n : ℕ) (new old : Option Setting) → Anew true n old new → Anew b n old (if b then new else old)
unfolding Anew
set_or true n new old h = h
set_or false n new old h = λ z e. e

-- a setting that is renewed is set anew, under the event's number
renewed_anew : (n now : ℕ) (old : Option Setting) → Anew true n old (renewed n now old)
unfolding Anew
renewed_anew n now None = λ z e. cc
renewed_anew n now (Some x) = go (x.period == 0)
  where
    go : (b : Bool) (z : Setting) → (if b then None else Some (record { due = now + x.period; number = n; period = x.period })) ≡ Some z → z.number ≡ n
    go true z e = cc
    go false z e = number_of n (now + x.period) x.period z e

-- a setting that is dropped or left is not set anew
none_or : (b : Bool) (n : ℕ) (old : Option Setting) → Anew false n old (if b then None else old)
unfolding Anew
none_or true n old = λ z e. cc
none_or false n old = λ z e. e

-- a timer's setting is set anew just where the event sets the timer
timer_anew : (t : TimerNo) (n now : ℕ) (w : What) (old : Option Setting) → Anew (sets_timer t w) n old (timer_after t n now w old)
unfolding Anew
timer_anew t n now (Call f (SetTimer x due period) y) old =
    set_or (is_answer y && (x.0 == t.0)) n (Some (record { due = now + due; number = n; period = period })) old (λ z e. number_of n (now + due) period z e)
timer_anew t n now (Call f (CancelTimer x) Yes) old = none_or (x.0 == t.0) n old
timer_anew t n now (Expire (OfTimer x) from) old = set_or (x.0 == t.0) n (renewed n now old) old (renewed_anew n now old)
timer_anew t n now (Call f c y) old = λ z e. e
timer_anew t n now w old = λ z e. e

-- a delay's setting is anew just where a due time is given
set_due : (n : ℕ) (due : Option ℕ) (old : Option Setting) → Anew (is_some due) n old (delay_set n due old)
unfolding Anew
set_due n None old = λ z e. e
set_due n (Some due) old = λ z e. number_of n due 0 z e

-- a delay's setting is anew just where the event blocks in a delay
blocked_anew : (n now : ℕ) (again : Option Again) (w : What) (old : Option Setting) → Anew (blocks_delay again w) n old (blocked_after n now again w old)
unfolding Anew
blocked_anew n now again (Call f (Delay m a units) Blocked) old = λ z e. number_of n (now + units) 0 z e
blocked_anew n now again (Rewait f Blocked) old = set_due n (option_and_then (λ w. w.due) again) old
blocked_anew n now again (Call f c y) old = λ z e. e
blocked_anew n now again w old = λ z e. e

-- a thread's delay is set anew just where the event is of the thread and blocks in a delay
delay_anew : (s : Script) (t : ThreadNo) (n now : ℕ) (again : Option Again) (e : Event) (old : Option Setting) →
    Anew (is_of_thread s t e && blocks_delay again e.what) n old (delay_after s t n now again e old)
delay_anew s t n now again e old =
    expired (is_of_thread s t e && blocks_delay again e.what) e.what (if is_of_thread s t e then blocked_after n now again e.what old else old)
    (by (is_of_thread s t e))
  where
    by : (b : Bool) → Anew (b && blocks_delay again e.what) n old (if b then blocked_after n now again e.what old else old)
    by true = blocked_anew n now again e.what old
    by false = kept n old

    expired : (b : Bool) (w : What) (x : Option Setting) → Anew b n old x → Anew b n old (expired_delay t w x)
    expired b (Expire (OfDelay u) from) x h = cut (u.0 == t.0)
      where
        cut : (c : Bool) → Anew b n old (if c then None else x)
        cut true = dropped b n old
        cut false = h
    expired b w x h = h

-- a key's setting is anew just where the event sets that key
key_anew : (s : Script) (n : ℕ) (st : Stand) (e : Event) (x : Timers) (a : TimerKey) →
    Anew (sets s st e a) n (setting_at a x) (setting_at a (timers_after s n st e x))
key_anew s n st e x (OfTimer t) = at (nat_lt t.0 (length s.timers)) refl
  where
    at : (b : Bool) → nat_lt t.0 (length s.timers) ≡ b → Anew (sets_timer t e.what) n (setting_in x.timers t.0)
        (get_or (table (length s.timers) (λ t. timer_after (timer t) n x.now e.what (setting_in x.timers t))) t.0 None)
    at true h =
        let after : ℕ → Option Setting = λ t. timer_after (timer t) n x.now e.what (setting_in x.timers t) in
        rw (get_or-table {A = Option Setting} (length s.timers) t.0 after None (ltb-true t.0 (length s.timers) h))
        (timer_anew t n x.now e.what (setting_in x.timers t.0))
    at false h =
        let l = length-table_from {A = Option Setting} 0 (length s.timers) (λ t. timer_after (timer t) n x.now e.what (setting_in x.timers t)) in
        let g = ltb-false t.0 (length s.timers) h in
        rw (get_or_past (table (length s.timers) (λ t. timer_after (timer t) n x.now e.what (setting_in x.timers t))) t.0 None (omega (arith, l, g)))
        (dropped (sets_timer t e.what) n (setting_in x.timers t.0))
key_anew s n st e x (OfDelay t) = at (nat_lt t.0 (length s.threads)) refl
  where
    at : (b : Bool) → nat_lt t.0 (length s.threads) ≡ b → Anew (is_of_thread s t e && blocks_delay st.again e.what) n (setting_in x.delays t.0)
        (get_or (table (length s.threads) (λ t. delay_after s (thread t) n x.now st.again e (setting_in x.delays t))) t.0 None)
    at true h =
        let after : ℕ → Option Setting = λ t. delay_after s (thread t) n x.now st.again e (setting_in x.delays t) in
        rw (get_or-table {A = Option Setting} (length s.threads) t.0 after None (ltb-true t.0 (length s.threads) h))
        (delay_anew s t n x.now st.again e (setting_in x.delays t.0))
    at false h =
        let l = length-table_from {A = Option Setting} 0 (length s.threads) (λ t. delay_after s (thread t) n x.now st.again e (setting_in x.delays t)) in
        let g = ltb-false t.0 (length s.threads) h in
        rw (get_or_past (table (length s.threads) (λ t. delay_after s (thread t) n x.now st.again e (setting_in x.delays t))) t.0 None (omega (arith, l, g)))
        (dropped (is_of_thread s t e && blocks_delay st.again e.what) n (setting_in x.delays t.0))

-- each key that is set was set by an earlier event
pub AllBelow : ℕ → Timers → Type 0
AllBelow n x = (a : TimerKey) (z : Setting) → setting_at a x ≡ Some z → z.number < n

-- timers all set at earlier events are so after one more event, counting it
below_after : (s : Script) (n : ℕ) (st : Stand) (e : Event) (x : Timers) → AllBelow n x → AllBelow (suc n) (timers_after s n st e x)
unfolding AllBelow Anew
below_after s n st e x h a z q = go (sets s st e a) (key_anew s n st e x a)
  where
    go : (b : Bool) → Anew b n (setting_at a x) (setting_at a (timers_after s n st e x)) → z.number < suc n
    go true k = let m = k z q in omega (arith, m)
    go false k = let m = h a z (k z q) in omega (arith, m)

-- a table that sets nothing has no setting
none_set : (n i : ℕ) (z : Setting) → get_or {A = Option Setting} (table n (λ t. None)) i None ≡ Some z → ⊥
none_set n i z h = at (nat_lt i n) refl
  where
    at : (b : Bool) → nat_lt i n ≡ b → ⊥
    at true l = let e = get_or-table {A = Option Setting} n i (λ t. None) None (ltb-true i n l) in none (sym e ∙ h)
      where
        none : ◌≡◌ {A = Option Setting} None (Some z) → ⊥
        none q = cc
    at false l =
        let k = length-table_from {A = Option Setting} 0 n (λ t. None) in
        let g = ltb-false i n l in
        none (sym (get_or_past (table {A = Option Setting} n (λ t. None)) i None (omega (arith, k, g))) ∙ h)
      where
        none : ◌≡◌ {A = Option Setting} None (Some z) → ⊥
        none q = cc

-- each timer key that is set after a history was set by one of its events
pub all_below : (s : Script) (past : List Event) → AllBelow (length past) (timers_at s past)
unfolding AllBelow
all_below s [] (OfTimer t) z h = absurd (none_set (length s.timers) t.0 z h)
all_below s [] (OfDelay t) z h = absurd (none_set (length s.threads) t.0 z h)
all_below s (e ∷ past) a z h =
    below_after s (length past) (stand_at s e.cpu past) e (timers_at s past) (all_below s past) a z (ap (setting_at a) (sym (timers_move s e past)) ∙ h)

-- two events that are alike leave the same order
pub order_after : (s : Script) (n m : ℕ) (st su : Stand) (e f : Event) (x y : Timers) → AllBelow n x → AllBelow m y →
    ((a : TimerKey) → sets s st e a ≡ sets s su f a) →
    SameOrder x y → SameOrder (timers_after s n st e x) (timers_after s m su f y)
unfolding AllBelow Anew
order_after s n m st su e f x y bx by same order a b i j k l ai bj ak bl dues =
    go (sets s st e a) (sets s st e b) (key_anew s n st e x a) (key_anew s n st e x b)
    (subst (λ (c : Bool). Anew c m (setting_at a y) (setting_at a (timers_after s m su f y))) (sym (same a)) (key_anew s m su f y a))
    (subst (λ (c : Bool). Anew c m (setting_at b y) (setting_at b (timers_after s m su f y))) (sym (same b)) (key_anew s m su f y b))
  where
    go : (ta tb : Bool) → Anew ta n (setting_at a x) (setting_at a (timers_after s n st e x)) →
        Anew tb n (setting_at b x) (setting_at b (timers_after s n st e x)) →
        Anew ta m (setting_at a y) (setting_at a (timers_after s m su f y)) → Anew tb m (setting_at b y) (setting_at b (timers_after s m su f y)) →
        nat_lt i.number j.number ≡ nat_lt k.number l.number
    go true true p q r t =
        let a1 = p i ai in let a2 = q j bj in let a3 = r k ak in let a4 = t l bl in
        le-ltb i.number j.number (omega (arith, a1, a2)) ∙ sym (le-ltb k.number l.number (omega (arith, a3, a4)))
    go true false p q r t =
        let a1 = p i ai in let a2 = bx b j (q j bj) in let a3 = r k ak in let a4 = by b l (t l bl) in
        le-ltb i.number j.number (omega (arith, a1, a2)) ∙ sym (le-ltb k.number l.number (omega (arith, a3, a4)))
    go false true p q r t =
        let a1 = bx a i (p i ai) in let a2 = q j bj in let a3 = by a k (r k ak) in let a4 = t l bl in
        lt-ltb i.number j.number (omega (arith, a1, a2)) ∙ sym (lt-ltb k.number l.number (omega (arith, a3, a4)))
    go false false p q r t = order a b i j k l (p i ai) (q j bj) (r k ak) (t l bl) dues
