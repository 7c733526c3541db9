-- How many keys are due: an expiry leaves one fewer.
use Rattle.std.proofs.Common.{◌≡◌, ◌<◌, ◌≤◌, ◌+◌, ◌++◌, Bool, true, false, List, [], ◌∷◌, Option, Some, None, ℕ, ap, arith, cond, eqb, length, refl, set, suc}
use Rattle.std.proofs.Common.{zero, ◌∙◌}
use Rattle.nt_event.specs.declared.commands.TimerKey.{TimerKey}
use Rattle.nt_event.specs.declared.commands.TimerKey.TheVariants.{Delay as OfDelay, Timer as OfTimer}
use Rattle.nt_event.specs.declared.inserts.Setting.{Setting}
use Rattle.nt_event.specs.Timers.{SetKey, Timers, is_due_key, keyed, renewed, setting_in}
use Rattle.nt_event.specs.Numbers.{thread, timer}
use Rattle.nt_timer.specs.Settings.{due_count, due_entry, expired, setting_at}
use Rattle.nt_timer.proofs.Among.{due_setting, first_due_among}
use Rattle.std.specs.List.{filter}
use Rattle.std.specs.Option.{IfSome, option_map}
use Rattle.std.proofs.lemmas.Bool.{eqb-false, leb-true, le-leb, lt-leb}
use Rattle.std.proofs.lemmas.List.{length-append}
use Rattle.std.proofs.lemmas.List.Elements.{filter-append}

-- how many of these keys are due
abbrev due_in : ℕ → List SetKey → ℕ
due_in now ks = length (filter (is_due_key now) ks)

-- a due key in front is one more due key
due_cons_yes : (now : ℕ) (k : SetKey) (ks : List SetKey) → k.setting.due ≤ now → due_in now (k ∷ ks) ≡ suc (due_in now ks)
due_cons_yes now k ks h = rw (le-leb k.setting.due now h) refl

-- a key that isn't due in front leaves the number of due keys as it was
due_cons_no : (now : ℕ) (k : SetKey) (ks : List SetKey) → now < k.setting.due → due_in now (k ∷ ks) ≡ due_in now ks
due_cons_no now k ks h = rw (lt-leb k.setting.due now h) refl

-- one key more at the front of both lists
fewer_cons : (now : ℕ) (k : SetKey) (xs ys : List SetKey) → due_in now xs < due_in now ys → due_in now (k ∷ xs) < due_in now (k ∷ ys)
fewer_cons now k xs ys h = go (is_due_key now k)
  where
    go : (b : Bool) → length (cond b (k ∷ filter (is_due_key now) xs) (filter (is_due_key now) xs))
        < length (cond b (k ∷ filter (is_due_key now) ys) (filter (is_due_key now) ys))
    go true = omega (arith, h)
    go false = h

-- a table in which a due key was changed to one that isn't due, or isn't set
fewer_set : (now : ℕ) (key : ℕ → TimerKey) (n i : ℕ) (xs : List (Option Setting)) (s : Setting) (new : Option Setting) → setting_in xs i ≡ Some s →
    s.due ≤ now → IfSome new (λ t. now < t.due) → due_in now (keyed key n (set xs i new)) < due_in now (keyed key n xs)
fewer_set now key n i [] s new at due late = absurd (cc)
fewer_set now key n zero (None ∷ xs) s new at due late = absurd (cc)
fewer_set now key n zero (Some x ∷ xs) s None at due late =
    let same : x ≡ s = cc in
    let one = due_cons_yes now (record { key = key n; setting = x }) (keyed key (suc n) xs) (rw same due) in omega (arith, one)
fewer_set now key n zero (Some x ∷ xs) s (Some t) at due late =
    let same : x ≡ s = cc in
    let one = due_cons_yes now (record { key = key n; setting = x }) (keyed key (suc n) xs) (rw same due) in
    let none = due_cons_no now (record { key = key n; setting = t }) (keyed key (suc n) xs) late in omega (arith, one, none)
fewer_set now key n (suc i) (None ∷ xs) s new at due late = fewer_set now key (suc n) i xs s new at due late
fewer_set now key n (suc i) (Some x ∷ xs) s new at due late =
    fewer_cons now (record { key = key n; setting = x }) (keyed key (suc n) (set xs i new)) (keyed key (suc n) xs)
    (fewer_set now key (suc n) i xs s new at due late)

-- of two lists of keys in a row
due_append : (now : ℕ) (xs ys : List SetKey) → due_in now (xs ++ ys) ≡ due_in now xs + due_in now ys
due_append now xs ys =
    ap length (filter-append (is_due_key now) xs ys) ∙ length-append (filter (is_due_key now) xs) (filter (is_due_key now) ys)

-- a timer that is set anew is due later
late_renewed : (n now : ℕ) (o : Option Setting) → IfSome (renewed n now o) (λ t. now < t.due)
late_renewed n now None = tt
late_renewed n now (Some x) = go (eqb x.period 0) refl
  where
    go : (b : Bool) → eqb x.period 0 ≡ b →
        IfSome (cond b None (Some (record { due = now + x.period; number = n; period = x.period }))) (λ (t : Setting). now < t.due)
    go true e = tt
    go false e = let some = eqb-false x.period 0 e in omega (arith, some)

-- the due key expires
fewer_at : (key : TimerKey) (n : ℕ) (x : Timers) (s : Setting) → setting_at key x ≡ Some s → s.due ≤ x.now → due_count (expired key n x) < due_count x
fewer_at (OfTimer t) n x s at due =
    let new : Option Setting = renewed n x.now (setting_in x.timers t.0) in
    let less = fewer_set x.now (λ k. OfTimer (timer k)) 0 t.0 x.timers s new at due (late_renewed n x.now (setting_in x.timers t.0)) in
    let delays : List SetKey = keyed (λ k. OfDelay (thread k)) 0 x.delays in
    let left = due_append x.now (keyed (λ k. OfTimer (timer k)) 0 (set x.timers t.0 new)) delays in
    let before = due_append x.now (keyed (λ k. OfTimer (timer k)) 0 x.timers) delays in omega (arith, less, left, before)
fewer_at (OfDelay t) n x s at due =
    let less = fewer_set x.now (λ k. OfDelay (thread k)) 0 t.0 x.delays s None at due tt in
    let timers : List SetKey = keyed (λ k. OfTimer (timer k)) 0 x.timers in
    let left = due_append x.now timers (keyed (λ k. OfDelay (thread k)) 0 (set x.delays t.0 None)) in
    let before = due_append x.now timers (keyed (λ k. OfDelay (thread k)) 0 x.delays) in omega (arith, less, left, before)

-- the first due key expires, and one fewer is due
pub fewer_due : (key : TimerKey) (n : ℕ) (x : Timers) → option_map (λ (e : TimerKey × ℕ). e.0) (due_entry x) ≡ Some key →
    due_count (expired key n x) < due_count x
fewer_due key n x h =
    let r = due_setting x key h in
    let due : r.0.setting.due ≤ x.now = leb-true r.0.setting.due x.now (first_due_among x r.0 r.1).1 in fewer_at key n x r.0.setting r.3 due
