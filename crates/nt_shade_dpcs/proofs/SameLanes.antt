-- Shades that say the same are of histories that have the same in their lanes.
use Rattle.std.proofs.Common.{ap, arith, cond, subst, sym, ◌∙◌}
use Rattle.std.proofs.lemmas.Bool.{eq-eqb, le-ltb, lt-ltb, ltb-true}
use Rattle.std.specs.Prelude.{Bool, List, None, Option, Some, [], false, find, length, map, nat_lt, not, option_map, refl, true, ℕ, ◌&&◌, ◌<◌, ◌==◌}
use Rattle.std.specs.Prelude.{◌||◌, ◌∷◌, ◌≡◌}
use Rattle.nt_event.specs.declared.commands.TimerKey.{TimerKey}
use Rattle.nt_event.specs.declared.commands.TimerKey.TheVariants.{Delay as OfDelay, Timer as OfTimer}
use Rattle.nt_event.specs.declared.events.Event.{Event}
use Rattle.nt_event.specs.declared.inserts.Setting.{Setting}
use Rattle.nt_event.specs.declared.scripts.Script.{Script}
use Rattle.nt_event.specs.Fitting.{key_fits}
use Rattle.nt_event.specs.Lists.{table}
use Rattle.nt_event.specs.Numbers.{thread, timer}
use Rattle.nt_event.specs.Timers.{SetKey, delay_setting, is_earlier, timer_setting, timers_at}
use Rattle.nt_event.proofs.Tables.{get_or-table, table-same}
use Rattle.nt_timer.specs.Settings.{setting_at}
use Rattle.nt_alike.specs.Bare.{bare_setting, bare_timers}
use Rattle.nt_alike.specs.Lists.{Each}
use Rattle.nt_alike.proofs.Frames.{map_table}
use Rattle.nt_shade_dpcs.specs.declared.timers.ShadeKey.{ShadeKey}
use Rattle.nt_shade_dpcs.specs.declared.shade.ShadeDpcs.{ShadeDpcs}
use Rattle.nt_shade_dpcs.specs.Keys.{same_key}
use Rattle.nt_shade_dpcs.specs.Same.{HaveTheSame, SayTheSame}
use Rattle.nt_shade_dpcs.specs.Shade.{IsShade}
use Rattle.nt_shade_dpcs.specs.Timers.{AreInOrder, AreSetKeys, setting_among, shade_key}
use Rattle.nt_shade_dpcs.proofs.KeyLists.{shade_found}

-- ---- what a list of keys has of one key, without the number

-- the setting of a key of a shade, without its number
bare_of : ShadeKey → Setting
bare_of x = record { due = x.due; number = 0; period = x.period }

-- what is found of a key without the number is the same in the list of set keys and in the shade
bare_found : (o : Option SetKey) → option_map bare_setting (option_map (λ (z : SetKey). z.setting) o) ≡ option_map bare_of (option_map shade_key o)
unfolding bare_of
bare_found None = refl
bare_found (Some z) = refl

-- the setting of a timer key without the number is what the shade has of that key
bare_among : (k : TimerKey) (xs : List SetKey) →
    option_map bare_setting (setting_among k xs) ≡ option_map bare_of (find (λ (z : ShadeKey). same_key k z.key) (map shade_key xs))
bare_among k xs = bare_found (find (λ (z : SetKey). same_key k z.key) xs) ∙ ap (option_map bare_of) (sym (shade_found k xs))

-- ---- the order in which keys due at one time were set

-- the first key stands before the second
stands_before : TimerKey → TimerKey → List ShadeKey → Bool
stands_before a b [] = false
stands_before a b (x ∷ xs) =
    cond (same_key a x.key) (not (same_key b x.key)) (cond (same_key b x.key) false (stands_before a b xs))

-- what expires later than this setting
IsLater : Setting → Setting → Type 0
IsLater x z = (nat_lt x.due z.due || ((x.due == z.due) && nat_lt x.number z.number)) ≡ true

-- a key after a given one in a list in order has a later setting
found_later : (x : SetKey) (b : TimerKey) (xs : List SetKey) (j : Setting) → Each (λ y. is_earlier x y ≡ true) xs → setting_among b xs ≡ Some j →
    IsLater x.setting j
unfolding IsLater
found_later x b [] j h e = absurd cc
found_later x b (y ∷ ys) j h e = go (same_key b y.key) (found_later x b ys j h.1) e
  where
    go : (t : Bool) → (setting_among b ys ≡ Some j → IsLater x.setting j) →
        option_map (λ (z : SetKey). z.setting) (cond t (Some y) (find (λ (z : SetKey). same_key b z.key) ys)) ≡ Some j → IsLater x.setting j
    go true rest e =
        let q : y.setting ≡ j = cc in
        ap (λ (z : Setting). nat_lt x.setting.due z.due || ((x.setting.due == z.due) && nat_lt x.setting.number z.number)) (sym q) ∙ h.0
    go false rest e = rest e

-- of two keys due at the same time the later one has the greater number
numbers_rise : (x z : Setting) → IsLater x z → x.due ≡ z.due → nat_lt x.number z.number ≡ true
unfolding IsLater
numbers_rise x z h e = rw (e, le-ltb z.due z.due (omega arith), eq-eqb z.due z.due refl) at h

-- of two keys due at the same time the numbers are in the order in which they stand in the shade
number_order : (a b : TimerKey) (xs : List SetKey) (i j : Setting) → AreInOrder xs → setting_among a xs ≡ Some i → setting_among b xs ≡ Some j →
    i.due ≡ j.due → nat_lt i.number j.number ≡ stands_before a b (map shade_key xs)
unfolding stands_before
number_order a b [] i j o ai bj d = absurd cc
number_order a b (x ∷ xs) i j o ai bj d = go (same_key a x.key) (same_key b x.key) ai bj (λ p q. number_order a b xs i j o.1 p q d)
  where
    go : (p q : Bool) →
        option_map (λ (z : SetKey). z.setting) (cond p (Some x) (find (λ (z : SetKey). same_key a z.key) xs)) ≡ Some i →
        option_map (λ (z : SetKey). z.setting) (cond q (Some x) (find (λ (z : SetKey). same_key b z.key) xs)) ≡ Some j →
        (setting_among a xs ≡ Some i → setting_among b xs ≡ Some j → nat_lt i.number j.number ≡ stands_before a b (map shade_key xs)) →
        nat_lt i.number j.number ≡ cond p (not q) (cond q false (stands_before a b (map shade_key xs)))
    go true true ai bj rest =
        let e : x.setting ≡ i = cc in
        let f : x.setting ≡ j = cc in
        let n : i.number ≡ j.number = ap (λ (z : Setting). z.number) (sym e ∙ f) in
        le-ltb i.number j.number (omega (arith, n))
    go true false ai bj rest =
        let e : x.setting ≡ i = cc in
        ap (λ (z : Setting). nat_lt z.number j.number) (sym e)
        ∙ numbers_rise x.setting j (found_later x b xs j o.0 bj) (ap (λ (z : Setting). z.due) e ∙ d)
    go false true ai bj rest =
        let f : x.setting ≡ j = cc in
        let l = numbers_rise x.setting i (found_later x a xs i o.0 ai) (ap (λ (z : Setting). z.due) f ∙ sym d) in
        let m = ltb-true x.setting.number i.number l in
        let n : x.setting.number ≡ j.number = ap (λ (z : Setting). z.number) f in
        le-ltb i.number j.number (omega (arith, m, n))
    go false false ai bj rest = rest ai bj

-- ---- timers

module _ (s : Script) (h k : List Event) (keys : List ShadeKey) (a : AreSetKeys s (length h) (timers_at s h) keys)
    (b : AreSetKeys s (length k) (timers_at s k) keys) where
  same_keys : map shade_key a.numbered ≡ map shade_key b.numbered
  same_keys = sym a.same ∙ b.same

  same_bare : (t : TimerKey) → key_fits s t ≡ true →
      option_map bare_setting (setting_at t (timers_at s h)) ≡ option_map bare_setting (setting_at t (timers_at s k))
  same_bare t f =
      ap (option_map bare_setting) (sym (a.set t f)) ∙ bare_among t a.numbered
      ∙ ap (λ (xs : List ShadeKey). option_map bare_of (find (λ (z : ShadeKey). same_key t z.key) xs)) same_keys
      ∙ sym (bare_among t b.numbered) ∙ ap (option_map bare_setting) (b.set t f)

  same_tables : (n : ℕ) (key : ℕ → TimerKey) (f g : ℕ → Option Setting) → ((i : ℕ) → i < n → key_fits s (key i) ≡ true) →
      ((i : ℕ) → i < n → setting_at (key i) (timers_at s h) ≡ f i) → ((i : ℕ) → i < n → setting_at (key i) (timers_at s k) ≡ g i) →
      map (option_map bare_setting) (table n f) ≡ map (option_map bare_setting) (table n g)
  same_tables n key f g fits hs ks =
      map_table (option_map bare_setting) n f
      ∙ table-same n (λ i. option_map bare_setting (f i)) (λ i. option_map bare_setting (g i))
      (λ i l. ap (option_map bare_setting) (sym (hs i l)) ∙ same_bare (key i) (fits i l) ∙ ap (option_map bare_setting) (ks i l))
      ∙ sym (map_table (option_map bare_setting) n g)

  same_timers : (timers_at s h).now ≡ (timers_at s k).now → bare_timers (timers_at s h) ≡ bare_timers (timers_at s k)
  same_timers now = λ i. record { now = now i; timers = t i; delays = d i }
    where
      t : map (option_map bare_setting) (timers_at s h).timers ≡ map (option_map bare_setting) (timers_at s k).timers
      t = same_tables (length s.timers) (λ i. OfTimer (timer i)) (λ i. timer_setting (timer i) h) (λ i. timer_setting (timer i) k)
          (λ i l. lt-ltb i (length s.timers) l)
          (λ i l. get_or-table (length s.timers) i (λ i. timer_setting (timer i) h) None l)
          (λ i l. get_or-table (length s.timers) i (λ i. timer_setting (timer i) k) None l)

      d : map (option_map bare_setting) (timers_at s h).delays ≡ map (option_map bare_setting) (timers_at s k).delays
      d = same_tables (length s.threads) (λ i. OfDelay (thread i)) (λ i. delay_setting s (thread i) h) (λ i. delay_setting s (thread i) k)
          (λ i l. lt-ltb i (length s.threads) l)
          (λ i l. get_or-table (length s.threads) i (λ i. delay_setting s (thread i) h) None l)
          (λ i l. get_or-table (length s.threads) i (λ i. delay_setting s (thread i) k) None l)

  same_order : (t u : TimerKey) (i j m n : Setting) → key_fits s t ≡ true → key_fits s u ≡ true → setting_at t (timers_at s h) ≡ Some i →
      setting_at u (timers_at s h) ≡ Some j → setting_at t (timers_at s k) ≡ Some m → setting_at u (timers_at s k) ≡ Some n → i.due ≡ j.due →
      nat_lt i.number j.number ≡ nat_lt m.number n.number
  same_order t u i j m n ft fu ti uj tm un due =
      number_order t u a.numbered i j a.order (a.set t ft ∙ ti) (a.set u fu ∙ uj) due
      ∙ ap (stands_before t u) same_keys
      ∙ sym (number_order t u b.numbered m n b.order (b.set t ft ∙ tm) (b.set u fu ∙ un) (there due))
    where
      same_due : (v : TimerKey) (x y : Setting) → key_fits s v ≡ true → setting_at v (timers_at s h) ≡ Some x → setting_at v (timers_at s k) ≡ Some y →
          x.due ≡ y.due
      same_due v x y f vx vy =
          let e : option_map bare_setting (Some x) ≡ option_map bare_setting (Some y) =
          ap (option_map bare_setting) (sym vx) ∙ same_bare v f ∙ ap (option_map bare_setting) vy in
          let g : bare_setting x ≡ bare_setting y = cc in
          ap (λ (z : Setting). z.due) g

      there : i.due ≡ j.due → m.due ≡ n.due
      there e = sym (same_due t i m ft ti tm) ∙ e ∙ same_due u j n fu uj un

-- where two shades say the same, their histories have the same in these lanes but for numbers
pub same_lanes : (s : Script) (h k : List Event) (x y : ShadeDpcs) → IsShade s h x → IsShade s k y → SayTheSame x y → HaveTheSame s h k
same_lanes s h k x y is are same =
    let b = subst (λ (keys : List ShadeKey). AreSetKeys s (length k) (timers_at s k) keys) (sym same.keys) are.timers.keys in
    record {
      objects = sym is.objects ∙ same.objects ∙ are.objects;
      queues = sym is.queues ∙ same.queues ∙ are.queues;
      locks = sym is.locks ∙ same.locks ∙ are.locks;
      timers = same_timers s h k x.timers.keys.items is.timers.keys b (sym is.timers.time ∙ same.now ∙ are.timers.time);
      order = same_order s h k x.timers.keys.items is.timers.keys b;
    }
