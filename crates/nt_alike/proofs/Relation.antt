-- Each history is like itself, and being alike is symmetric and transitive.
use Rattle.std.proofs.Common.{ap, sym, ◌∙◌}
use Rattle.std.specs.Prelude.{List, None, Option, Some, nat_lt, option_map, refl, ◌≡◌}
use Rattle.nt_event.specs.declared.commands.TimerKey.{TimerKey}
use Rattle.nt_event.specs.declared.commands.TimerKey.TheVariants.{Delay as OfDelay, Timer as OfTimer}
use Rattle.nt_event.specs.declared.events.Event.{Event}
use Rattle.nt_event.specs.declared.inserts.Setting.{Setting}
use Rattle.nt_event.specs.declared.scripts.Script.{Script}
use Rattle.nt_event.specs.Lanes.{Lanes, lanes_at}
use Rattle.nt_event.specs.Timers.{Timers, setting_in}
use Rattle.nt_timer.specs.Settings.{setting_at}
use Rattle.nt_alike.specs.Alike.{Alike, SameOrder}
use Rattle.nt_alike.specs.Bare.{bare_setting, bare_timers}
use Rattle.nt_alike.proofs.Timers.{setting_read}

-- two values that are equal as optional values are equal
inside : {A : Type 0} (a b : A) → ◌≡◌ {A = Option A} (Some a) (Some b) → a ≡ b
inside a b q = cc

-- each history is like itself
pub alike_self : (s : Script) (h : List Event) → Alike s h h
alike_self s h =
    record {
      lanes = refl;
      order = λ a b i j k l ai bj ak bl dues. numbers i j k l (inside i k (sym ai ∙ ak)) (inside j l (sym bj ∙ bl));
      own = λ p. refl;
      asks = λ p c. refl;
      told = λ x p c. refl;
    }
  where
    numbers : (i j k l : Setting) → i ≡ k → j ≡ l → nat_lt i.number j.number ≡ nat_lt k.number l.number
    numbers i j k l p q = cc

-- what is set in the one is set in the other
set_there : (x y : Timers) → bare_timers x ≡ bare_timers y → (a : TimerKey) (i : Setting) → setting_at a x ≡ Some i →
    (m : Setting) × (setting_at a y ≡ Some m) × (i.due ≡ m.due)
set_there x y e a i h =
    some (setting_at a y) (sym (bare a y) ∙ ap (λ (z : Timers). at a z) (sym e) ∙ bare a x ∙ ap (option_map bare_setting) h)
  where
    at : TimerKey → Timers → Option Setting
    at (OfTimer t) z = setting_in z.timers t.0
    at (OfDelay t) z = setting_in z.delays t.0

    bare : (a : TimerKey) (x : Timers) → at a (bare_timers x) ≡ option_map bare_setting (setting_at a x)
    bare (OfTimer t) x = setting_read x.timers t.0
    bare (OfDelay t) x = setting_read x.delays t.0

    some : (o : Option Setting) → option_map bare_setting o ≡ Some (bare_setting i) → (m : Setting) × (o ≡ Some m) × (i.due ≡ m.due)
    some None q = cc
    some (Some m) q = (m, refl, sym (ap (λ (z : Setting). z.due) (inside (bare_setting m) (bare_setting i) q)))

-- having keys of equal due time set in the same order is transitive, for timers equal but for numbers
order_trans : (x y z : Timers) → bare_timers x ≡ bare_timers y → SameOrder x y → SameOrder y z → SameOrder x z
order_trans x y z e p q a b i j k l ai bj ak bl dues =
    let m = set_there x y e a i ai in
    let n = set_there x y e b j bj in
    p a b i j m.0 n.0 ai bj m.1 n.1 dues ∙ q a b m.0 n.0 k l m.1 n.1 ak bl (sym m.2 ∙ dues ∙ n.2)

-- if a history is like a second one and that is like a third, the first is like the third
pub alike_trans : (s : Script) (g h k : List Event) → Alike s g h → Alike s h k → Alike s g k
alike_trans s g h k a b =
    record {
      lanes = a.lanes ∙ b.lanes;
      order = order_trans (lanes_at s g).timers (lanes_at s h).timers (lanes_at s k).timers (ap (λ (l : Lanes). l.timers) a.lanes) a.order b.order;
      own = λ p. a.own p ∙ b.own p;
      asks = λ p c. a.asks p c ∙ b.asks p c;
      told = λ x p c. a.told x p c ∙ b.told x p c;
    }

-- having keys of equal due time set in the same order is symmetric, for timers equal but for numbers
order_sym : (x y : Timers) → bare_timers x ≡ bare_timers y → SameOrder x y → SameOrder y x
order_sym x y e p a b k l i j ak bl ai bj dues =
    let m = set_there x y e a i ai in
    let n = set_there x y e b j bj in
    let km : m.0 ≡ k = inside m.0 k (sym m.1 ∙ ak) in
    let ln : n.0 ≡ l = inside n.0 l (sym n.1 ∙ bl) in
    let due : i.due ≡ k.due = m.2 ∙ ap (λ (z : Setting). z.due) km in
    let end : j.due ≡ l.due = n.2 ∙ ap (λ (z : Setting). z.due) ln in
    sym (p a b i j k l ai bj ak bl (due ∙ dues ∙ sym end))

-- if a history is like another, the other is like it
pub alike_sym : (s : Script) (h k : List Event) → Alike s h k → Alike s k h
alike_sym s h k a =
    record {
      lanes = sym a.lanes;
      order = order_sym (lanes_at s h).timers (lanes_at s k).timers (ap (λ (l : Lanes). l.timers) a.lanes) a.order;
      own = λ p. sym (a.own p);
      asks = λ p c. sym (a.asks p c);
      told = λ x p c. sym (a.told x p c);
    }
