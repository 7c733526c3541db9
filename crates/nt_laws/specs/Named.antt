-- What the numbers in an event name.
use Rattle.std.specs.List.{list_any}
use Rattle.std.specs.Prelude.{Bool, IfSome, List, None, Option, Some, [], length, nat_le, nat_lt, suc, true, ℕ, ◌&&◌}
use Rattle.std.specs.Prelude.{◌<◌, ◌==◌, ◌||◌, ◌∷◌, ◌≡◌}
use Rattle.nt_event.specs.declared.events.Begun.TheVariants.{Apc, Dpc, Int, Threaded}
use Rattle.nt_event.specs.declared.events.Event.{Event}
use Rattle.nt_event.specs.declared.events.What.{What}
use Rattle.nt_event.specs.declared.events.What.TheVariants.{Begin, Call, Clean, End, Expire, Fire, Flush, Free, Gone}
use Rattle.nt_event.specs.declared.events.What.TheVariants.{Look, Normal, Rest, Rewait, Switch}
use Rattle.nt_event.specs.declared.scripts.Script.{Script}
use Rattle.nt_event.specs.Classes.{is_interrupt_level, is_used_class, dispatch_class}
use Rattle.nt_event.specs.Script.{fits, has_cpu, has_thread, where_given}
use Rattle.nt_event.specs.Step.{IsRun, is_look}
use Rattle.nt_event.specs.Fitting.{what_fits}
use Rattle.nt_event.specs.Families.{in_begin, in_clean, in_look}
use Rattle.nt_event.specs.declared.events.Begun.{Begun}

-- the values of a look, from this class on, rise in used classes alone
abbrev pub values_fit : ℕ → List ℕ → Bool
values_fit c [] = true
values_fit c (v ∷ vs) = ((v == 0) || is_used_class c) && values_fit (suc c) vs

abbrev pub begins_in_class : Begun → Bool
begins_in_class (Int level) = is_interrupt_level level
begins_in_class (Dpc d) = true
begins_in_class (Threaded d) = true
begins_in_class (Apc a) = true

-- a look has a value, and values in used classes alone; an interrupt has the level of one; a Clean serves one of the
-- first three
abbrev pub keeps_to_classes : What → Bool
keeps_to_classes w =
    in_look (λ r. list_any (λ v. nat_lt 0 v) r.value && values_fit 0 r.value)
    (in_begin (λ b from. begins_in_class b) (in_clean (λ c. nat_le c dispatch_class) true w) w) w

-- the number of an earlier event that it tells: the one that began its frame, or the one whose request or setting it
-- uses up
abbrev pub earlier : What → Option ℕ
earlier (Call f c y) = Some f
earlier (Begin b from) = Some from
earlier (Normal f) = Some f
earlier (End f) = Some f
earlier (Expire key from) = Some from
earlier (Rewait f y) = Some f
earlier (Free f k) = Some f
earlier (Flush a from) = Some from
earlier (Look r) = None
earlier (Fire d y) = None
earlier (Clean c) = None
earlier (Switch t status) = None
earlier (Gone t) = None
earlier Rest = None

-- the event of this number names things of the script and an earlier event
pub record EventFits (s : Script) (n : ℕ) (e : Event) : Type 0 where
  pub cpu : has_cpu s e.cpu ≡ true
  pub thread : where_given (has_thread s) e.thread ≡ true
  pub what : what_fits s e.what ≡ true
  pub classes : keeps_to_classes e.what ≡ true
  pub earlier : IfSome (earlier e.what) (λ m. m < n)
  pub look : is_look e.what ≡ true → (e.thread ≡ None) × (e.level ≡ 0)

abbrev pub AllFit : Script → List Event → Type 0
AllFit s [] = Unit {0}
AllFit s (e ∷ past) = EventFits s (length past) e × AllFit s past

-- the events of a run fit
abbrev pub EventsOfARunFit : Type 0
EventsOfARunFit = (s : Script) (limit : ℕ) (past : List Event) → fits s ≡ true → IsRun s limit past → AllFit s past
