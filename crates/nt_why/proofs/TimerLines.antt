-- What is told of a timer.
use Rattle.std.proofs.Common.{ap, arith, sym, ◌∙◌}
use Rattle.std.specs.List.{list_any}
use Rattle.std.specs.Option.{option_map_or, option_or}
use Rattle.std.specs.Prelude.{Bool, Err, List, None, Ok, Option, Result, Some, [], false, if◌then◌else◌, is_none, is_some}
use Rattle.std.specs.Prelude.{not, refl, suc, true, zero, ℕ, ◌++◌, ◌+◌, ◌<◌, ◌∷◌, ◌≡◌}
use Rattle.nt_event.specs.declared.events.Event.{Event}
use Rattle.nt_event.specs.declared.events.ScheduleKind.{ScheduleKind}
use Rattle.nt_event.specs.declared.events.Turn.TheVariants.{Next as NextTurn}
use Rattle.nt_event.specs.declared.events.What.{What}
use Rattle.nt_event.specs.declared.inserts.Setting.{Setting}
use Rattle.nt_event.specs.declared.numbers.CpuNo.{CpuNo}
use Rattle.nt_event.specs.declared.numbers.TimerNo.{TimerNo}
use Rattle.nt_event.specs.Lists.{head_of}
use Rattle.nt_event.specs.Numbers.{cpu}
use Rattle.nt_event.specs.Step.{step}
use Rattle.nt_event.specs.Timers.{timer_setting}
use Rattle.nt_why.specs.declared.fates.Fate.{Fate}
use Rattle.nt_why.specs.declared.question.Course.{Course}
use Rattle.nt_why.specs.declared.reasons.Reason.{Reason}
use Rattle.nt_why.specs.declared.reasons.Reason.TheVariants.{NotSet, Then}
use Rattle.nt_why.specs.declared.sought.Sought.TheVariants as sought
use Rattle.nt_why.specs.declared.things.Thing.TheVariants as thing
use Rattle.nt_why.specs.Courses.{AreWholeOf, IsTrueOf, past_on}
use Rattle.nt_why.specs.Lined.{IsWhat, next_reason}
use Rattle.nt_why.specs.Says.{holds_back}
use Rattle.nt_why.specs.Sought.{expires, last_in}
use Rattle.nt_why.specs.Timers.{first_cpu, first_expiring, gives_expiry, gives_expiry_what, spoken}
use Rattle.nt_why.proofs.InterruptLines.{head_kept}
use Rattle.nt_why.proofs.Told.{any_same, next_true}

-- the first processor among one more
pub first_cpu_more : (f : CpuNo → Bool) (n : ℕ) → first_cpu f (n + 1) ≡ option_or (first_cpu f n) (if f (cpu n) then Some (cpu n) else None)
first_cpu_more f n = let on : n + 1 ≡ suc n = omega arith in ap (first_cpu f) on

-- the first processor of which something is so is one of them
pub first_cpu_within : (f : CpuNo → Bool) (n : ℕ) (p : CpuNo) → first_cpu f n ≡ Some p → p.0 < n
first_cpu_within f zero p h = absurd cc
first_cpu_within f (suc n) p h = go (first_cpu f n) refl (f (cpu n)) h (λ i. first_cpu_within f n p i)
  where
    go : (o : Option CpuNo) → first_cpu f n ≡ o → (b : Bool) → option_or o (if b then Some (cpu n) else None) ≡ Some p → (first_cpu f n ≡ Some p → p.0 < n) →
        p.0 < suc n
    go (Some q) i b j below = let at = below (i ∙ j) in omega (arith, at)
    go None i true j below = let same : n ≡ p.0 = ap (λ (o : Option CpuNo). option_map_or (λ x. x.0) o 0) j in omega (arith, same)
    go None i false j below = absurd cc

-- what comes next expires the timer exactly where the event of the turn does
pub expiry_same : (t : TimerNo) (r : Result Event ScheduleKind) (w : Result What ScheduleKind) → IsWhat r w → gives_expiry_what t w ≡ gives_expiry t r
expiry_same t (Ok e) (Ok w) h = ap (expires t) (sym h)
expiry_same t (Err k) (Err j) h = refl
expiry_same t (Ok e) (Err j) h = absurd h
expiry_same t (Err k) (Ok w) h = absurd h

-- the line of the next event is true
pub next_of_timer : (c : Course) (t : TimerNo) (p : CpuNo) (w : Result What ScheduleKind) → spoken c.script.now c.turns (past_on c) t ≡ Some p →
    IsWhat (step c.script.now c.turns (NextTurn p) (past_on c)) w → IsTrueOf c (thing.Timer t) (next_reason p w)
next_of_timer c t p w s h =
    next_true (IsTrueOf c (thing.Timer t)) p (step c.script.now c.turns (NextTurn p) (past_on c)) w (λ e i. (s, (e, (i, refl)))) (λ k i. (s, i)) h

-- what is told of a timer that isn't set is whole
pub unset_whole : (c : Course) (t : TimerNo) (rs : List Reason) → timer_setting t (past_on c) ≡ None →
    head_of rs ≡ Some (NotSet t (last_in (sought.Timer t) (past_on c))) → AreWholeOf c (thing.Timer t) rs
unset_whole c t rs h k = record {
  none = λ x. k;
  held = λ x y. absurd (let z = sym h ∙ y in cc);
}

-- what is told of one that is set is whole
pub set_whole : (c : Course) (t : TimerNo) (x : Setting) (rs : List Reason) → timer_setting t (past_on c) ≡ Some x →
    list_any holds_back rs ≡ is_none (first_expiring c.script.now c.turns (past_on c) t) → AreWholeOf c (thing.Timer t) rs
set_whole c t x rs h k = record {
  none = λ y. absurd (let z = sym h ∙ y in cc);
  held = λ y i. k;
}

-- it stays whole with what became of the timer behind it
pub expired_whole : (c : Course) (t : TimerNo) (f : Fate) (old new : List Reason) → new ≡ old ++ Then f ∷ [] → AreWholeOf c (thing.Timer t) old →
    AreWholeOf c (thing.Timer t) new
expired_whole c t f old new e w = record {
  none = λ x. ap head_of e ∙ head_kept old _ (Then f) (w.none x);
  held = λ x y. ap (list_any holds_back) e ∙ any_same old (Then f) refl ∙ w.held x y;
}

-- where one of two is spoken of and neither is there
pub neither : {A : Type 0} (a b : Option A) → option_or a b ≡ None → (a ≡ None) × (b ≡ None)
neither None None h = (refl, refl)
neither None (Some y) h = absurd cc
neither (Some x) b h = absurd cc

-- what isn't there is none
pub not_some : {A : Type 0} (o : Option A) → not (is_some o) ≡ is_none o
not_some None = refl
not_some (Some x) = refl
