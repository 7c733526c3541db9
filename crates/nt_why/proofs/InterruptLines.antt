-- What is told of an interrupt.
use Rattle.std.proofs.Common.{ap, arith, sym, ◌∙◌}
use Rattle.std.proofs.lemmas.Bool.Decides.{nat_tests}
use Rattle.std.specs.List.{list_any}
use Rattle.std.specs.Prelude.{Bool, Err, List, Ok, Result, Some, [], false, nat_lt, not, refl, true, ℕ, ◌++◌, ◌<◌, ◌∷◌, ◌≡◌, ◌≤◌}
use Rattle.std.specs.Prelude.{◌||◌}
use Rattle.nt_event.specs.declared.events.Event.{Event}
use Rattle.nt_event.specs.declared.events.ScheduleKind.{ScheduleKind}
use Rattle.nt_event.specs.declared.events.ScheduleKind.TheVariants.{NoSuchCpu}
use Rattle.nt_event.specs.declared.events.Turn.TheVariants.{Next as NextTurn}
use Rattle.nt_event.specs.declared.events.What.{What}
use Rattle.nt_event.specs.declared.numbers.CpuNo.{CpuNo}
use Rattle.nt_event.specs.declared.scripts.Script.{Script}
use Rattle.nt_event.specs.Jobs.{is_due}
use Rattle.nt_event.specs.Lists.{head_of, value_at}
use Rattle.nt_event.specs.Own.{own_of}
use Rattle.nt_event.specs.Requests.{asked}
use Rattle.nt_event.specs.Step.{step}
use Rattle.nt_why.specs.declared.fates.Fate.{Fate}
use Rattle.nt_why.specs.declared.question.Course.{Course}
use Rattle.nt_why.specs.declared.reasons.Reason.{Reason}
use Rattle.nt_why.specs.declared.reasons.Reason.TheVariants.{NoNext, NotAsked, Then}
use Rattle.nt_why.specs.declared.things.Thing.TheVariants as thing
use Rattle.nt_why.specs.Courses.{AreWholeOf, IsTrueOf, past_on}
use Rattle.nt_why.specs.Interrupts.{begins, gives_begin, gives_begin_what, is_wanted}
use Rattle.nt_why.specs.Lined.{IsWhat, next_reason}
use Rattle.nt_why.specs.Says.{IsNotAsked, holds_back}
use Rattle.nt_why.proofs.Told.{any_same, next_true, no_cpu}

-- the reason at the head stays there
pub head_kept : (rs : List Reason) (r x : Reason) → head_of rs ≡ Some r → head_of (rs ++ x ∷ []) ≡ Some r
head_kept [] r x h = absurd cc
head_kept (y ∷ ys) r x h = h

-- one of a list that was empty stands at its head
pub head_one : (r : Reason) (old new : List Reason) → old ≡ [] → new ≡ old ++ r ∷ [] → head_of new ≡ Some r
head_one r old new e h = ap head_of (h ∙ ap (λ (xs : List Reason). xs ++ r ∷ []) e)

-- the line of the next event is true
pub next_of_interrupt : (c : Course) (p : CpuNo) (l : ℕ) (w : Result What ScheduleKind) → IsWhat (step c.script.now c.turns (NextTurn p) (past_on c)) w →
    IsTrueOf c (thing.Interrupt p l) (next_reason p w)
next_of_interrupt c p l w h =
    next_true (IsTrueOf c (thing.Interrupt p l)) p (step c.script.now c.turns (NextTurn p) (past_on c)) w (λ e i. (refl, (e, (i, refl)))) (λ k i. (refl, i)) h

-- it begins what it tells
pub begins_same : (l : ℕ) (r : Result Event ScheduleKind) (w : Result What ScheduleKind) → IsWhat r w → gives_begin_what l w ≡ gives_begin l r
begins_same l (Ok e) (Ok w) h = ap (begins l) (sym h)
begins_same l (Err k) (Err j) h = refl
begins_same l (Ok e) (Err j) h = absurd h
begins_same l (Err k) (Ok w) h = absurd h

-- where an interrupt isn't wanted, all that was asked for is noticed and served
pub unwanted : (s : Script) (past : List Event) (p : CpuNo) (l : ℕ) → is_wanted s past p l ≡ false → IsNotAsked s past (record { cpu = p; class = l })
unwanted s past p l h = go (nat_lt (value_at (own_of s p past).seen l) (asked s p l past)) refl (is_due (own_of s p past) l) refl h
  where
    go : (b : Bool) → nat_lt (value_at (own_of s p past).seen l) (asked s p l past) ≡ b → (d : Bool) → is_due (own_of s p past) l ≡ d → (b || d) ≡ false →
        IsNotAsked s past (record { cpu = p; class = l })
    go false i false j k = record { asked = (let z = i in grind (arith, nat_tests)); due = j }
    go false i true j k = absurd cc
    go true i d j k = absurd cc

-- what is told of one that isn't wanted is whole
pub unwanted_whole : (c : Course) (p : CpuNo) (l : ℕ) (rs : List Reason) → p.0 < c.script.now.cpus → is_wanted c.script.now (past_on c) p l ≡ false →
    head_of rs ≡ Some (NotAsked (record { cpu = p; class = l })) → AreWholeOf c (thing.Interrupt p l) rs
unwanted_whole c p l rs b h k = record {
  lacks = λ x. absurd (omega (arith, b, x));
  none = λ x y. k;
  held = λ x y. absurd (let z = sym h ∙ y in cc);
}

-- what is told of one that is wanted is whole
pub wanted_whole : (c : Course) (p : CpuNo) (l : ℕ) (rs : List Reason) → p.0 < c.script.now.cpus → is_wanted c.script.now (past_on c) p l ≡ true →
    list_any holds_back rs ≡ not (gives_begin l (step c.script.now c.turns (NextTurn p) (past_on c))) → AreWholeOf c (thing.Interrupt p l) rs
wanted_whole c p l rs b h k = record {
  lacks = λ x. absurd (omega (arith, b, x));
  none = λ x y. absurd (let z = sym h ∙ y in cc);
  held = λ x y. k;
}

-- what is told of a processor that the script lacks is whole
pub lacking_whole : (c : Course) (p : CpuNo) (l : ℕ) (rs : List Reason) → c.script.now.cpus ≤ p.0 → head_of rs ≡ Some (NoNext p NoSuchCpu) →
    AreWholeOf c (thing.Interrupt p l) rs
lacking_whole c p l rs b k = record {
  lacks = λ x. k;
  none = λ x y. absurd (omega (arith, b, x));
  held = λ x y. absurd (omega (arith, b, x));
}

-- it is true
pub lacking_told : (c : Course) (p : CpuNo) (l : ℕ) → c.script.now.cpus ≤ p.0 → IsTrueOf c (thing.Interrupt p l) (NoNext p NoSuchCpu)
lacking_told c p l b = (refl, no_cpu c.script.now c.turns p (past_on c) b)

-- it stays whole with what became of the interrupt behind it
pub then_whole : (c : Course) (p : CpuNo) (l : ℕ) (f : Fate) (old new : List Reason) → new ≡ old ++ Then f ∷ [] → AreWholeOf c (thing.Interrupt p l) old →
    AreWholeOf c (thing.Interrupt p l) new
then_whole c p l f old new e w = record {
  lacks = λ x. ap head_of e ∙ head_kept old _ (Then f) (w.lacks x);
  none = λ x y. ap head_of e ∙ head_kept old _ (Then f) (w.none x y);
  held = λ x y. ap (list_any holds_back) e ∙ any_same old (Then f) refl ∙ w.held x y;
}
