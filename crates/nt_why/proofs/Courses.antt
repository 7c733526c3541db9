-- The machine after the first events of a run, and what is told of a thing then.
use Rattle.std.proofs.Common.{ap, subst, sym, ◌∙◌}
use Rattle.std.proofs.Math.Seq.{take-length}
use Rattle.std.specs.List.{All}
use Rattle.std.specs.Option.{option_or}
use Rattle.std.specs.Prelude.{List, None, Option, Some, if◌then◌else◌, length, nat_le, reverse, ℕ, ◌&&◌, ◌+◌, ◌<◌, ◌≡◌}
use Rattle.std.specs.Prelude.{slice_get}
use Rattle.nt_event.specs.declared.events.Event.{Event}
use Rattle.nt_event.specs.declared.numbers.CpuNo.{CpuNo}
use Rattle.nt_event.specs.declared.scripts.Script.{Script}
use Rattle.nt_plain.specs.States.{PlainState, view_of}
use Rattle.nt_cpu.specs.Runs.{Follows, state_of}
use Rattle.nt_cpu.specs.States.{CpuState}
use Rattle.nt_cpus.specs.Following.{AreAfter}
use Rattle.nt_cpus.specs.States.{CpusState}
use Rattle.nt_why.specs.declared.fates.Fate.{Fate}
use Rattle.nt_why.specs.declared.question.Course.{Course}
use Rattle.nt_why.specs.declared.reasons.Reason.{Reason}
use Rattle.nt_why.specs.declared.sought.Sought.{Sought}
use Rattle.nt_why.specs.declared.things.Thing.{Thing}
use Rattle.nt_why.specs.Courses.{AreWholeOf, IsOn, IsTrueOf, events_on, past_on}
use Rattle.nt_why.specs.Past.{past_at}
use Rattle.nt_why.specs.Sought.{begun_by, first_from, is_sought, last_in}
use Rattle.nt_why.specs.Things.{AreWhole, SaysOf}
use Rattle.nt_why.proofs.Walks.{past_more, past_number}

-- a processor that is taken out of the machine is the one of the course
pub is_on : (c : Course) (p : CpuNo) (n : CpusState) (f : PlainState) (x : CpuState) → AreAfter (past_on c) n f.script (view_of f) →
    n.script ≡ c.script.now → n.limit ≡ c.turns → p.0 < c.script.now.cpus → x ≡ state_of n.script p n.limit (past_on c) → IsOn c p x f
is_on c p n f x a s l b h = record {
  there = b;
  cpu = h ∙ ap (λ (z : Script). state_of z p n.limit (past_on c)) s ∙ ap (λ (m : ℕ). state_of c.script.now p m (past_on c)) l;
  script = a.same ∙ s;
  follows = subst (λ (z : Script). Follows z (past_on c) (view_of f)) s a.follows;
}

-- the first event that is sought, after one event more
pub first_more : (x : Sought) (from : ℕ) (events : List Event) (n : ℕ) (e : Event) → slice_get events n ≡ Some e → first_from x from (past_at (n + 1) events)
    ≡ option_or (first_from x from (past_at n events)) (if nat_le from n && is_sought x e then Some n else None)
first_more x from events n e h =
    ap (first_from x from) (past_more events n e h)
    ∙ ap (λ (k : ℕ). option_or (first_from x from (past_at n events)) (if nat_le from k && is_sought x e then Some k else None)) (past_number events n e h)

-- the last event that is sought, after one event more
pub last_in_more : (x : Sought) (events : List Event) (n : ℕ) (e : Event) → slice_get events n ≡ Some e →
    last_in x (past_at (n + 1) events) ≡ (if is_sought x e then Some n else last_in x (past_at n events))
last_in_more x events n e h =
    ap (last_in x) (past_more events n e h)
    ∙ ap (λ (k : ℕ). if is_sought x e then Some k else last_in x (past_at n events)) (past_number events n e h)

-- what became of the thing in the whole history
pub begun_all : (x : Sought) (from m : ℕ) (events : List Event) (first : Option ℕ) (f : Fate) → m ≡ length events →
    first ≡ first_from x from (past_at m events) → f ≡ begun_by first →
    begun_by (first_from x from (reverse events)) ≡ f
begun_all x from m events first f e h b =
    sym (b ∙ ap begun_by h ∙ ap (λ (z : ℕ). begun_by (first_from x from (past_at z events))) e
    ∙ ap (λ (xs : List Event). begun_by (first_from x from (reverse xs))) (take-length events))

-- what is told of a course is told of its values
pub told_of : (c : Course) (s : Script) (limit : ℕ) (events : List Event) (n : ℕ) (x : Thing) (rs : List Reason) → c.script.now ≡ s → c.turns ≡ limit →
    events_on c ≡ events → c.end ≡ n → All (IsTrueOf c x) rs → All (SaysOf s limit events n x) rs
told_of c s limit events n x rs a b d e h =
    subst (λ (z : Script). All (SaysOf z limit events n x) rs) a
    (subst (λ (z : ℕ). All (SaysOf c.script.now z events n x) rs) b
    (subst (λ (z : List Event). All (SaysOf c.script.now c.turns z n x) rs) d
    (subst (λ (z : ℕ). All (SaysOf c.script.now c.turns (events_on c) z x) rs) e h)))

-- and it is whole for them
pub whole_of : (c : Course) (s : Script) (limit : ℕ) (events : List Event) (n : ℕ) (x : Thing) (rs : List Reason) → c.script.now ≡ s → c.turns ≡ limit →
    events_on c ≡ events → c.end ≡ n → AreWholeOf c x rs → AreWhole s limit events n x rs
whole_of c s limit events n x rs a b d e h =
    subst (λ (z : Script). AreWhole z limit events n x rs) a
    (subst (λ (z : ℕ). AreWhole c.script.now z events n x rs) b
    (subst (λ (z : List Event). AreWhole c.script.now c.turns z n x rs) d
    (subst (λ (z : ℕ). AreWhole c.script.now c.turns (events_on c) z x rs) e h)))
