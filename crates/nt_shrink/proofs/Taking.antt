-- Turns that are taken over processors and a floor, one after another.
use Rattle.std.proofs.Common.{ap, arith, subst, sym, ◌∙◌}
use Rattle.std.proofs.lemmas.List.{length-reverse, reverse-append}
use Rattle.std.specs.Prelude.{Err, IsTrue, List, Ok, Result, [], length, reverse, ℕ, ◌*◌, ◌++◌, ◌∷◌, ◌≡◌, ◌≤◌}
use Rattle.nt_event.specs.declared.events.Event.{Event}
use Rattle.nt_event.specs.declared.events.ScheduleKind.{ScheduleKind}
use Rattle.nt_event.specs.declared.events.ScheduleKind.TheVariants.{Unfinished}
use Rattle.nt_event.specs.declared.events.Turn.{Turn}
use Rattle.nt_event.specs.declared.limits.TheConstants.{EVENTS, TURNS}
use Rattle.nt_event.specs.declared.scripts.Script.{Script}
use Rattle.nt_event.specs.Script.{fits}
use Rattle.nt_event.specs.Step.{IsRun, step}
use Rattle.nt_floor.specs.Views.{View}
use Rattle.nt_plain.specs.States.{IsFresh, PlainState, view_of}
use Rattle.nt_plain.proofs.Openings.{fresh_opening}
use Rattle.nt_cpus.specs.Following.{AreAfter, cpus_of}
use Rattle.nt_cpus.specs.Refusals.{kind_of}
use Rattle.nt_cpus.specs.States.{CpusState}
use Rattle.nt_cpus.specs.declared.refusals.CoreRefusal.{CoreRefusal}
use Rattle.nt_cpus.specs.declared.refusals.CoreRefusal.TheVariants.{BadChoice, BadLook, NoSuchCpu, NothingToDo}
use Rattle.nt_cpus.proofs.Starting.{start_after}
use Rattle.nt_shrink.specs.declared.refusals.TraceRefusal.TheVariants.{Bad}
use Rattle.nt_shrink.specs.Refusals.{IsBad}
use Rattle.nt_shrink.specs.Traces.{Traced, goes_on, traced, traced_from}

-- before the first turn
pub start_taking : (s : Script) (turns : ℕ) (c : CpusState) (f : PlainState) → IsTrue (fits s) → turns ≤ TURNS → s.cpus * turns ≤ EVENTS →
    c ≡ record { script = s; limit = turns; cpus = cpus_of s turns [] } → IsFresh s turns f → AreAfter [] c f.script (view_of f)
start_taking s turns c f fit each all h k =
    start_after s turns c f.script (view_of f) fit each all h k.script (fresh_opening s turns f k)

-- these events were made, and these turns of the list are left
pub record IsTaking (s : Script) (limit : ℕ) (list : List Turn) (c : CpusState) (floor : Script) (v : View) (es : List Event)
    (rest : List Turn) : Type 0 where
  pub after : AreAfter (reverse es) c floor v
  pub script : c.script ≡ s
  pub limit_is : c.limit ≡ limit
  pub rest_is : traced s limit list ≡ traced_from s limit (reverse es) rest

-- the reverse of events with one more at the end has that one first
last_first : (es new : List Event) (e : Event) → new ≡ es ++ e ∷ [] → reverse new ≡ e ∷ reverse es
last_first es new e h = ap reverse h ∙ reverse-append es (e ∷ [])

-- what comes of the next turn
pub step_there : (s : Script) (limit : ℕ) (c : CpusState) (t : Turn) (past : List Event) (r : Result Event ScheduleKind) → c.script ≡ s → c.limit ≡ limit →
    step c.script c.limit t past ≡ r → step s limit t past ≡ r
step_there s limit c t past r p q h =
    subst (λ (x : Script). step x limit t past ≡ r) p (subst (λ (n : ℕ). step c.script n t past ≡ r) q h)

-- a trace goes on from the events so far by the step of the next turn
gone_on : (s : Script) (limit : ℕ) (list walk rest : List Turn) (t : Turn) (es : List Event) (r : Result Event ScheduleKind) →
    traced s limit list ≡ traced_from s limit (reverse es) walk → walk ≡ t ∷ rest → step s limit t (reverse es) ≡ r →
    traced s limit list ≡ goes_on (reverse es) r (λ e. traced_from s limit (e ∷ reverse es) rest)
gone_on s limit list walk rest t es r h w k =
    h
    ∙ (ap (traced_from s limit (reverse es)) w
    ∙ ap (λ (x : Result Event ScheduleKind). goes_on (reverse es) x (λ e. traced_from s limit (e ∷ reverse es) rest)) k)

-- the turn was taken
pub taking_next : (s : Script) (limit : ℕ) (list walk rest : List Turn) (t : Turn) (c d : CpusState) (floor other : Script) (v w : View)
    (es new : List Event) (e : Event) → IsTaking s limit list c floor v es walk → walk ≡ t ∷ rest →
    ((past : List Event) → AreAfter past c floor v → (step c.script c.limit t past ≡ Ok e) × AreAfter (e ∷ past) d other w) →
    (d.script ≡ c.script) × (d.limit ≡ c.limit) → new ≡ es ++ e ∷ [] → IsTaking s limit list d other w new rest
taking_next s limit list walk rest t c d floor other v w es new e h k made kept n =
    let m = made (reverse es) h.after in
    let last = last_first es new e n in
    record {
      after = subst (λ (past : List Event). AreAfter past d other w) (sym last) m.1;
      script = kept.0 ∙ h.script;
      limit_is = kept.1 ∙ h.limit_is;
      rest_is = gone_on s limit list walk rest t es (Ok e) h.rest_is k (step_there s limit c t (reverse es) (Ok e) h.script h.limit_is m.0)
          ∙ ap (λ (past : List Event). traced_from s limit past rest) (sym last);
    }

-- no refusal of a step is of the kind unfinished
never_unfinished : (r : CoreRefusal) → kind_of r ≡ Unfinished → ⊥
never_unfinished NoSuchCpu h = absurd cc
never_unfinished NothingToDo h = absurd cc
never_unfinished BadLook h = absurd cc
never_unfinished BadChoice h = absurd cc

abbrev refused_so : ℕ → ScheduleKind → Traced
refused_so at kind = Err (Bad at kind)

-- the turn was refused
pub taking_refused : (s : Script) (limit : ℕ) (list walk rest : List Turn) (t : Turn) (c : CpusState) (floor : Script) (v : View)
    (es : List Event) (r : CoreRefusal) (at : ℕ) (kind : ScheduleKind) → IsTaking s limit list c floor v es walk → walk ≡ t ∷ rest →
    ((past : List Event) → AreAfter past c floor v → step c.script c.limit t past ≡ Err (kind_of r)) → at ≡ length es → kind ≡ kind_of r →
    IsBad s limit list at kind
taking_refused s limit list walk rest t c floor v es r at kind h k refused a n =
    let m = refused (reverse es) h.after in
    let bad = gone_on s limit list walk rest t es (Err (kind_of r)) h.rest_is k
    (step_there s limit c t (reverse es) (Err (kind_of r)) h.script h.limit_is m) in
    let same : length (reverse es) ≡ at = length-reverse es ∙ sym a in (
      bad ∙ (ap (λ (i : ℕ). refused_so i (kind_of r)) same ∙ ap (refused_so at) (sym n)),
      λ u. never_unfinished r (sym n ∙ u),
    )

-- there are few events
pub taking_few : (s : Script) (limit : ℕ) (list walk : List Turn) (c : CpusState) (floor : Script) (v : View) (es : List Event) →
    IsTaking s limit list c floor v es walk → length es ≤ EVENTS
taking_few s limit list walk c floor v es h =
    let d = h.after.drawable in
    let a = h.after.small.all in
    let l = length-reverse es in
    omega (arith, d, a, l)

-- all turns were taken
pub taking_done : (s : Script) (limit : ℕ) (list walk : List Turn) (c : CpusState) (floor : Script) (v : View) (es : List Event) →
    IsTaking s limit list c floor v es walk → walk ≡ [] → (traced s limit list ≡ Ok (reverse es)) × IsRun s limit (reverse es)
taking_done s limit list walk c floor v es h w = (
  h.rest_is ∙ ap (traced_from s limit (reverse es)) w,
  subst (λ (x : Script). IsRun x limit (reverse es)) h.script
      (subst (λ (n : ℕ). IsRun c.script n (reverse es)) h.limit_is h.after.run),
)
