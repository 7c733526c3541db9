-- Machines that take turns, one after another.
use Rattle.std.proofs.Common.{ap, subst, sym, ◌∙◌}
use Rattle.std.proofs.lemmas.List.{drop_more, take-append-drop, take_all, take_more}
use Rattle.std.specs.Prelude.{Bool, Err, List, Ok, Result, [], drop, false, get_or, length, refl, take, true, ℕ, ◌++◌, ◌+◌, ◌<◌, ◌||◌, ◌∷◌, ◌≡◌, ◌≤◌}
use Rattle.nt_event.specs.declared.events.Event.{Event}
use Rattle.nt_event.specs.declared.events.ScheduleKind.{ScheduleKind}
use Rattle.nt_event.specs.declared.events.Turn.{Turn}
use Rattle.nt_event.specs.declared.scripts.Script.{Script}
use Rattle.nt_event.specs.Step.{step}
use Rattle.nt_plain.specs.States.{view_of}
use Rattle.nt_cpus.specs.Following.{AreAfter}
use Rattle.nt_cpus.specs.Refusals.{kind_of}
use Rattle.nt_cpus.specs.declared.refusals.CoreRefusal.{CoreRefusal}
use Rattle.nt_shrink.specs.declared.goals.Goal.{Goal}
use Rattle.nt_shrink.specs.declared.machine.Machine.{Machine}
use Rattle.nt_shrink.specs.declared.refusals.TraceRefusal.{TraceRefusal}
use Rattle.nt_shrink.specs.declared.refusals.TraceRefusal.TheVariants.{Bad}
use Rattle.nt_shrink.specs.Goals.{begins}
use Rattle.nt_shrink.specs.Machines.{AreTaken, IsSound, IsTaken, Refuses, RefusesOne, Took}
use Rattle.nt_shrink.specs.Traces.{Traced, goes_on, is_delivered, traced_from}
use Rattle.nt_shrink.proofs.Taking.{step_there}

-- ---- traces that go on

-- where the first turns are taken, the trace goes on with the others after them
pub trace_on : (s : Script) (limit : ℕ) (past : List Event) (xs ys : List Turn) (end : List Event) → traced_from s limit past xs ≡ Ok end →
    traced_from s limit past (xs ++ ys) ≡ traced_from s limit end ys
trace_on s limit past [] ys end h =
    let e : past ≡ end = cc in
    ap (λ (x : List Event). traced_from s limit x ys) e
trace_on s limit past (t ∷ xs) ys end h =
    go (step s limit t past) refl h (λ e k. trace_on s limit (e ∷ past) xs ys end k)
  where
    go : (r : Result Event ScheduleKind) → step s limit t past ≡ r → goes_on past r (λ e. traced_from s limit (e ∷ past) xs) ≡ Ok end →
        ((e : Event) → traced_from s limit (e ∷ past) xs ≡ Ok end → traced_from s limit (e ∷ past) (xs ++ ys) ≡ traced_from s limit end ys) →
        goes_on past (step s limit t past) (λ e. traced_from s limit (e ∷ past) (xs ++ ys)) ≡ traced_from s limit end ys
    go (Ok e) i h ih = ap (λ (x : Result Event ScheduleKind). goes_on past x (λ e. traced_from s limit (e ∷ past) (xs ++ ys))) i ∙ ih e h
    go (Err k) i h ih = absurd cc

-- where one of the first turns is refused, so is the whole
pub trace_stops : (s : Script) (limit : ℕ) (past : List Event) (xs ys : List Turn) (why : TraceRefusal) → traced_from s limit past xs ≡ Err why →
    traced_from s limit past (xs ++ ys) ≡ Err why
trace_stops s limit past [] ys why h = absurd cc
trace_stops s limit past (t ∷ xs) ys why h =
    go (step s limit t past) refl h (λ e k. trace_stops s limit (e ∷ past) xs ys why k)
  where
    go : (r : Result Event ScheduleKind) → step s limit t past ≡ r → goes_on past r (λ e. traced_from s limit (e ∷ past) xs) ≡ Err why →
        ((e : Event) → traced_from s limit (e ∷ past) xs ≡ Err why → traced_from s limit (e ∷ past) (xs ++ ys) ≡ Err why) →
        goes_on past (step s limit t past) (λ e. traced_from s limit (e ∷ past) (xs ++ ys)) ≡ Err why
    go (Ok e) i h ih = ap (λ (x : Result Event ScheduleKind). goes_on past x (λ e. traced_from s limit (e ∷ past) (xs ++ ys))) i ∙ ih e h
    go (Err k) i h ih = ap (λ (x : Result Event ScheduleKind). goes_on past x (λ e. traced_from s limit (e ∷ past) (xs ++ ys))) i ∙ h

-- ---- one turn

-- a disjunction does not depend on the order of its parts
or_swap : (a b : Bool) → (a || b) ≡ (b || a)
or_swap true true = refl
or_swap true false = refl
or_swap false true = refl
or_swap false false = refl

-- the processors made the turn's event
pub taken_one : (s : Script) (limit : ℕ) (g : Goal) (t : Turn) (e : Event) (past : List Event) (m n : Machine) → Took s limit g past m →
    ((p : List Event) → AreAfter p m.processors m.floor.script (view_of m.floor) →
    (step m.processors.script m.processors.limit t p ≡ Ok e) × AreAfter (e ∷ p) n.processors n.floor.script (view_of n.floor)) →
    (n.processors.script ≡ m.processors.script) × (n.processors.limit ≡ m.processors.limit) → n.is_met ≡ (m.is_met || begins g e.what) →
    IsTaken s limit g t past n
taken_one s limit g t e past m n h made kept met =
    let one = made past h.after in
    record {
      event = e;
      made = step_there s limit m.processors t past (Ok e) h.script h.limit_is one.0;
      took = record {
        script = kept.0 ∙ h.script;
        limit_is = kept.1 ∙ h.limit_is;
        after = one.1;
        met = met ∙ (or_swap m.is_met (begins g e.what) ∙ ap (λ (b : Bool). begins g e.what || b) h.met);
      };
    }

-- the processors refused it
pub refused_one : (s : Script) (limit : ℕ) (g : Goal) (t : Turn) (r : CoreRefusal) (past : List Event) (m : Machine) → Took s limit g past m →
    ((p : List Event) → AreAfter p m.processors m.floor.script (view_of m.floor) →
    step m.processors.script m.processors.limit t p ≡ Err (kind_of r)) → RefusesOne s limit t past
refused_one s limit g t r past m h refused = record {
  kind = kind_of r;
  refused = step_there s limit m.processors t past (Err (kind_of r)) h.script h.limit_is (refused past h.after);
}

-- ---- several turns

-- a machine that is as a run leaves it has taken no turns after that run
pub taken_none : (s : Script) (limit : ℕ) (g : Goal) (past : List Event) (m : Machine) → Took s limit g past m → AreTaken s limit g [] past m
taken_none s limit g past m h = record { end = past; traced_is = refl; took = h }

-- a machine that has taken some turns and then one more has taken the longer list
pub taken_more : (s : Script) (limit : ℕ) (g : Goal) (xs : List Turn) (t : Turn) (past : List Event) (m n : Machine) (h : AreTaken s limit g xs past m) →
    IsTaken s limit g t h.end n → AreTaken s limit g (xs ++ t ∷ []) past n
taken_more s limit g xs t past m n h k = record {
  end = k.event ∷ h.end;
  traced_is = trace_on s limit past xs (t ∷ []) h.end h.traced_is
      ∙ ap (λ (x : Result Event ScheduleKind). goes_on h.end x (λ e. traced_from s limit (e ∷ h.end) [])) k.made;
  took = k.took;
}

-- if a turn is refused after those taken, the list with that turn and any more after it is refused
pub refused_more : (s : Script) (limit : ℕ) (g : Goal) (xs ys : List Turn) (t : Turn) (past : List Event) (m : Machine) (h : AreTaken s limit g xs past m) →
    RefusesOne s limit t h.end → Refuses s limit (xs ++ t ∷ ys) past
refused_more s limit g xs ys t past m h k = record {
  why = Bad (length h.end) k.kind;
  refused = trace_on s limit past xs (t ∷ ys) h.end h.traced_is
      ∙ ap (λ (x : Result Event ScheduleKind). goes_on h.end x (λ e. traced_from s limit (e ∷ h.end) ys)) k.refused;
}

-- what took turns of a script by a limit is sound
pub sound : (s : Script) (limit : ℕ) (g : Goal) (past : List Event) (m : Machine) → Took s limit g past m → IsSound g m
sound s limit g past m h = (past, record { script = refl; limit_is = refl; after = h.after; met = h.met })

-- ---- a list of which the first turns were taken

-- a list is what is before a place, the entry there, and what is after it
split_at : (xs : List Turn) (i : ℕ) (d : Turn) → i < length xs → xs ≡ take i xs ++ get_or xs i d ∷ drop (i + 1) xs
split_at xs i d h = sym (take-append-drop i xs) ∙ ap (λ (ys : List Turn). take i xs ++ ys) (drop_more xs i d h)

-- the next turn was taken
pub taken_next : (s : Script) (limit : ℕ) (g : Goal) (xs : List Turn) (i : ℕ) (d t : Turn) (past : List Event) (m n : Machine) → i < length xs →
    t ≡ get_or xs i d → (h : AreTaken s limit g (take i xs) past m) → IsTaken s limit g t h.end n → AreTaken s limit g (take (i + 1) xs) past n
taken_next s limit g xs i d t past m n l e h k =
    subst (λ (ys : List Turn). AreTaken s limit g ys past n) (sym (take_more xs i d l ∙ ap (λ (u : Turn). take i xs ++ u ∷ []) (sym e)))
    (taken_more s limit g (take i xs) t past m n h k)

-- the next turn was refused
pub refused_next : (s : Script) (limit : ℕ) (g : Goal) (xs : List Turn) (i : ℕ) (d t : Turn) (past : List Event) (m : Machine) → i < length xs →
    t ≡ get_or xs i d → (h : AreTaken s limit g (take i xs) past m) → RefusesOne s limit t h.end → Refuses s limit xs past
refused_next s limit g xs i d t past m l e h k =
    subst (λ (ys : List Turn). Refuses s limit ys past) (sym (split_at xs i d l ∙ ap (λ (u : Turn). take i xs ++ u ∷ drop (i + 1) xs) (sym e)))
    (refused_more s limit g (take i xs) (drop (i + 1) xs) t past m h k)

-- all turns were taken
pub taken_all : (s : Script) (limit : ℕ) (g : Goal) (xs : List Turn) (i : ℕ) (past : List Event) (m : Machine) → length xs ≤ i →
    AreTaken s limit g (take i xs) past m → AreTaken s limit g xs past m
taken_all s limit g xs i past m l h = subst (λ (ys : List Turn). AreTaken s limit g ys past m) (take_all i xs l) h

-- whether they deliver the request is what the machine says
pub delivered_all : (s : Script) (limit : ℕ) (g : Goal) (xs : List Turn) (past : List Event) (m : Machine) → AreTaken s limit g xs past m →
    m.is_met ≡ is_delivered g (traced_from s limit past xs)
delivered_all s limit g xs past m h = h.took.met ∙ sym (ap (λ (x : Traced). is_delivered g x) h.traced_is)

-- a list of turns of which one is refused does not deliver the request
pub undelivered : (s : Script) (limit : ℕ) (g : Goal) (xs : List Turn) (past : List Event) → Refuses s limit xs past →
    false ≡ is_delivered g (traced_from s limit past xs)
undelivered s limit g xs past h = sym (ap (λ (x : Traced). is_delivered g x) h.refused)
