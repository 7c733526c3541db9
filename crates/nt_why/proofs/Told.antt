-- What is told: lines are true, and some of them holds an object back exactly where it isn't free.
use Rattle.std.proofs.Common.{ap, arith, subst, sym, ◌∙◌}
use Rattle.std.proofs.lemmas.Bool.{ltb-true}
use Rattle.std.proofs.lemmas.List.Elements.{All-nil, All-push}
use Rattle.std.proofs.lemmas.List.Folds.{list_any-append}
use Rattle.std.proofs.Math.Seq.{take-length}
use Rattle.std.specs.List.{All, list_any}
use Rattle.std.specs.Prelude.{Bool, Err, IfSome, IsTrue, List, None, Ok, OnOk, Option, Result, Some, [], false, if◌then◌else◌, length, nat_lt, not, refl}
use Rattle.std.specs.Prelude.{reverse, true, ℕ, ◌&&◌, ◌*◌, ◌++◌, ◌<◌}
use Rattle.std.specs.Prelude.{◌||◌, ◌∷◌, ◌≡◌, ◌≤◌}
use Rattle.nt_event.specs.declared.events.Event.{Event}
use Rattle.nt_event.specs.declared.events.ScheduleKind.{ScheduleKind}
use Rattle.nt_event.specs.declared.events.ScheduleKind.TheVariants.{NoSuchCpu, NothingToDo}
use Rattle.nt_event.specs.declared.events.Turn.TheVariants.{Next as NextTurn}
use Rattle.nt_event.specs.declared.events.What.{What}
use Rattle.nt_event.specs.declared.limits.TheConstants.{EVENTS, TURNS}
use Rattle.nt_event.specs.declared.numbers.CpuNo.{CpuNo}
use Rattle.nt_event.specs.declared.scripts.Script.{Script}
use Rattle.nt_event.specs.Fate.{StillWaits, Thing, fate_of, still_waits}
use Rattle.nt_event.specs.Lanes.{lanes_at}
use Rattle.nt_event.specs.Lists.{head_of}
use Rattle.nt_event.specs.Own.{own_of}
use Rattle.nt_event.specs.Script.{fits}
use Rattle.nt_event.specs.Step.{is_cut, refused_if, step, uncut_step}
use Rattle.nt_plain.specs.States.{IsFresh, PlainState, view_of}
use Rattle.nt_plain.proofs.Openings.{fresh_opening}
use Rattle.nt_cpu.specs.Runs.{Follows, state_of}
use Rattle.nt_cpu.specs.States.{CpuState}
use Rattle.nt_cpus.specs.Following.{AreAfter, cpus_of}
use Rattle.nt_cpus.specs.States.{CpusState}
use Rattle.nt_cpus.proofs.Starting.{start_after}
use Rattle.nt_why.specs.declared.fates.Fate.{Fate}
use Rattle.nt_why.specs.declared.fates.Fate.TheVariants as fate
use Rattle.nt_why.specs.declared.fates.Object.{Object}
use Rattle.nt_why.specs.declared.lines.Lines.{Lines}
use Rattle.nt_why.specs.declared.question.Question.{Question}
use Rattle.nt_why.specs.declared.reasons.Pending.{Pending}
use Rattle.nt_why.specs.declared.reasons.Reason.{Reason}
use Rattle.nt_why.specs.declared.reasons.Reason.TheVariants.{Ended, NeverInserted, Next, NoNext, Then, Waits}
use Rattle.nt_why.specs.Past.{past_at}
use Rattle.nt_why.specs.Fates.{delivers, fate_as, last_insert, thing_of}
use Rattle.nt_why.specs.Lined.{AreTrue, IsWhat, next_reason, put_to, with_all, with_each, with_place, with_processor}
use Rattle.nt_why.specs.Moments.{AreAll, IsAt, IsTold, WaitsOn, events_of, past_of}
use Rattle.nt_why.specs.Says.{AreComplete, Says, gives, gives_what, holds_back, is_free, maker_of, place_of, sort_of}

-- fresh processors and a fresh floor are as after the empty history
pub started : (s : Script) (turns : ℕ) (c : CpusState) (f : PlainState) → IsTrue (fits s) → turns ≤ TURNS → s.cpus * turns ≤ EVENTS →
    c ≡ record { script = s; limit = turns; cpus = cpus_of s turns [] } → IsFresh s turns f → AreAfter [] c f.script (view_of f)
started s turns c f fit each all h k = start_after s turns c f.script (view_of f) fit each all h k.script (fresh_opening s turns f k)

-- a processor that is taken out of the machine is the one of the question
pub is_at : (q : Question) (p : CpuNo) (n : CpusState) (f : PlainState) (c : CpuState) → AreAfter (past_of q) n f.script (view_of f) → n.script ≡ q.script.now →
    n.limit ≡ q.turns → p.0 < q.script.now.cpus → c ≡ state_of n.script p n.limit (past_of q) → IsAt q p c f
is_at q p n f c a s l b h = record {
  there = b;
  cpu = h ∙ ap (λ (x : Script). state_of x p n.limit (past_of q)) s ∙ ap (λ (m : ℕ). state_of q.script.now p m (past_of q)) l;
  script = a.same ∙ s;
  follows = subst (λ (x : Script). Follows x (past_of q) (view_of f)) s a.follows;
}

-- ---- a line that is put to others

-- what holds of the line and of the others holds of all
pub all_put : (P : Reason → Type 0) (free : Bool) (o : Option Reason) (rs : List Reason) → IfSome o P → All P rs → All P (put_to free o rs)
all_put P free None rs h a = a
all_put P free (Some r) rs h a = go (free && holds_back r)
  where
    go : (b : Bool) → All P (if b then rs else (rs ++ r ∷ []))
    go true = a
    go false = All-push P rs r a h

-- some reason holds back among these and one more, or that one does
pub any_more : (rs : List Reason) (r : Reason) (b : Bool) → holds_back r ≡ b → list_any holds_back (rs ++ r ∷ []) ≡ (list_any holds_back rs || b)
any_more rs r b h = list_any-append holds_back rs (r ∷ []) ∙ ap (λ (x : Bool). list_any holds_back rs || (x || false)) h ∙ go (list_any holds_back rs) b
  where
    go : (x y : Bool) → (x || (y || false)) ≡ (x || y)
    go true y = refl
    go false true = refl
    go false false = refl

-- without one more that holds back
pub any_same : (rs : List Reason) (r : Reason) → holds_back r ≡ false → list_any holds_back (rs ++ r ∷ []) ≡ list_any holds_back rs
any_same rs r h = any_more rs r false h ∙ go (list_any holds_back rs)
  where
    go : (x : Bool) → (x || false) ≡ x
    go true = refl
    go false = refl

-- no line that holds back is put to a free object
any_put : (o : Option Reason) (rs : List Reason) → list_any holds_back (put_to true o rs) ≡ list_any holds_back rs
any_put None rs = refl
any_put (Some r) rs = go (holds_back r) refl
  where
    go : (b : Bool) → holds_back r ≡ b → list_any holds_back (if b then rs else (rs ++ r ∷ [])) ≡ list_any holds_back rs
    go true h = refl
    go false h = any_same rs r h

-- ---- all lines

-- what holds of each line, of that of the next event and of the others holds of all
pub all_told : (P : Reason → Type 0) (free : Bool) (x : Lines) (next : Reason) (rs : List Reason) → AreTrue P x → P next → All P rs →
    All P (with_all free x next rs)
all_told P free x next rs h n a = go free
  where
    lines : (b : Bool) → All P (with_processor b x (with_place b x rs))
    lines b =
        all_put P b x.asked _ h.asked (all_put P b x.insert _ h.insert (all_put P b x.cut _ h.cut
        (all_put P b x.level _ h.level (all_put P b x.regions _ h.regions (all_put P b x.runs _ h.runs
        (all_put P b x.first rs h.first a))))))

    go : (b : Bool) → All P (with_all b x next rs)
    go true = lines true
    go false = All-push P (with_processor false x (with_place false x rs)) next (lines false) n

-- none of the lines of a free object holds it back
any_lines : (x : Lines) (rs : List Reason) → list_any holds_back (with_processor true x (with_place true x rs)) ≡ list_any holds_back rs
any_lines x rs =
    any_put x.asked _ ∙ any_put x.insert _ ∙ any_put x.cut _ ∙ any_put x.level _ ∙ any_put x.regions _ ∙ any_put x.runs _ ∙ any_put x.first rs

-- some line holds the object back exactly where it isn't free
pub all_held : (free : Bool) (x : Lines) (next : Reason) (rs : List Reason) → holds_back next ≡ true → list_any holds_back rs ≡ false →
    list_any holds_back (with_all free x next rs) ≡ not free
all_held true x next rs h none = any_lines x rs ∙ none
all_held false x next rs h none =
    any_more (with_processor false x (with_place false x rs)) next true h ∙ go (list_any holds_back (with_processor false x (with_place false x rs)))
  where
    go : (b : Bool) → (b || true) ≡ true
    go true = refl
    go false = refl

-- what holds of each line and of the others holds of all
pub each_told : (P : Reason → Type 0) (free : Bool) (x : Lines) (rs : List Reason) → AreTrue P x → All P rs → All P (with_each free x rs)
each_told P b x rs h a =
    all_put P b x.asked _ h.asked (all_put P b x.insert _ h.insert (all_put P b x.cut _ h.cut
    (all_put P b x.level _ h.level (all_put P b x.regions _ h.regions (all_put P b x.runs _ h.runs
    (all_put P b x.first rs h.first a))))))

-- none of the lines of a free thing holds it back
pub each_free : (x : Lines) (rs : List Reason) → list_any holds_back rs ≡ false → list_any holds_back (with_each true x rs) ≡ false
each_free x rs none = any_lines x rs ∙ none

-- the last line holds back a thing that isn't free
pub each_held : (x : Lines) (r : Reason) (rs : List Reason) → x.asked ≡ Some r → holds_back r ≡ true → list_any holds_back (with_each false x rs) ≡ true
each_held x r rs e h =
    ap (λ (o : Option Reason). list_any holds_back (put_to false o before)) e ∙ any_more before r true h ∙ go (list_any holds_back before)
  where
    before : List Reason
    before = put_to false x.insert (put_to false x.cut (put_to false x.level (with_place false x rs)))

    go : (b : Bool) → (b || true) ≡ true
    go true = refl
    go false = refl

-- ---- the next event

-- the line of the next event holds back
pub next_holds : (p : CpuNo) (w : Result What ScheduleKind) → holds_back (next_reason p w) ≡ true
next_holds p (Ok w) = refl
next_holds p (Err k) = refl

-- what holds of the line of each event that a turn gives, and of each refusal, holds of the line
pub next_true : (P : Reason → Type 0) (p : CpuNo) (r : Result Event ScheduleKind) (w : Result What ScheduleKind) →
    ((e : Event) → r ≡ Ok e → P (Next p e.what)) → ((k : ScheduleKind) → r ≡ Err k → P (NoNext p k)) → IsWhat r w → P (next_reason p w)
next_true P p (Ok e) (Ok w) f g h = subst (λ (x : What). P (Next p x)) h (f e refl)
next_true P p (Err k) (Err j) f g h = subst (λ (x : ScheduleKind). P (NoNext p x)) h (g k refl)
next_true P p (Ok e) (Err j) f g h = absurd h
next_true P p (Err k) (Ok w) f g h = absurd h

-- it is true
pub next_told : (q : Question) (p : CpuNo) (w : Result What ScheduleKind) → WaitsOn q p →
    IsWhat (step q.script.now q.turns (NextTurn p) (past_of q)) w → IsTold q (next_reason p w)
next_told q p w on h =
    next_true (IsTold q) p (step q.script.now q.turns (NextTurn p) (past_of q)) w (λ e i. (on, (e, (i, refl)))) (λ k i. (on, i)) h

-- it delivers what it tells
pub gives_same : (x : Thing) (n : ℕ) (r : Result Event ScheduleKind) (w : Result What ScheduleKind) → IsWhat r w → gives_what x n w ≡ gives x n r
gives_same x n (Ok e) (Ok w) h = ap (delivers x n) (sym h)
gives_same x n (Err k) (Err j) h = refl
gives_same x n (Ok e) (Err j) h = absurd h
gives_same x n (Err k) (Ok w) h = absurd h

-- a fact of each good end gives another one
pub on_ok : {A F : Type 0} (P Q : Type 0) (r : Result A F) → (P → Q) → OnOk r P → OnOk r Q
on_ok P Q (Ok x) g h = g h
on_ok P Q (Err k) g h = tt

-- ---- what became of the last insert

-- a fate that isn't over is waiting
pub not_over : (f : Fate) → not (still_waits (fate_as f)) ≡ false → fate_as f ≡ StillWaits
not_over (fate.Begun n) h = absurd cc
not_over (fate.Removed n) h = absurd cc
not_over (fate.Flushed n) h = absurd cc
not_over fate.Waits h = refl

-- one that is over doesn't wait
pub over : (f : Fate) → not (still_waits (fate_as f)) ≡ true → still_waits (fate_as f) ≡ false
over (fate.Begun n) h = refl
over (fate.Removed n) h = refl
over (fate.Flushed n) h = refl
over fate.Waits h = absurd cc

-- two ways to tell one fate are the same
same_fate : (f g : Fate) → fate_as f ≡ fate_as g → f ≡ g
same_fate (fate.Begun n) (fate.Begun m) h = cc
same_fate (fate.Removed n) (fate.Removed m) h = cc
same_fate (fate.Flushed n) (fate.Flushed m) h = cc
same_fate fate.Waits fate.Waits h = refl
same_fate (fate.Begun n) (fate.Removed m) h = absurd cc
same_fate (fate.Begun n) (fate.Flushed m) h = absurd cc
same_fate (fate.Begun n) fate.Waits h = absurd cc
same_fate (fate.Removed n) (fate.Begun m) h = absurd cc
same_fate (fate.Removed n) (fate.Flushed m) h = absurd cc
same_fate (fate.Removed n) fate.Waits h = absurd cc
same_fate (fate.Flushed n) (fate.Begun m) h = absurd cc
same_fate (fate.Flushed n) (fate.Removed m) h = absurd cc
same_fate (fate.Flushed n) fate.Waits h = absurd cc
same_fate fate.Waits (fate.Begun m) h = absurd cc
same_fate fate.Waits (fate.Removed m) h = absurd cc
same_fate fate.Waits (fate.Flushed m) h = absurd cc

-- ---- a list of one reason

-- what is told is true
pub one_told : (P : Reason → Type 0) (r : Reason) (old new : List Reason) → old ≡ [] → new ≡ old ++ r ∷ [] → P r → All P new
one_told P r old new e h p = subst (λ (xs : List Reason). All P xs) (sym (h ∙ ap (λ (xs : List Reason). xs ++ r ∷ []) e)) (All-push P [] r (All-nil P) p)

-- an option is not both some and none
none_some : {A : Type 0} (o : Option ℕ) (n : ℕ) → o ≡ None → o ≡ Some n → A
none_some o n h k = absurd cc

-- an option is some of one number
same_number : (o : Option ℕ) (n m : ℕ) → o ≡ Some n → o ≡ Some m → n ≡ m
same_number o n m h k = cc

-- an object that was never inserted
pub never_all : (q : Question) (old new : List Reason) → old ≡ [] → new ≡ old ++ NeverInserted ∷ [] → last_insert (thing_of q.object) (past_of q) ≡ None →
    AreAll q new
never_all q old new e h k = record {
  never = λ i. ap head_of (h ∙ ap (λ (xs : List Reason). xs ++ NeverInserted ∷ []) e);
  ended = λ n f i. none_some (last_insert (thing_of q.object) (past_of q)) n k i;
  waits = λ n i. none_some (last_insert (thing_of q.object) (past_of q)) n k i;
}

-- one whose last insert is used up
pub ended_all : (q : Question) (n : ℕ) (f : Fate) (old new : List Reason) → old ≡ [] → new ≡ old ++ Ended n f ∷ [] →
    last_insert (thing_of q.object) (past_of q) ≡ Some n → fate_as f ≡ fate_of (thing_of q.object) n (past_of q) → still_waits (fate_as f) ≡ false →
    AreAll q new
ended_all q n f old new e h k i w =
    let x = last_insert (thing_of q.object) (past_of q) in
    let head : head_of new ≡ Some (Ended n f) = ap head_of (h ∙ ap (λ (xs : List Reason). xs ++ Ended n f ∷ []) e) in
    record {
      never = λ j. none_some x n j k;
      ended = λ m g j l v.
          let same = same_number x n m k j in
          let fates : fate_as f ≡ fate_as g = i ∙ ap (λ (z : ℕ). fate_of (thing_of q.object) z (past_of q)) same ∙ l in
          head ∙ ap (λ (z : ℕ). Some (Ended z f)) same ∙ ap (λ (z : Fate). Some (Ended m z)) (same_fate f g fates);
      waits = λ m j l.
          let same = same_number x n m k j in
          let fates : fate_as f ≡ StillWaits = i ∙ ap (λ (z : ℕ). fate_of (thing_of q.object) z (past_of q)) same ∙ l in
          absurd (let z = sym w ∙ ap still_waits fates in cc);
    }

-- one whose last insert waits
pub waits_all : (q : Question) (n : ℕ) (rs : List Reason) → last_insert (thing_of q.object) (past_of q) ≡ Some n →
    fate_of (thing_of q.object) n (past_of q) ≡ StillWaits → list_any holds_back rs ≡ not (is_free q.script.now q.turns (events_of q) q.end n q.object) →
    AreAll q rs
waits_all q n rs k i h =
    let x = last_insert (thing_of q.object) (past_of q) in
    record {
      never = λ j. none_some x n j k;
      ended = λ m g j l v.
          let same = same_number x n m k j in
          let fates : fate_as g ≡ StillWaits = sym l ∙ ap (λ (z : ℕ). fate_of (thing_of q.object) z (past_of q)) (sym same) ∙ i in
          absurd (let z = sym v ∙ ap still_waits fates in cc);
      waits = λ m j l. h ∙ ap (λ (z : ℕ). not (is_free q.script.now q.turns (events_of q) q.end z q.object)) (same_number x n m k j);
    }

-- ---- a waiting insert

-- its line is true
pub waits_told : (q : Question) (n : ℕ) (i : Pending) → last_insert (thing_of q.object) (past_of q) ≡ Some n →
    fate_of (thing_of q.object) n (past_of q) ≡ StillWaits → i.at ≡ n → i.cpu ≡ place_of q.script.now (events_of q) n q.object →
    i.by ≡ maker_of (events_of q) n → i.sort ≡ sort_of q.script.now (events_of q) n q.object → IsTold q (Waits i)
waits_told q n i h w e c b t = record {
  last = h ∙ ap (λ (z : ℕ). Some z) (sym e);
  waits = ap (λ (z : ℕ). fate_of (thing_of q.object) z (past_of q)) e ∙ w;
  cpu = ap (λ (z : ℕ). place_of q.script.now (events_of q) z q.object) e ∙ sym c;
  by = ap (maker_of (events_of q)) e ∙ sym b;
  sort = ap (λ (z : ℕ). sort_of q.script.now (events_of q) z q.object) e ∙ sym t;
}

-- the line of what became of it is true
pub then_told : (q : Question) (n m : ℕ) (f : Fate) → last_insert (thing_of q.object) (past_of q) ≡ Some n → m ≡ length (events_of q) →
    fate_as f ≡ fate_of (thing_of q.object) n (past_at m (events_of q)) → IsTold q (Then f)
then_told q n m f h e i = (
  n,
  (
    h,
    sym (i ∙ ap (λ (z : ℕ). fate_of (thing_of q.object) n (past_at z (events_of q))) e
        ∙ ap (λ (xs : List Event). fate_of (thing_of q.object) n (reverse xs)) (take-length (events_of q))),
  ),
)

-- a processor that the script lacks has no next event
pub no_cpu : (s : Script) (limit : ℕ) (p : CpuNo) (past : List Event) → s.cpus ≤ p.0 → step s limit (NextTurn p) past ≡ Err NoSuchCpu
no_cpu s limit p past h = go (nat_lt p.0 s.cpus) refl
  where
    rest : Result Event ScheduleKind
    rest = refused_if (is_cut limit (own_of s p past)) NothingToDo (uncut_step s (NextTurn p) (own_of s p past) (lanes_at s past) past)

    go : (b : Bool) → nat_lt p.0 s.cpus ≡ b → refused_if (not (nat_lt p.0 s.cpus)) NoSuchCpu rest ≡ Err NoSuchCpu
    go true k = absurd (let l = ltb-true p.0 s.cpus k in omega (arith, l, h))
    go false k = ap (λ (b : Bool). refused_if (not b) NoSuchCpu rest) k

-- that is told, and true
pub none_told : (q : Question) (p : CpuNo) (rs : List Reason) → WaitsOn q p → q.script.now.cpus ≤ p.0 → All (IsTold q) rs →
    All (IsTold q) (rs ++ NoNext p NoSuchCpu ∷ [])
none_told q p rs on h a = All-push (IsTold q) rs (NoNext p NoSuchCpu) a (on, no_cpu q.script.now q.turns p (past_of q) h)

-- some reason holds the object back then
pub none_held : (q : Question) (p : CpuNo) (n : ℕ) (rs : List Reason) → q.script.now.cpus ≤ p.0 → list_any holds_back (rs ++ NoNext p NoSuchCpu ∷ [])
    ≡ not (gives (thing_of q.object) n (step q.script.now q.turns (NextTurn p) (past_of q)))
none_held q p n rs h =
    any_more rs (NoNext p NoSuchCpu) true refl ∙ go (list_any holds_back rs)
    ∙ sym (ap (λ (r : Result Event ScheduleKind). not (gives (thing_of q.object) n r)) (no_cpu q.script.now q.turns p (past_of q) h))
  where
    go : (b : Bool) → (b || true) ≡ true
    go true = refl
    go false = refl

-- ---- the question's own values

-- what is told of a question is told of its values
pub told_as : (q : Question) (s : Script) (limit : ℕ) (events : List Event) (n : ℕ) (x : Object) (rs : List Reason) → q.script.now ≡ s → q.turns ≡ limit →
    events_of q ≡ events → q.end ≡ n → q.object ≡ x → All (IsTold q) rs → All (Says s limit events n x) rs
told_as q s limit events n x rs a b c d e h =
    subst (λ (z : Script). All (Says z limit events n x) rs) a
    (subst (λ (z : ℕ). All (Says q.script.now z events n x) rs) b
    (subst (λ (z : List Event). All (Says q.script.now q.turns z n x) rs) c
    (subst (λ (z : ℕ). All (Says q.script.now q.turns (events_of q) z x) rs) d
    (subst (λ (z : Object). All (Says q.script.now q.turns (events_of q) q.end z) rs) e h))))

-- and it is complete for them
pub all_as : (q : Question) (s : Script) (limit : ℕ) (events : List Event) (n : ℕ) (x : Object) (rs : List Reason) → q.script.now ≡ s → q.turns ≡ limit →
    events_of q ≡ events → q.end ≡ n → q.object ≡ x → AreAll q rs → AreComplete s limit events n x rs
all_as q s limit events n x rs a b c d e h =
    subst (λ (z : Script). AreComplete z limit events n x rs) a
    (subst (λ (z : ℕ). AreComplete q.script.now z events n x rs) b
    (subst (λ (z : List Event). AreComplete q.script.now q.turns z n x rs) c
    (subst (λ (z : ℕ). AreComplete q.script.now q.turns (events_of q) z x rs) d
    (subst (λ (z : Object). AreComplete q.script.now q.turns (events_of q) q.end z rs) e h))))
