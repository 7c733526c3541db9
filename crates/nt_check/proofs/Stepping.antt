-- One event after another of a history that is checked.
use Rattle.std.proofs.Common.{ap, inr, subst, sym, ◌∙◌}
use Rattle.std.proofs.lemmas.List.{reverse-append, take_more}
use Rattle.std.proofs.lemmas.Option.{get_or_from_slice_get, slice_get_within}
use Rattle.std.proofs.Math.Seq.{take-length}
use Rattle.std.specs.Prelude.{Bool, Err, IfErr, IfOk, IsTrue, List, None, Ok, OnOk, Option, Result, Some, [], false, length, option_map, refl, reverse}
use Rattle.std.specs.Prelude.{slice_get, take, true, ℕ, ◌*◌, ◌++◌, ◌+◌, ◌<◌, ◌∷◌, ◌≡◌, ◌≤◌}
use Rattle.nt_event.specs.declared.events.Event.{Event}
use Rattle.nt_event.specs.declared.events.Turn.{Turn}
use Rattle.nt_event.specs.declared.limits.TheConstants.{EVENTS, TURNS}
use Rattle.nt_event.specs.declared.scripts.Script.{Script}
use Rattle.nt_event.specs.Robin.{is_settled}
use Rattle.nt_event.specs.Script.{fits}
use Rattle.nt_event.specs.Step.{IsLegal, IsRun, step, turn_of}
use Rattle.nt_floor.specs.Views.{View}
use Rattle.nt_plain.specs.States.{IsFresh, PlainState, view_of}
use Rattle.nt_plain.proofs.Openings.{fresh_opening}
use Rattle.nt_cpus.specs.Following.{AreAfter, cpus_of}
use Rattle.nt_cpus.specs.Refusals.{kind_of}
use Rattle.nt_cpus.specs.States.{CpusState}
use Rattle.nt_cpus.specs.declared.refusals.CoreRefusal.{CoreRefusal}
use Rattle.nt_cpus.proofs.Starting.{start_after}
use Rattle.nt_check.specs.Verdicts.{IsFirstIllegal, IsVerdict, made_by, past_at}
use Rattle.nt_check.specs.declared.checking.Verdict.TheVariants.{IllegalAt, Legal}

-- ---- the first events of a history

-- one more of them
pub past_more : (events : List Event) (n : ℕ) (e : Event) → slice_get events n ≡ Some e → past_at (n + 1) events ≡ e ∷ past_at n events
past_more events n e h =
    let b : n < length events = slice_get_within events n e h in
    ap reverse (take_more events n e b ∙ ap (λ (x : Event). take n events ++ x ∷ []) (get_or_from_slice_get events n e e h))
    ∙ reverse-append (take n events) (e ∷ [])

-- all of them
pub past_whole : (events : List Event) (n : ℕ) → n ≡ length events → past_at n events ≡ reverse events
past_whole events n h = ap (λ (k : ℕ). past_at k events) h ∙ ap reverse (take-length events)

-- two events that are given as the same option are the same
pub same_some : (x y : Event) → Some x ≡ Some y → x ≡ y
same_some x y h = cc

-- if a step made one event and the result tells another, the two are the same
pub same_ok : (u : Result (Unit {0}) CoreRefusal) (v : Unit {0}) (x y : Event) → u ≡ Ok v → made_by u x ≡ Ok y → x ≡ y
same_ok (Ok u) v x y h k = cc
same_ok (Err r) v x y h k = absurd cc

-- the event at a place where one has a turn
pub event_at : (x : Option Event) (t : Turn) → option_map turn_of x ≡ Some t → (e : Event) × ((x ≡ Some e) × (t ≡ turn_of e))
event_at None t h = absurd cc
event_at (Some e) t h = (e, (refl, cc))

-- ---- what the processors do with them

-- fresh processors and a fresh floor are as after the empty history, if script and limits are in range
pub start_checked : (s : Script) (turns : ℕ) (events : List Event) (c : CpusState) (f : PlainState) → IsTrue (fits s) → turns ≤ TURNS →
    s.cpus * turns ≤ EVENTS → c ≡ record { script = s; limit = turns; cpus = cpus_of s turns [] } → IsFresh s turns f →
    AreAfter (past_at 0 events) c f.script (view_of f)
start_checked s turns events c f fit each all h k =
    start_after s turns c f.script (view_of f) fit each all h k.script (fresh_opening s turns f k)

-- what a turn of the processors and the floor gives
abbrev pub IsMade : CpusState → CpusState → Turn → Script → View → Script → View → Event → Type 0
IsMade c d t floor v other w e =
    (past : List Event) → AreAfter past c floor v → (step c.script c.limit t past ≡ Ok e) × AreAfter (e ∷ past) d other w

abbrev pub IsUnmade : CpusState → Turn → Script → View → CoreRefusal → Type 0
IsUnmade c t floor v r = (past : List Event) → AreAfter past c floor v → step c.script c.limit t past ≡ Err (kind_of r)

-- if a turn was made whenever the processors answered well, then it was made with the event that is told
pub made_ok : (c d : CpusState) (t : Turn) (floor other : Script) (v w : View) (r : Result (Unit {0}) CoreRefusal) (e : Event) →
    OnOk r (IsMade c d t floor v other w e) → IfOk (made_by r e) (IsMade c d t floor v other w)
made_ok c d t floor other v w (Ok u) e h = h
made_ok c d t floor other v w (Err x) e h = tt

-- a refusal of the processors stays one when the event is added to their answer
pub made_err : (c : CpusState) (t : Turn) (floor : Script) (v : View) (r : Result (Unit {0}) CoreRefusal) (e : Event) → IfErr r (IsUnmade c t floor v) →
    IfErr (made_by r e) (IsUnmade c t floor v)
made_err c t floor v (Ok u) e h = tt
made_err c t floor v (Err x) e h = h

-- the event was made
pub legal_next : (events : List Event) (n : ℕ) (e : Event) (c d : CpusState) (t : Turn) (floor other : Script) (v w : View)
    (r : Result Event CoreRefusal) → AreAfter (past_at n events) c floor v → slice_get events n ≡ Some e → IfOk r (IsMade c d t floor v other w) → r ≡ Ok e →
    AreAfter (past_at (n + 1) events) d other w
legal_next events n e c d t floor other v w r a h i k =
    let made : IsMade c d t floor v other w e = subst (λ (x : Result Event CoreRefusal). IfOk x (IsMade c d t floor v other w)) k i in
    subst (λ (past : List Event). AreAfter past d other w) (sym (past_more events n e h)) (made (past_at n events) a).1

-- it was not
pub illegal_here : (s : Script) (limit : ℕ) (events : List Event) (n : ℕ) (e : Event) (c d : CpusState) (t : Turn) (floor other : Script) (v w : View)
    (r : Result Event CoreRefusal) → AreAfter (past_at n events) c floor v → c.script ≡ s → c.limit ≡ limit → slice_get events n ≡ Some e → t ≡ turn_of e →
    IfOk r (IsMade c d t floor v other w) → IfErr r (IsUnmade c t floor v) → (r ≡ Ok e → ⊥) → IsFirstIllegal s limit events n e
illegal_here s limit events n e c d t floor other v w r a p q h u i j never =
    subst (λ (x : Script). IsFirstIllegal x limit events n e) p
    (subst (λ (k : ℕ). IsFirstIllegal c.script k events n e) q (record { there = h; before = a.run; illegal = λ k. go r i j never k }))
  where
    go : (r : Result Event CoreRefusal) → IfOk r (IsMade c d t floor v other w) → IfErr r (IsUnmade c t floor v) → (r ≡ Ok e → ⊥) →
        IsLegal c.script c.limit e (past_at n events) → ⊥
    go (Ok x) i j never k =
        let m : step c.script c.limit (turn_of e) (past_at n events) ≡ Ok x = ap (λ (z : Turn). step c.script c.limit z (past_at n events)) (sym u)
        ∙ (i (past_at n events) a).0 in
        let same : x ≡ e = (let z = sym m ∙ k in cc) in
        never (ap (λ (z : Event). Ok z) same)
    go (Err x) i j never k =
        let m : step c.script c.limit (turn_of e) (past_at n events) ≡ Err (kind_of x) = ap
        (λ (z : Turn). step c.script c.limit z (past_at n events)) (sym u)
        ∙ j (past_at n events) a in
        absurd (let z = sym m ∙ k in cc)

-- all were made, and all is settled
pub all_settled : (s : Script) (limit : ℕ) (events : List Event) (n : ℕ) (c : CpusState) (floor : Script) (v : View) (b : Bool) →
    AreAfter (past_at n events) c floor v → c.script ≡ s → c.limit ≡ limit → n ≡ length events → b ≡ is_settled c.script c.limit (past_at n events) → b ≡ true →
    IsVerdict s limit events Legal
all_settled s limit events n c floor v b a p q h i k =
    subst (λ (x : Script). IsVerdict x limit events Legal) p
    (subst (λ (m : ℕ). IsVerdict c.script m events Legal) q (
      subst (λ (past : List Event). IsRun c.script c.limit past) (past_whole events n h) a.run,
      ap (λ (past : List Event). is_settled c.script c.limit past) (sym (past_whole events n h)) ∙ (sym i ∙ k),
    ))

-- or not
pub all_unsettled : (s : Script) (limit : ℕ) (events : List Event) (n m : ℕ) (c : CpusState) (floor : Script) (v : View) (b : Bool) →
    AreAfter (past_at n events) c floor v → c.script ≡ s → c.limit ≡ limit → n ≡ length events → b ≡ is_settled c.script c.limit (past_at n events) →
    b ≡ false → m ≡ n → IsVerdict s limit events (IllegalAt m)
all_unsettled s limit events n m c floor v b a p q h i k l =
    subst (λ (x : Script). IsVerdict x limit events (IllegalAt m)) p
    (subst (λ (z : ℕ). IsVerdict c.script z events (IllegalAt m)) q (inr (record {
      number = l ∙ h;
      run = subst (λ (past : List Event). IsRun c.script c.limit past) (past_whole events n h) a.run;
      unsettled = ap (λ (past : List Event). is_settled c.script c.limit past) (sym (past_whole events n h)) ∙ (sym i ∙ k);
    })))
