-- Where each processor has no more to do, as a pass that knows the events of all tells it, the run is settled.
use Rattle.std.proofs.Common.{ap, append_assoc, arith, inl, inr, subst, sym, ◌∙◌}
use Rattle.std.proofs.lemmas.Bool.{eq-eqb, eqb-true, lt-ltb, ltb-false, ltb-true}
use Rattle.std.specs.List.{list_all}
use Rattle.std.specs.Prelude.{Bool, List, Some, [], false, length, nat_lt, refl, suc, true, zero, ℕ, ◌&&◌, ◌++◌, ◌+◌, ◌<◌, ◌==◌, ◌||◌, ◌∷◌, ◌≡◌, ◌≤◌, ◌⊎◌}
use Rattle.nt_event.specs.declared.events.Event.{Event}
use Rattle.nt_event.specs.declared.events.Turn.{Turn}
use Rattle.nt_event.specs.declared.events.Turn.TheVariants.{Look as LookTurn, Next, Switch as SwitchTurn}
use Rattle.nt_event.specs.declared.numbers.CpuNo.{CpuNo}
use Rattle.nt_event.specs.declared.scripts.Script.{Script}
use Rattle.nt_event.specs.Classes.{is_used_class}
use Rattle.nt_event.specs.Jobs.{is_still}
use Rattle.nt_event.specs.Lists.{table_from, value_at}
use Rattle.nt_event.specs.Numbers.{cpu}
use Rattle.nt_event.specs.Own.{Own, own_of, stand_in}
use Rattle.nt_event.specs.Requests.{asked, asks, asks_in, seen}
use Rattle.nt_event.specs.Robin.{has_seen, is_done_with}
use Rattle.nt_event.specs.Script.{fits}
use Rattle.nt_event.specs.Step.{good_rises, is_cut, turn_of, was_asked}
use Rattle.nt_event.proofs.Options.{both}
use Rattle.nt_event.proofs.Tables.{get_or-table}
use Rattle.nt_runs.proofs.Robin.{asked_was}
use Rattle.nt_runs.proofs.Settled.{seen_below}
use Rattle.nt_laws.specs.Named.{AllFit}
use Rattle.nt_laws.proofs.Named.Asked.{rises_fit}
use Rattle.nt_laws.proofs.Named.EventsFit.{events_of_a_run_fit}
use Rattle.nt_compose.specs.Choices.{AreStepped, GoesOn, Looks}
use Rattle.nt_compose.specs.Composition.{IsGiven, IsPlaced, Placed, events, kept, local_gives}
use Rattle.nt_compose.specs.Parts.{IsTail, Numbered, own_by, part}
use Rattle.nt_compose.proofs.Choosing.{choice_given, steps_compose}
use Rattle.nt_compose.proofs.Composing.{asked_here, length_events}
use Rattle.nt_compose.proofs.Parting.{first_yes, keeps_by_part}
use Rattle.nt_mark.specs.declared.view.View.{View}
use Rattle.nt_mark.specs.Views.{reach, request_word}
use Rattle.nt_live.specs.Workers.{AreAsked}
use Rattle.nt_live.specs.Gathering.{AllDoneSettles, AreTogether, IsDoneWith, IsWhole}
use Rattle.nt_live.proofs.InPart.{Here, in_part}

-- ---- what the events of a history ask

-- what was chosen is given
placed : (s : Script) (limit : ℕ) (y : Placed) (past : List Placed) → AreStepped s limit (y ∷ past) → IsPlaced s limit y past
placed s limit y past a =
    record { cpu = a.0.cpu; uncut = a.0.uncut; given = given a.0.how; threads = a.0.threads; states = a.0.states }
  where
    given : Looks s y.event.cpu (kept s y.event.cpu past) y past ⊎ GoesOn s y.event.cpu (kept s y.event.cpu past) y → IsGiven s limit y past (turn_of y.event)
    given (inl l) =
        let turn : turn_of y.event ≡ LookTurn y.event.cpu l.rises = ap turn_of (sym l.event) in
        subst (λ (t : Turn). IsGiven s limit y past t) (sym turn) (steps_compose s limit (y ∷ past) a).run.0
    given (inr g) = turned (turn_of y.event) (choice_given s y.event.cpu (kept s y.event.cpu past) y.found.lanes g.task y.event g.chosen g.gives)
      where
        turned : (t : Turn) → local_gives s y.event.cpu (kept s y.event.cpu past) y.found.lanes t ≡ Some y.event → IsGiven s limit y past t
        turned (LookTurn q r) h = absurd cc
        turned (Next q) h = h
        turned (SwitchTurn q t) h = h

-- the event asks what it asks in the states found, by what its processor kept of its own part
asks_found : (s : Script) (limit : ℕ) (y : Placed) (past : List Placed) (p : CpuNo) (c : ℕ) → AreStepped s limit (y ∷ past) →
    asks s p c y.event (events past) ≡ true →
    asks_in s (stand_in y.event.cpu (own_by s y.event.cpu (part y.event.cpu past))) y.event.what y.found.lanes p c ≡ true
asks_found s limit y past p c a h =
    let before = steps_compose s limit past a.1 in
    let own : own_by s y.event.cpu (part y.event.cpu past) ≡ own_of s y.event.cpu (events past) = sym (keeps_by_part s y.event.cpu past)
    ∙ before.own y.event.cpu in
    ap (λ (x : Own). asks_in s (stand_in y.event.cpu x) y.event.what y.found.lanes p c) own
    ∙ (asked_here s limit y past before (placed s limit y past a) p c ∙ h)

-- what the history was asked, the pass that knows what each event asked knows
module _ (s : Script) (limit : ℕ) (v : View) (h : List Placed) (known : (q : CpuNo) → q.0 < s.cpus → AreAsked s q v (part q h)) (p : CpuNo)
    (inside : p.0 < s.cpus) (c : ℕ) (class : c < 16) where
  reached : (front past : List Placed) (n : ℕ) → h ≡ front ++ past → AreStepped s limit past → was_asked s p c n (events past) ≡ true →
      n ≤ reach (request_word p c) v
  reached front [] n is a w = absurd cc
  reached front (y ∷ past) n is a w =
      go (n == length (events past) + 1) (asks s p c y.event (events past)) refl refl w
      (reached (front ++ y ∷ []) past n (is ∙ sym (append_assoc front (y ∷ []) past)) a.1)
    where
      here : asks s p c y.event (events past) ≡ true → length past + 1 ≤ reach (request_word p c) v
      here z =
          known y.event.cpu a.0.cpu (Here y past) (part y.event.cpu past)
          (subst (λ (k : List Placed). IsTail (Here y past ∷ part y.event.cpu past) (part y.event.cpu k)) (sym is) (in_part front past y)) p c inside class
          (asks_found s limit y past p c a z)

      go : (m b : Bool) → (n == length (events past) + 1) ≡ m → asks s p c y.event (events past) ≡ b → ((m && b) || was_asked s p c n (events past)) ≡ true →
          (was_asked s p c n (events past) ≡ true → n ≤ reach (request_word p c) v) → n ≤ reach (request_word p c) v
      go true true e1 e2 x ih =
          let i : n ≡ length (events past) + 1 = eqb-true n (length (events past) + 1) e1 in
          let l = length_events past in
          let k = here e2 in
          omega (arith, i, l, k)
      go true false e1 e2 x ih = ih x
      go false b e1 e2 x ih = ih x

-- a processor that has seen nothing
abbrev unseen : Script → CpuNo → Own
unseen s p = record (own_of s p []) { seen = [] }

-- a class that was asked for is a used one
asked_used : (s : Script) (p : CpuNo) (c n : ℕ) (past : List Event) → AllFit s past → 0 < n → was_asked s p c n past ≡ true → is_used_class c ≡ true
asked_used s p c n past f l w =
    go (n == 0) refl (rises_fit s p c (n ∷ []) (unseen s p) past f good)
  where
    above : nat_lt (value_at (unseen s p).seen c) n ≡ true
    above = lt-ltb 0 n l

    good : good_rises s p c (n ∷ []) (unseen s p) past ≡ true
    good = rw (above, w) (second (n == 0))
      where
        second : (b : Bool) → ((b || true) && true) ≡ true
        second true = refl
        second false = refl

    go : (z : Bool) → (n == 0) ≡ z → ((z || is_used_class c) && true) ≡ true → is_used_class c ≡ true
    go true e k = let i : n ≡ 0 = eqb-true n 0 e in absurd (omega (arith, i, l))
    go false e k = (both (is_used_class c) true k).0

-- ---- settled

-- a table of answers is all true if the answer is at each of its places
table_all : (k n : ℕ) (f : ℕ → Bool) → ((i : ℕ) → i < n → f (k + i) ≡ true) → list_all (λ b. b) (table_from k n f) ≡ true
unfolding table_from
table_all k zero f h = refl
table_all k (suc n) f h =
    let e : k + 0 ≡ k = omega arith in
    let here : f k ≡ true = rw e at (h 0 (omega arith)) in
    rw here (table_all (suc k) n f (λ i l. let e : k + suc i ≡ suc k + i = omega arith in rw e at (h (suc i) (omega arith))))

-- a disjunction is true if its second part is
second_yes : (a b : Bool) → b ≡ true → (a || b) ≡ true
second_yes true b h = refl
second_yes false b h = h

-- a conjunction is true if both parts are
both_yes : (a b : Bool) → a ≡ true → b ≡ true → (a && b) ≡ true
both_yes true b h k = k
both_yes false b h k = cc

module _ (s : Script) (limit : ℕ) (v : View) (mine : CpuNo → List Numbered) (n : ℕ) (h : List Placed) (fit : fits s ≡ true)
    (together : AreTogether s limit v mine) (whole : IsWhole s limit mine n h) where
  own : (p : CpuNo) → own_by s p (mine p) ≡ own_of s p (events h)
  own p =
      ap (own_by s p) (sym (whole.parts p))
      ∙ (sym (keeps_by_part s p h) ∙ (steps_compose s limit h whole.stepped).own p)

  known : (q : CpuNo) → q.0 < s.cpus → AreAsked s q v (part q h)
  known q b = subst (λ (ms : List Numbered). AreAsked s q v ms) (sym (whole.parts q)) (together.made q b).asked

  fit_all : AllFit s (events h)
  fit_all = events_of_a_run_fit s limit (events h) fit whole.composed.run

  module _ (p : CpuNo) (inside : p.0 < s.cpus)
      (all : (c : ℕ) → c < 16 → is_used_class c ≡ true → reach (request_word p c) v ≤ value_at (own_by s p (mine p)).seen c) where
    class_seen : (c : ℕ) → c < 16 → asked s p c (events h) ≤ value_at (own_of s p (events h)).seen c
    class_seen c l = go (nat_lt 0 (asked s p c (events h))) refl (asked_was s p c (events h))
      where
        go : (b : Bool) → nat_lt 0 (asked s p c (events h)) ≡ b → (asked s p c (events h) ≡ 0) ⊎ (was_asked s p c (asked s p c (events h)) (events h) ≡ true) →
            asked s p c (events h) ≤ value_at (own_of s p (events h)).seen c
        go b e (inl z) = omega (arith, z)
        go false e (inr w) = let k = ltb-false 0 (asked s p c (events h)) e in omega (arith, k)
        go true e (inr w) =
            let used = asked_used s p c (asked s p c (events h)) (events h) fit_all (ltb-true 0 (asked s p c (events h)) e) w in
            let a = reached s limit v h known p inside c l [] h (asked s p c (events h)) refl whole.stepped w in
            let b = subst (λ (x : Own). reach (request_word p c) v ≤ value_at x.seen c) (own p) (all c l used) in
            omega (arith, a, b)

    class_done : (c : ℕ) → c < 16 → (value_at (own_of s p (events h)).seen c == asked s p c (events h)) ≡ true
    class_done c l =
        let i : value_at (own_of s p (events h)).seen c ≡ seen s p c (events h) = get_or-table 16 c (λ c. seen s p c (events h)) 0 l in
        let a = seen_below s limit p c (events h) whole.composed.run in
        let b = class_seen c l in
        eq-eqb (value_at (own_of s p (events h)).seen c) (asked s p c (events h)) (omega (arith, i, a, b))

    all_seen : has_seen (own_of s p (events h)) (λ c. asked s p c (events h)) ≡ true
    all_seen =
        table_all 0 16 (λ c. value_at (own_of s p (events h)).seen c == asked s p c (events h))
        (λ i l. let e : 0 + i ≡ i = omega arith in rw e (class_done i l))

  done : (p : CpuNo) → p.0 < s.cpus → IsDoneWith s limit v p (mine p) → is_done_with s limit p (events h) ≡ true
  done p b (inl c) = first_yes _ _ (ap (is_cut limit) (sym (own p)) ∙ c)
  done p b (inr r) = second_yes _ _ (both_yes _ _ (ap is_still (sym (own p)) ∙ r.0) (all_seen p b r.1))

-- if no processor has more to do by a pass that knows all events, the run of these events is settled
pub all_done_settles : AllDoneSettles
all_done_settles s limit v mine n h fit together whole all =
    table_all 0 s.cpus (λ p. is_done_with s limit (cpu p) (events h))
    (λ i l. let e : 0 + i ≡ i = omega arith in rw e (done s limit v mine n h fit together whole (cpu i) l (all (cpu i) l)))
