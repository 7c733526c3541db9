-- Turns that lead to a state.
use Rattle.std.proofs.Common.{ap, arith, drop, subst, sym, ◌∙◌}
use Rattle.std.proofs.lemmas.List.{drop_more, reverse-append}
use Rattle.std.specs.Prelude.{Bool, Err, List, Ok, Result, [], false, get_or, length, refl, reverse, true, ℕ, ◌++◌, ◌+◌, ◌<◌, ◌∷◌, ◌≡◌}
use Rattle.nt_event.specs.declared.events.Event.{Event}
use Rattle.nt_event.specs.declared.events.ScheduleKind.{ScheduleKind}
use Rattle.nt_event.specs.declared.events.Turn.{Turn}
use Rattle.nt_event.specs.declared.scripts.Script.{Script}
use Rattle.nt_expect.specs.declared.expectations.Watched.{Watched}
use Rattle.nt_search.specs.declared.machine.Machine.{Machine}
use Rattle.nt_search.specs.declared.states.Way.{Way}
use Rattle.nt_search.specs.Machines.{IsRefused, IsTaken, IsUncut, Stands}
use Rattle.nt_search.specs.Ways.{AreWays, Lead, LeadsTo}

module _ (s : Script) (all : List (List Event)) (ways : List Way) (are : AreWays s all ways) (n : ℕ) (way : Way) (some : 0 < n) (low : n < length ways)
    (is : way ≡ get_or ways n way) where
  to : LeadsTo s all n way
  to = subst (LeadsTo s all n) (sym is) (are.each n way some (omega (arith, low, are.count)))

  -- the way comes from an earlier state
  pub earlier : way.from < n
  earlier = to.earlier

  -- and with its turn the turns lead from there
  pub lead_on : (turns : List Turn) (h : List Event) → Lead s turns (get_or all n []) h → Lead s (way.turn ∷ turns) (get_or all way.from []) h
  lead_on turns h lead = (to.event, to.gives, subst (λ (k : List Event). Lead s turns k h) to.is lead)

-- turns in reverse that lead to a history do so with one more turn at the front, if it is added at the end
pub lead_back : (s : Script) (turns more : List Turn) (t : Turn) (past h : List Event) → more ≡ turns ++ t ∷ [] → Lead s (t ∷ reverse turns) past h →
    Lead s (reverse more) past h
lead_back s turns more t past h e lead =
    subst (λ (ts : List Turn). Lead s ts past h) (sym (ap reverse e ∙ reverse-append turns (t ∷ []))) lead

-- as many turns as events
pub lead_length : (s : Script) (turns : List Turn) (past h : List Event) → Lead s turns past h → length h ≡ length turns + length past
lead_length s [] past h lead = let e = ap length lead in omega (arith, e)
lead_length s (t ∷ turns) past h lead = let rest = lead_length s turns (lead.0 ∷ past) h lead.2 in omega (arith, rest)

-- the machine stands on the way to the history, from which these turns lead on
pub record IsOnWay (s : Script) (limit : ℕ) (watched : List Watched) (turns : List Turn) (h : List Event) (m : Machine) : Type 0 where
  pub past : List Event
  pub stands : Stands s limit watched past m
  pub lead : Lead s turns past h

-- it stands there behind no more events than the history has
pub way_short : (s : Script) (limit : ℕ) (watched : List Watched) (turns : List Turn) (h : List Event) (m : Machine) →
    (on : IsOnWay s limit watched turns h m) → length h < limit → length on.past < limit
way_short s limit watched turns h m on low =
    let size = lead_length s turns on.past h on.lead in
    omega (arith, size, low)

-- the next turn leads on
pub way_on : (s : Script) (limit : ℕ) (watched : List Watched) (all : List Turn) (i : ℕ) (t : Turn) (h : List Event) (m n : Machine) (b : Bool) →
    IsOnWay s limit watched (drop i all) h m → length h < limit → i < length all → t ≡ get_or all i t →
    (b ≡ true → (past : List Event) → Stands s limit watched past m → length past < limit → IsTaken s limit watched t past n.event n) →
    (b ≡ false → (past : List Event) → Stands s limit watched past m → length past < limit → IsRefused s limit watched t past n) →
    IsOnWay s limit watched (drop (i + 1) all) h n
way_on s limit watched all i t h m n b on low inside is taken refused = go b refl
  where
    given : {e f : Event} → ◌≡◌ {A = Result Event ScheduleKind} (Ok e) (Ok f) → e ≡ f
    given q = cc

    differ : {e : Event} {k : ScheduleKind} → ◌≡◌ {A = Result Event ScheduleKind} (Ok e) (Err k) → ⊥
    differ q = cc

    short : length on.past < limit
    short = way_short s limit watched (drop i all) h m on low

    here : Lead s (t ∷ drop (i + 1) all) on.past h
    here = subst (λ (ts : List Turn). Lead s ts on.past h)
        (drop_more all i t inside ∙ ap (λ (u : Turn). u ∷ drop (i + 1) all) (sym is)) on.lead

    go : (c : Bool) → b ≡ c → IsOnWay s limit watched (drop (i + 1) all) h n
    go true q =
        let made = taken q on.past on.stands short in
        let same : here.0 ≡ n.event = given (sym here.1 ∙ made.gives) in
        record {
          past = n.event ∷ on.past;
          stands = made.stands;
          lead = subst (λ (e : Event). Lead s (drop (i + 1) all) (e ∷ on.past) h) same here.2;
        }
    go false q =
        let no = refused q on.past on.stands short in
        absurd (differ (sym here.1 ∙ no.refused))

-- the machine can take a turn where no processor is cut
pub uncut : (s : Script) (limit : ℕ) (watched given : List Watched) (past : List Event) (m : Machine) → Stands s limit watched past m → length past < limit →
    given ≡ watched → IsUncut given m
uncut s limit watched given past m h short e = subst (λ (ws : List Watched). IsUncut ws m) (sym e) (record {
  past = past;
  stands = subst (λ (z : Script). Stands z m.processors.limit watched past m) (sym h.script)
      (subst (λ (l : ℕ). Stands s l watched past m) (sym h.limit_is) h);
  short = rw h.limit_is short;
})
