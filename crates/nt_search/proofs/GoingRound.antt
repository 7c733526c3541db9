-- Turns that lead once round.
use Rattle.std.proofs.Common.{ap, arith, inl, inr, subst, sym, ◌∙◌}
use Rattle.std.proofs.lemmas.List.{length-append}
use Rattle.std.specs.Prelude.{Bool, Err, List, Ok, Result, Some, [], false, get_or, length, refl, slice_get, true, ℕ, ◌++◌, ◌+◌, ◌<◌, ◌∷◌, ◌≡◌}
use Rattle.nt_event.specs.declared.events.Event.{Event}
use Rattle.nt_event.specs.declared.events.ScheduleKind.{ScheduleKind}
use Rattle.nt_event.specs.declared.events.Turn.{Turn}
use Rattle.nt_event.specs.declared.scripts.Script.{Script}
use Rattle.nt_alike.specs.Alike.{Alike}
use Rattle.nt_alike.specs.Free.{IsFreeRun, free_step}
use Rattle.nt_alike.specs.Lists.{Among, Each}
use Rattle.nt_alike.proofs.Relation.{alike_self}
use Rattle.nt_verdict.specs.Closed.{GoesOn}
use Rattle.nt_verdict.specs.Fails.{IsEndless}
use Rattle.nt_verdict.proofs.Rounds.{rounds_fail}
use Rattle.nt_shade.specs.declared.shade.Shade.{Shade}
use Rattle.nt_shade.specs.Shade.{IsShadeOf}
use Rattle.nt_search.specs.declared.machine.Machine.{Machine}
use Rattle.nt_search.specs.declared.plan.Plan.{Plan}
use Rattle.nt_search.specs.declared.states.Key.{Key}
use Rattle.nt_search.specs.Keys.{AreNumbered}
use Rattle.nt_search.specs.Machines.{IsRefused, IsTaken, Stands}
use Rattle.nt_search.specs.Rounding.{AreOf, GoRound, HasGoneOn, HasTaken, IsAfter, RoundsAreEndless, TurnLeads}
use Rattle.nt_search.specs.Searches.{IsPlan}
use Rattle.nt_search.specs.States.{Seen}
use Rattle.nt_search.specs.Tried.{IsLikeOne}
use Rattle.nt_search.specs.Ways.{Lead}
use Rattle.nt_search.proofs.Leading.{lead_length}
use Rattle.nt_search.proofs.Keeping.{keyed}
use Rattle.nt_search.proofs.Listing.{like_at}

-- ---- one turn

-- a shade that is that of the state of this number, where the same came, tells that its history is like that of the state
pub known : (x : Plan) → IsPlan x → (all : List (List Event)) (states : Seen) → AreOf x all states → (h : List Event) (n : Machine) (shade : Shade)
    (number : ℕ) → Stands x.script.now x.limit x.watched.items h n → IsShadeOf x.script.now h shade →
    ((key : Key) × (slice_get states.keys number ≡ Some key) × AreNumbered states.parts key shade n.came) →
    IsLikeOne x.script.now x.watched.items all h number
known x plan all states are h n shade number stands is at =
    let key = keyed x.script.now x.watched.items h states.parts at.0 shade n.came stands.free is stands.came at.2 in
    like_at x.script.now x.watched.items plan.fit h states.parts at.0 all states.keys number key are.keys at.1

-- turns that lead to a history lead with one more to what it gives there
pub lead_push : (s : Script) (turns : List Turn) (t : Turn) (past h : List Event) (e : Event) → Lead s turns past h → free_step s t h ≡ Ok e →
    Lead s (turns ++ t ∷ []) past (e ∷ h)
lead_push s [] t past h e lead gives = (
  e,
  subst (λ (k : List Event). free_step s t k ≡ Ok e) (sym lead) gives,
  ap (λ (k : List Event). e ∷ k) lead,
)
lead_push s (u ∷ turns) t past h e lead gives = (lead.0, lead.1, lead_push s turns t (lead.0 ∷ past) h e lead.2 gives)

-- two events that the same result gives are the same
given : {e f : Event} → ◌≡◌ {A = Result Event ScheduleKind} (Ok e) (Ok f) → e ≡ f
given q = cc

-- a result that is an event is no refusal
differ : {e : Event} {k : ScheduleKind} → ◌≡◌ {A = Result Event ScheduleKind} (Ok e) (Err k) → ⊥
differ q = cc

-- a machine that took some turns stands after their history, and where they are few no processor is cut there
pub after : (x : Plan) (turns : List Turn) (past : List Event) (m : Machine) → HasTaken x turns past m → length turns < x.limit → IsAfter x past m
after x turns past m has low =
    let size = lead_length x.script.now turns [] past has.lead in
    record { stands = has.stands; short = omega (arith, size, low) }

-- a machine that takes a turn that leads on has gone on
pub gone_on : (x : Plan) (all : List (List Event)) (turns more : List Turn) (t : Turn) (past : List Event) (number : ℕ) (m n : Machine) (b : Bool) →
    HasTaken x turns past m → length turns < x.limit → TurnLeads x all past t number → more ≡ turns ++ t ∷ [] →
    (b ≡ true → IsTaken x.script.now x.limit x.watched.items t past n.event n) → (b ≡ false → IsRefused x.script.now x.limit x.watched.items t past n) →
    HasGoneOn x all past number more n
gone_on x all turns more t past number m n b has low to is taken refused = go b refl
  where
    go : (c : Bool) → b ≡ c → HasGoneOn x all past number more n
    go true q =
        let made = taken q in
        let same : to.event ≡ n.event = given (sym to.gives ∙ made.gives) in
        let size = length-append turns (t ∷ []) in
        record {
          event = n.event;
          taken = record {
            lead = subst (λ (ts : List Turn). Lead x.script.now ts [] (n.event ∷ past)) (sym is)
                (lead_push x.script.now turns t [] past n.event has.lead made.gives);
            stands = made.stands;
            within = rw is (omega (arith, size, low));
          };
          like = subst (λ (e : Event). IsLikeOne x.script.now x.watched.items all (e ∷ past) number) same to.like;
        }
    go false q =
        let no = refused q in
        absurd (differ (sym to.gives ∙ no.refused))

-- ---- once round

-- from this history the machine went on by so many turns; where these are all, it came to a like one
pub record IsRoundTo (x : Plan) (before : List Event) (place size : ℕ) (turns : List Turn) (m : Machine) : Type 0 where
  pub around : List Event
  pub count : length around ≡ place
  pub taken : HasTaken x turns (around ++ before) m
  pub back : place ≡ size → Alike x.script.now (around ++ before) before

-- it begins with no turn
pub begun : (x : Plan) (before : List Event) (size : ℕ) (turns : List Turn) (m : Machine) → 0 < size → HasTaken x turns before m →
    IsRoundTo x before 0 size turns m
begun x before size turns m some has = record {
  around = [];
  count = refl;
  taken = has;
  back = λ q. absurd (omega (arith, some, q));
}

-- and goes on by one, the last of which leads back
pub one_more : (x : Plan) (all : List (List Event)) (first place size number : ℕ) (old new : List Turn) (m n : Machine) →
    (on : IsRoundTo x (get_or all first []) place size old m) → (place + 1 ≡ size → number ≡ first) →
    HasGoneOn x all (on.around ++ get_or all first []) number new n → IsRoundTo x (get_or all first []) (place + 1) size new n
one_more x all first place size number old new m n on back gone = record {
  around = gone.event ∷ on.around;
  count = let count = on.count in omega (arith, count);
  taken = gone.taken;
  back = λ q. subst (λ (k : ℕ). Alike x.script.now (gone.event ∷ (on.around ++ get_or all first [])) (get_or all k [])) (back q) gone.like.alike.0;
}

-- then the turns lead once round
pub whole : (x : Plan) (before : List Event) (place size : ℕ) (turns : List Turn) (m : Machine) → 0 < size → place ≡ size →
    IsRoundTo x before place size turns m → GoRound x.script.now x.limit size turns
whole x before place size turns m some end on =
    let count = on.count in
    let total = lead_length x.script.now turns [] (on.around ++ before) on.taken.lead in
    record {
      before = before;
      around = on.around;
      lead = on.taken.lead;
      run = on.taken.stands.free;
      count = count ∙ end;
      some = omega (arith, count, end, some);
      total = omega (arith, total);
      within = on.taken.within;
      alike = on.back end;
    }

-- ---- what that tells

-- the histories from which the events lead on, the newest first
abbrev histories : List Event → List Event → List (List Event)
histories [] before = []
histories (e ∷ around) before = (around ++ before) ∷ histories around before

module _ (s : Script) (all : List (List Event)) (before : List Event) where
  -- each of them goes on to the one before it in the list, and the first to where this history leads
  each_goes : (around : List Event) → IsFreeRun s (around ++ before) → Among (λ k. Alike s (around ++ before) k) all →
      ((h : List Event) → Among (λ k. Alike s h k) (histories around before) → Among (λ k. Alike s h k) all) →
      Each (GoesOn s all) (histories around before)
  each_goes [] run to into = tt
  each_goes (e ∷ around) run to into = (
    (run.1, (e, run.0, to)),
    each_goes around run.1 (into (around ++ before) (inl (alike_self s (around ++ before)))) (λ h a. into h (inr a)),
  )

-- what is like the first history is like one of them
back_to : (s : Script) (before h : List Event) (around : List Event) → 0 < length around → Alike s h before →
    Among (λ k. Alike s h k) (histories around before)
back_to s before h [] some like = absurd (omega (arith, some))
back_to s before h (e ∷ []) some like = inl like
back_to s before h (e ∷ f ∷ around) some like = inr (back_to s before h (f ∷ around) (omega arith) like)

-- where turns lead once round, there are runs of every length
pub endless : RoundsAreEndless
endless s limit size turns g = go g.around g.run g.some g.alike
  where
    go : (around : List Event) → IsFreeRun s (around ++ g.before) → 0 < length around → Alike s (around ++ g.before) g.before → IsEndless s
    go [] run some like = absurd (omega (arith, some))
    go (e ∷ around) run some like =
        rounds_fail s (around ++ g.before) (histories around g.before)
        (each_goes s (histories (e ∷ around) g.before) g.before (e ∷ around) run (back_to s g.before (e ∷ (around ++ g.before)) (e ∷ around) some like)
        (λ h a. a))
