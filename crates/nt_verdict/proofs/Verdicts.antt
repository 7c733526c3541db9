-- Every run is like one of a closed list, and what shows in the one shows in the other.
use Rattle.std.proofs.Common.{ap, arith, inl, inr, subst, sym, ◌∙◌}
use Rattle.std.specs.Prelude.{List, [], refl, suc, true, ℕ, ◌++◌, ◌<◌, ◌∷◌, ◌≡◌}
use Rattle.nt_event.specs.declared.events.Event.{Event}
use Rattle.nt_event.specs.declared.scripts.Script.{Script}
use Rattle.nt_alike.specs.Ends.{is_quiet}
use Rattle.nt_alike.specs.Free.{IsFreeRun, MayCome}
use Rattle.nt_alike.specs.Lists.{Among, Each}
use Rattle.nt_alike.proofs.Free.{runs_free}
use Rattle.nt_alike.proofs.GoOn.{goes}
use Rattle.nt_alike.proofs.Lists.{among_map, each_both, found}
use Rattle.nt_alike.proofs.Quiet.{quiet_same}
use Rattle.nt_alike.proofs.Questions.{stand_alike}
use Rattle.nt_alike.proofs.Ranks.{no_longer}
use Rattle.nt_alike.proofs.Relation.{alike_trans}
use Rattle.nt_expect.specs.declared.expectations.Expectation.{Expectation}
use Rattle.nt_expect.specs.declared.expectations.Expectation.TheVariants.{Always, AlwaysEnds, Never, NeverAbove, NeverAfter, NeverBefore}
use Rattle.nt_expect.specs.declared.expectations.Expectation.TheVariants.{NeverBlocked, NeverOn, NeverSpins, NeverTwice, NeverWaitsApc}
use Rattle.nt_expect.specs.declared.expectations.Expectation.TheVariants.{NeverWaitsDpc, NeverWith}
use Rattle.nt_expect.specs.declared.expectations.Watched.{Watched}
use Rattle.nt_expect.specs.Expectations.{expectation_fits}
use Rattle.nt_expect.specs.Meaning.{IsShownAt, Matches, ShowsAt, ShowsAtEnd}
use Rattle.nt_verdict.specs.Closed.{AlikeEndAlike, AlikeShowAlike, AlikeWatching, AreWatched, CameAlike, ClosedListsTell, IsClosed, LeadsTo, NoneShows}
use Rattle.nt_verdict.specs.Fails.{Fails, IsShown}
use Rattle.nt_verdict.proofs.Events.{all_came_same, all_came_trans, matches_same}
use Rattle.nt_verdict.proofs.States.{blocked_same, dpc_waits_same, quiet_is, spins_same, together_same}

-- of one of these the same came
came_of : (h k : List Event) (x : Watched) (all : List Watched) → Among (λ z. x ≡ z) all → Each (CameAlike h k) all → CameAlike h k x
came_of h k x [] a c = absurd a
came_of h k x (y ∷ all) (inl q) c = subst (CameAlike h k) (sym q) c.0
came_of h k x (y ∷ all) (inr a) c = came_of h k x all a c.1

-- ---- what shows

-- in alike histories in which the same watched events came, like events show an expectation alike
pub show_alike : AlikeShowAlike
show_alike s watched x h k e f are al q next m = go x are m
  where
    came : (y : Watched) → Among (λ z. y ≡ z) watched → CameAlike h k y
    came y a = came_of h k y watched a al.1

    matches : (y : Watched) → Among (λ z. y ≡ z) watched → Matches y e h → Matches y f k
    matches y a m = matches_same y e f h k q (came y a).1 m

    go : (x : Expectation) → AreWatched watched x → ShowsAt s x e h → ShowsAt s x f k
    go (Never y) a m = matches y a.0 m
    go (NeverAfter y z) a m = (matches y a.0 m.0, (came z a.1.0).0 m.1)
    go (NeverBefore y z) a m = (matches y a.0 m.0, λ c. m.1 ((came z a.1.0).1 c))
    go (NeverTwice y) a m = (matches y a.0 m.0, (came y a.0).0 m.1)
    go (NeverAbove y level) a m = (matches y a.0 m.0, subst (λ (n : ℕ). level < n) (ap (λ (z : Event). z.level) q) m.1)
    go (NeverOn y p) a m = (matches y a.0 m.0, sym (ap (λ (z : Event). z.cpu) q) ∙ m.1)
    go (NeverWith b c) a m = together_same s (e ∷ h) (f ∷ k) next b c m
    go x a m = absurd m

-- alike histories in which the same watched events came show an expectation alike at a quiet end
pub end_alike : AlikeEndAlike
end_alike s watched x h k fits are al m = go x fits are m
  where
    go : (x : Expectation) → expectation_fits s x ≡ true → AreWatched watched x → ShowsAtEnd s x h → ShowsAtEnd s x k
    go (NeverWaitsDpc d) l a m = sym (dpc_waits_same s h k al.0 d l) ∙ m
    go (NeverWaitsApc d) l a m = sym ((stand_alike s h k al.0).apcs d) ∙ m
    go (NeverBlocked t) l a m = sym (blocked_same s h k al.0 t) ∙ m
    go (NeverSpins x) l a m = spins_same s h k al.0 x l m
    go (Always y) l a m = λ c. m ((came_of h k y watched a.0 al.1).1 c)
    go x l a m = absurd m

-- ---- every run is like one of the list

module _ (s : Script) (watched : List Watched) (all : List (List Event)) (closed : IsClosed s watched all) where
  held : (h : List Event) → IsFreeRun s h → Among (λ x. AlikeWatching s watched h x) all
  held [] r = closed.opening
  held (e ∷ h) r =
      found (LeadsTo s watched all) (λ x. AlikeWatching s watched h x) all (Among (λ x. AlikeWatching s watched (e ∷ h) x) all) closed.each (held h r.1)
      (λ k to l.
      let o = goes s h k r.1 to.0 l.0 e r.0 in
      among_map (λ x. AlikeWatching s watched (o.event ∷ k) x) (λ x. AlikeWatching s watched (e ∷ h) x) all
      (λ x m. (
        alike_trans s (e ∷ h) (o.event ∷ k) x o.alike m.0,
        all_came_trans watched (e ∷ h) (o.event ∷ k) x (all_came_same watched e o.event h k o.same l.1) m.1,
      )) (to.1 o.event o.comes))

  module _ (x : Expectation) (are : AreWatched watched x) (none : NoneShows s x all) where
    no_event : (e : Event) (past : List Event) → IsFreeRun s (e ∷ past) → ShowsAt s x e past → ⊥
    no_event e past r m =
        found (λ k. LeadsTo s watched all k × ((f : Event) → MayCome s f k → ShowsAt s x f k → ⊥)) (λ k. AlikeWatching s watched past k) all ⊥
        (each_both (LeadsTo s watched all) (λ k. (f : Event) → MayCome s f k → ShowsAt s x f k → ⊥) all closed.each none.on) (held past r.1)
        (λ k both l.
        let o = goes s past k r.1 both.0.0 l.0 e r.0 in
        both.1 o.event o.comes (show_alike s watched x past k e o.event are l o.same o.alike m))

    no_end : expectation_fits s x ≡ true → (past : List Event) → IsFreeRun s past → is_quiet s past ≡ true → ShowsAtEnd s x past → ⊥
    no_end fits past r quiet m =
        found (λ k. LeadsTo s watched all k × (is_quiet s k ≡ true → ShowsAtEnd s x k → ⊥)) (λ k. AlikeWatching s watched past k) all ⊥
        (each_both (LeadsTo s watched all) (λ k. is_quiet s k ≡ true → ShowsAtEnd s x k → ⊥) all closed.each none.quiet) (held past r)
        (λ k both l.
        both.1 (sym (quiet_same s past k r both.0.0 l.0) ∙ quiet) (end_alike s watched x past k fits are l m))

-- the front of a free run is one
front : (s : Script) (newer past : List Event) → IsFreeRun s (newer ++ past) → IsFreeRun s past
front s [] past r = r
front s (e ∷ newer) past r = front s newer past r.1

-- if no history of a closed list shows an expectation failing, it fails in no run under any schedule and limit
pub tell : ClosedListsTell
tell s watched x all fits are closed none = go x fits are none
  where
    unseen : (x : Expectation) → expectation_fits s x ≡ true → AreWatched watched x → NoneShows s x all → IsShown s x → ⊥
    unseen x fits are none shown = at shown.shown
      where
        run : IsFreeRun s shown.history
        run = runs_free s shown.limit shown.history shown.run shown.looks

        at : IsShownAt s shown.limit x shown.history shown.number → ⊥
        at (inl m) =
            let e = m.0 in
            let past = m.1 in
            no_event s watched all closed x are none e past (front s m.2.newer (e ∷ past) (subst (IsFreeRun s) m.2.is run)) m.3
        at (inr m) = no_end s watched all closed x are none fits shown.history run (quiet_is s shown.limit shown.history m.0) m.1

    go : (x : Expectation) → expectation_fits s x ≡ true → AreWatched watched x → NoneShows s x all → Fails s x → ⊥
    go AlwaysEnds fits are none endless =
        let r = none.ends refl in
        let run = endless (suc r.bound) in
        let l = no_longer s r.monitor r.rank r.bound all r.ranked run.0 run.1 run.2 run.3 in
        let n = run.4 in
        omega (arith, l, n)
    go x fits are none shown = unseen x fits are none shown
