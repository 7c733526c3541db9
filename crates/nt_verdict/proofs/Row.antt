-- The worked row raise-queue-lower: its histories are a line, so a closed list, and what they show is computed.
use Rattle.std.proofs.Common.{inl, inr, subst}
use Rattle.std.specs.Prelude.{List, Some, [], false, refl, true, ◌∷◌, ◌≡◌, ◌⊎◌}
use Rattle.nt_event.specs.declared.commands.Command.TheVariants as cmd
use Rattle.nt_event.specs.declared.commands.Reply.TheVariants.{Done}
use Rattle.nt_event.specs.declared.events.Event.{Event}
use Rattle.nt_event.specs.declared.events.What.TheVariants.{Call}
use Rattle.nt_event.specs.declared.scripts.Script.{Script}
use Rattle.nt_event.specs.Lists.{table_from}
use Rattle.nt_rows.specs.RaiseQueueLower.{d, main, script}
use Rattle.nt_rows.specs.Rows.{event}
use Rattle.nt_alike.specs.Ends.{is_quiet}
use Rattle.nt_alike.specs.Free.{MayCome}
use Rattle.nt_alike.specs.Lists.{Among, Each}
use Rattle.nt_alike.specs.RaiseQueueLower.{dpc_begun, events_left, histories, rested}
use Rattle.nt_alike.proofs.Line.{EndsAt, GoesTo, Line}
use Rattle.nt_alike.proofs.Lists.{among_map}
use Rattle.nt_alike.proofs.RaiseQueueLower.{later, line, ranked, run_noted}
use Rattle.nt_alike.proofs.Relation.{alike_self}
use Rattle.nt_alike.specs.RaiseQueueLower.{last_level}
use Rattle.nt_expect.specs.declared.expectations.Activity.TheVariants as act
use Rattle.nt_expect.specs.declared.expectations.Expectation.{Expectation}
use Rattle.nt_expect.specs.declared.expectations.Expectation.TheVariants.{Always, AlwaysEnds, Never, NeverTwice, NeverWaitsDpc}
use Rattle.nt_expect.specs.declared.expectations.Watched.{Watched}
use Rattle.nt_expect.specs.declared.expectations.Watched.TheVariants.{Begin, Note}
use Rattle.nt_expect.specs.Meaning.{ShowsAt, ShowsAtEnd}
use Rattle.nt_verdict.specs.Closed.{AlikeWatching, CameAlike, IsClosed, LeadsTo, NoneShows}
use Rattle.nt_verdict.specs.Row.{RowFails, RowIsClosed, RowKeeps}
use Rattle.nt_verdict.proofs.Rounds.{shown_fails}
use Rattle.nt_verdict.proofs.Verdicts.{tell}

-- ---- a line is a closed list

module _ (s : Script) (watched : List Watched) (all : List (List Event)) where
  came_self : (xs : List Watched) (h : List Event) → Each (CameAlike h h) xs
  came_self [] h = tt
  came_self (x ∷ xs) h = ((λ m. m, λ m. m), came_self xs h)

  self : (h : List Event) → AlikeWatching s watched h h
  self h = (alike_self s h, came_self watched h)

  leads : (k : List Event) (more : List (List Event)) → Line s k more →
      ((x : List Event) → Among (λ y. x ≡ y) (k ∷ more) → Among (λ y. x ≡ y) all) → Each (LeadsTo s watched all) (k ∷ more)
  leads k [] (EndsAt r none) inside = ((r, λ f m. absurd (none f m)), tt)
  leads k (to ∷ more) (GoesTo r on line) inside = (
    (
      r,
      λ f m. among_map (λ y. f ∷ k ≡ y) (λ x. AlikeWatching s watched (f ∷ k) x) all
          (λ x e. subst (AlikeWatching s watched (f ∷ k)) e (self (f ∷ k))) (inside (f ∷ k) (inr (inl (on f m)))),
    ),
    leads to more line (λ x a. inside x (inr a)),
  )

-- histories that are a line from the empty one are a closed list, whatever is watched for
line_closed : (s : Script) (watched : List Watched) (more : List (List Event)) → Line s [] more → IsClosed s watched ([] ∷ more)
line_closed s watched more line =
    record {
      opening = inl (self s watched more []);
      each = leads s watched ([] ∷ more) [] more line (λ x a. a);
    }

-- the histories of the worked row raise-queue-lower are a closed list, whatever is watched for
pub closed : RowIsClosed
unfolding later
closed watched = line_closed script watched later line

-- ---- what shows at an event

-- that the newest event shows it
shows : Script → Expectation → List Event → Type 0
shows s x [] = ⊥
shows s x (e ∷ past) = ShowsAt s x e past

-- in a line of histories nothing may come that shows, if the newest event of none after the first does
none_found : (s : Script) (x : Expectation) (k : List Event) (more : List (List Event)) → Line s k more → Each (λ h. shows s x h → ⊥) more →
    Each (λ h. (f : Event) → MayCome s f h → ShowsAt s x f h → ⊥) (k ∷ more)
unfolding shows
none_found s x k [] (EndsAt r none) h = (λ f m shown. none f m, tt)
none_found s x k (to ∷ more) (GoesTo r on line) h =
    (λ f m shown. h.0 (subst (shows s x) (on f m) shown), none_found s x to more line h.1)

-- ---- the verdicts

-- from false being true anything follows
no : {X : Type 0} → false ≡ true → X
no q = cc

-- all but the last are not quiet
at_end : (x : Expectation) → (ShowsAtEnd script x rested → ⊥) → Each (λ k. is_quiet script k ≡ true → ShowsAtEnd script x k → ⊥) histories
unfolding table_from
at_end x none = (no, (no, (no, (no, (no, (no, (no, (no, (no, (no, (no, (λ q. none, tt))))))))))))

-- if no event shows a failure of an expectation, none that may come after the histories does
nothing_on : (x : Expectation) → ((e : Event) (past : List Event) → ShowsAt script x e past → ⊥) →
    Each (λ k. (f : Event) → MayCome script f k → ShowsAt script x f k → ⊥) histories
nothing_on x none = all histories
  where
    all : (hs : List (List Event)) → Each (λ k. (f : Event) → MayCome script f k → ShowsAt script x f k → ⊥) hs
    all [] = tt
    all (k ∷ hs) = ((λ f m. none f k), all hs)

-- no history shows that the DPC begins twice
twice : NoneShows script (NeverTwice (Begin (act.Dpc d))) histories
unfolding shows later
twice =
    record {
      on = none_found script (NeverTwice (Begin (act.Dpc d))) [] later line
          (λ m. m.0, (λ m. m.0, (λ m. m.0, (λ m. m.0, (λ m. before m.1, (λ m. m.0, (λ m. m.0, (λ m. m.0, (λ m. m.0, (λ m. m.0, (λ m. m.0, tt)))))))))));
      quiet = at_end (NeverTwice (Begin (act.Dpc d))) (λ m. m);
      ends = λ q. cc;
    }
  where
    before : ⊥ ⊎ (⊥ ⊎ (⊥ ⊎ (⊥ ⊎ ⊥))) → ⊥
    before (inl x) = x
    before (inr (inl x)) = x
    before (inr (inr (inl x))) = x
    before (inr (inr (inr (inl x)))) = x
    before (inr (inr (inr (inr x)))) = x

-- no history shows that the DPC waits
waits : NoneShows script (NeverWaitsDpc d) histories
unfolding table_from
waits =
    record {
      on = nothing_on (NeverWaitsDpc d) (λ e past m. m);
      quiet = at_end (NeverWaitsDpc d) no;
      ends = λ q. cc;
    }

-- no history shows that the note 7 does not always come
noted : NoneShows script (Always (Note 7)) histories
noted =
    record {
      on = nothing_on (Always (Note 7)) (λ e past m. m);
      quiet = at_end (Always (Note 7)) (λ m. m (inr (inr (inr (inr (inr (inl refl)))))));
      ends = λ q. cc;
    }

-- no history shows that the run does not always end
ending : NoneShows script AlwaysEnds histories
ending =
    record {
      on = nothing_on AlwaysEnds (λ e past m. m);
      quiet = at_end AlwaysEnds (λ m. m);
      ends = λ q. record { monitor = last_level; rank = events_left; bound = 11; ranked = ranked last_level };
    }

-- in the row the DPC begins once at most, leaves the queue and has noted 7 at the end, and every run ends
pub keeps : RowKeeps
keeps = (
  tell script (Begin (act.Dpc d) ∷ []) (NeverTwice (Begin (act.Dpc d))) histories refl (inl refl, tt) (closed (Begin (act.Dpc d) ∷ [])) twice,
  (
    tell script [] (NeverWaitsDpc d) histories refl tt (closed []) waits,
    (
      tell script (Note 7 ∷ []) (Always (Note 7)) histories refl (inl refl, tt) (closed (Note 7 ∷ [])) noted,
      (tell script [] AlwaysEnds histories refl tt (closed []) ending, tt),
    ),
  ),
)

-- in the worked row the expectation that 7 is never noted fails
pub fails : RowFails
fails =
    shown_fails script (Never (Note 7)) dpc_begun run_noted.1 (inl (event 0 (Some main) 2 (Call 4 (cmd.Note 7) Done), run_noted.0, refl))
