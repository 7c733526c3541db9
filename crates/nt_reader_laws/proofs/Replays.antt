-- Which turn a replay refuses.
use Rattle.nt_core.specs.Replays.{Refused, goes_on, refused_at, replayed, replayed_from}
use Rattle.nt_event.specs.Robin.{is_settled}
use Rattle.nt_event.specs.Step.{IsRun, step, turn_of, turns}
use Rattle.nt_event.specs.declared.events.Event.{Event}
use Rattle.nt_event.specs.declared.events.ScheduleKind.{ScheduleKind}
use Rattle.nt_event.specs.declared.events.ScheduleKind.TheVariants.{Unfinished}
use Rattle.nt_event.specs.declared.events.Turn.{Turn}
use Rattle.nt_event.specs.declared.scripts.Script.{Script}
use Rattle.nt_reader_laws.specs.Replays.{IsUnsettled, RefusesTurn, ReplaysAreRefused}
use Rattle.nt_runs.proofs.Turns.{run_grows, turn_same}
use Rattle.std.proofs.Common.{Result, ap, arith, inl, inr, map, refl, subst, sym, ◌++◌, ◌∙◌}
use Rattle.std.proofs.lemmas.List.{append-nil, append_assoc, length-append, map_push, reverse-append}
use Rattle.std.specs.Prelude.{Bool, Err, List, Ok, [], false, if◌then◌else◌, length, reverse, suc, true, ℕ, ◌∷◌, ◌≡◌, ◌⊎◌}

-- ---- the turns of a history with one more event

-- the turns of a history with one event more are those of before and that event's turn
turns_more : (e : Event) (past : List Event) → turns (e ∷ past) ≡ turns past ++ turn_of e ∷ []
turns_more e past = ap (map turn_of) (reverse-append (e ∷ []) past) ∙ map_push turn_of (reverse past) e

-- turns after a history with one event more are those of before, that event's turn and then these
turns_then : (e : Event) (past : List Event) (ts : List Turn) → turns (e ∷ past) ++ ts ≡ turns past ++ turn_of e ∷ ts
turns_then e past ts = ap (λ (x : List Turn). x ++ ts) (turns_more e past) ∙ append_assoc (turns past) (turn_of e ∷ []) ts

-- a history has as many turns as events
turns_length : (past : List Event) → length (turns past) ≡ length past
turns_length [] = refl
turns_length (e ∷ past) =
    let h = turns_length past in
    ap length (turns_more e past) ∙ (length-append (turns past) (turn_of e ∷ []) ∙ omega (arith, h))

-- ---- what a replay that is refused says

-- case: no turn is left, and the replay is refused since the run is not settled
at_end : (s : Script) (limit n : ℕ) (past : List Event) (r : Refused) (b : Bool) → is_settled s limit past ≡ b → IsRun s limit past → n ≡ length past →
    (if b then Ok past else refused_at n Unfinished) ≡ Err r → IsUnsettled s limit (turns past ++ []) r
at_end s limit n past r true d run m e = absurd cc
at_end s limit n past r false d run m e =
    let same : record { at = n; kind = Unfinished } ≡ r = cc in
    subst (IsUnsettled s limit (turns past ++ [])) same (record {
      history = past;
      run = run;
      turns = sym (append-nil (turns past));
      unsettled = d;
      place = m ∙ (sym (turns_length past) ∙ ap length (sym (append-nil (turns past))));
      kind = refl;
    })

-- a replay refused after a run has a turn that is refused, or ends unsettled
refused_from : (s : Script) (limit n : ℕ) (past : List Event) (ts : List Turn) (r : Refused) → IsRun s limit past → n ≡ length past →
    replayed_from s limit n past ts ≡ Err r → RefusesTurn s limit (turns past ++ ts) r ⊎ IsUnsettled s limit (turns past ++ ts) r
refused_from s limit n past [] r run m e = inr (at_end s limit n past r (is_settled s limit past) refl run m e)
refused_from s limit n past (t ∷ ts) r run m e =
    go (step s limit t past) refl e (λ f q k. refused_from s limit (suc n) (f ∷ past) ts r q (omega (arith, m)) k)
  where
    go : (x : Result Event ScheduleKind) → step s limit t past ≡ x → goes_on n x (λ f. replayed_from s limit (suc n) (f ∷ past) ts) ≡ Err r →
        ((f : Event) → IsRun s limit (f ∷ past) → replayed_from s limit (suc n) (f ∷ past) ts ≡ Err r →
        RefusesTurn s limit (turns (f ∷ past) ++ ts) r ⊎ IsUnsettled s limit (turns (f ∷ past) ++ ts) r) →
        RefusesTurn s limit (turns past ++ t ∷ ts) r ⊎ IsUnsettled s limit (turns past ++ t ∷ ts) r
    go (Err k) i e ih =
        let same : record { at = n; kind = k } ≡ r = cc in
        inl (subst (RefusesTurn s limit (turns past ++ t ∷ ts)) same (record {
          before = turns past;
          turn = t;
          after = ts;
          parts = refl;
          place = m ∙ sym (turns_length past);
          history = past;
          run = run;
          turns = refl;
          refused = i;
        }))
    go (Ok f) i e ih =
        subst (λ (x : List Turn). RefusesTurn s limit x r ⊎ IsUnsettled s limit x r)
        (turns_then f past ts ∙ ap (λ (u : Turn). turns past ++ u ∷ ts) (turn_same s limit t past f i)) (ih f (run_grows s limit t past f run i) e)

-- ---- and what it is said of

-- replaying the turns of a run and then others is replaying these from where the run ends
replay_through : (s : Script) (limit : ℕ) (past : List Event) (ts : List Turn) → IsRun s limit past → replayed s limit (turns past ++ ts)
    ≡ replayed_from s limit (length past) past ts
replay_through s limit [] ts r = refl
replay_through s limit (e ∷ past) ts r =
    ap (replayed s limit) (turns_then e past ts)
    ∙ (replay_through s limit past (turn_of e ∷ ts) r.1 ∙ ap
    (λ (x : Result Event ScheduleKind). goes_on (length past) x (λ e. replayed_from s limit (suc (length past)) (e ∷ past) ts)) r.0)

-- if a turn of a list is refused, the replay of the list is
refusing_back : (s : Script) (limit : ℕ) (list : List Turn) (r : Refused) → RefusesTurn s limit list r → replayed s limit list ≡ Err r
refusing_back s limit list r h =
    let place : length h.history ≡ r.at = sym (turns_length h.history) ∙ (ap length h.turns ∙ sym h.place) in
    ap (replayed s limit) (h.parts ∙ ap (λ (x : List Turn). x ++ h.turn ∷ h.after) (sym h.turns))
    ∙ (replay_through s limit h.history (h.turn ∷ h.after) h.run
    ∙ (ap (λ (x : Result Event ScheduleKind). goes_on (length h.history) x (λ e. replayed_from s limit (suc (length h.history)) (e ∷ h.history) h.after))
    h.refused
    ∙ ap (λ (n : ℕ). refused_at n r.kind) place))

-- if a list of turns ends unsettled, its replay is refused
unsettled_back : (s : Script) (limit : ℕ) (list : List Turn) (r : Refused) → IsUnsettled s limit list r → replayed s limit list ≡ Err r
unsettled_back s limit list r h =
    let place : length h.history ≡ r.at = sym (turns_length h.history) ∙ (ap length h.turns ∙ sym h.place) in
    ap (replayed s limit) (sym h.turns ∙ sym (append-nil (turns h.history)))
    ∙ (replay_through s limit h.history [] h.run
    ∙ (ap (λ (b : Bool). if b then Ok h.history else refused_at (length h.history) Unfinished) h.unsettled
    ∙ (ap (λ (n : ℕ). refused_at n Unfinished) place ∙ ap (λ (k : ScheduleKind). refused_at r.at k) (sym h.kind))))

-- a replay is refused exactly at its first refused turn, or at its end if the run isn't settled
pub replays_refused : ReplaysAreRefused
replays_refused s limit list r = ((λ e. refused_from s limit 0 [] list r tt refl e), back)
  where
    back : RefusesTurn s limit list r ⊎ IsUnsettled s limit list r → replayed s limit list ≡ Err r
    back (inl h) = refusing_back s limit list r h
    back (inr h) = unsettled_back s limit list r h
