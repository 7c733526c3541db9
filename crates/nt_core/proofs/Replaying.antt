-- Replays are settled runs.
use Rattle.std.proofs.Common.{ap, subst, sym, ◌∙◌}
use Rattle.std.proofs.lemmas.List.{append-nil, append_assoc, map_push, reverse-append}
use Rattle.std.specs.Prelude.{Bool, Err, List, Ok, Result, [], false, if◌then◌else◌, length, map, refl, reverse, suc, true, ℕ, ◌++◌, ◌∷◌, ◌≡◌}
use Rattle.nt_event.specs.declared.events.Event.{Event}
use Rattle.nt_event.specs.declared.events.ScheduleKind.{ScheduleKind}
use Rattle.nt_event.specs.declared.events.ScheduleKind.TheVariants.{Unfinished}
use Rattle.nt_event.specs.declared.events.Turn.{Turn}
use Rattle.nt_event.specs.declared.scripts.Script.{Script}
use Rattle.nt_event.specs.Robin.{is_settled}
use Rattle.nt_event.specs.Step.{IsRun, step, turn_of, turns}
use Rattle.nt_runs.proofs.Turns.{run_grows, turn_same}
use Rattle.nt_core.specs.Replays.{goes_on, refused_at, replayed, replayed_from}

-- the turns of a history with one more event
turns_more : (e : Event) (past : List Event) → turns (e ∷ past) ≡ turns past ++ turn_of e ∷ []
turns_more e past = ap (map turn_of) (reverse-append (e ∷ []) past) ∙ map_push turn_of (reverse past) e

-- the turns of a history with one more event, and then more, are the old turns, its turn, and the more
turns_then : (e : Event) (past : List Event) (ts : List Turn) → turns (e ∷ past) ++ ts ≡ turns past ++ turn_of e ∷ ts
turns_then e past ts = ap (λ (x : List Turn). x ++ ts) (turns_more e past) ∙ append_assoc (turns past) (turn_of e ∷ []) ts

-- ---- a settled run is replayed by its turns

-- the turns of a run give the run, and the others are taken after it
replay_through : (s : Script) (limit : ℕ) (past : List Event) (ts : List Turn) → IsRun s limit past → replayed s limit (turns past ++ ts)
    ≡ replayed_from s limit (length past) past ts
replay_through s limit [] ts r = refl
replay_through s limit (e ∷ past) ts r =
    ap (replayed s limit) (turns_then e past ts)
    ∙ (replay_through s limit past (turn_of e ∷ ts) r.1 ∙ ap
    (λ (x : Result Event ScheduleKind). goes_on (length past) x (λ e. replayed_from s limit (suc (length past)) (e ∷ past) ts)) r.0)

-- replaying the turns of a settled run gives that run
pub runs_replay : (s : Script) (limit : ℕ) (h : List Event) → IsRun s limit h → is_settled s limit h ≡ true → replayed s limit (turns h) ≡ Ok h
runs_replay s limit h r d =
    ap (replayed s limit) (sym (append-nil (turns h)))
    ∙ (replay_through s limit h [] r ∙ ap (λ (b : Bool). if b then Ok h else refused_at (length h) Unfinished) d)

-- ---- a replay is a settled run of its turns

pub record IsRunOf (s : Script) (limit : ℕ) (list : List Turn) (h : List Event) : Type 0 where
  pub run : IsRun s limit h
  pub turns_are : turns h ≡ list
  pub settled : is_settled s limit h ≡ true

-- case: the schedule is at its end, and the history is settled or the replay unfinished
at_end : (s : Script) (limit n : ℕ) (past h : List Event) (b : Bool) → is_settled s limit past ≡ b → IsRun s limit past →
    (if b then Ok past else refused_at n Unfinished) ≡ Ok h → IsRunOf s limit (turns past ++ []) h
at_end s limit n past h false d r e = absurd cc
at_end s limit n past h true d r e =
    let i : past ≡ h = cc in
    subst (λ (x : List Event). IsRunOf s limit (turns past ++ []) x) i (record { run = r; turns_are = sym (append-nil (turns past)); settled = d })

-- a replay that succeeds from a run is a settled run of the turns taken and those that were left
replay_runs : (s : Script) (limit n : ℕ) (past : List Event) (list : List Turn) (h : List Event) → IsRun s limit past → replayed_from s limit n past list
    ≡ Ok h → IsRunOf s limit (turns past ++ list) h
replay_runs s limit n past [] h r e = at_end s limit n past h (is_settled s limit past) refl r e
replay_runs s limit n past (t ∷ ts) h r e =
    go (step s limit t past) refl e (λ f q k. replay_runs s limit (suc n) (f ∷ past) ts h q k)
  where
    go : (x : Result Event ScheduleKind) → step s limit t past ≡ x → goes_on n x (λ f. replayed_from s limit (suc n) (f ∷ past) ts) ≡ Ok h →
        ((f : Event) → IsRun s limit (f ∷ past) → replayed_from s limit (suc n) (f ∷ past) ts ≡ Ok h → IsRunOf s limit (turns (f ∷ past) ++ ts) h) →
        IsRunOf s limit (turns past ++ (t ∷ ts)) h
    go (Err k) i e ih = absurd cc
    go (Ok f) i e ih =
        subst (λ (x : List Turn). IsRunOf s limit x h) (turns_then f past ts ∙ ap (λ (u : Turn). turns past ++ u ∷ ts) (turn_same s limit t past f i))
        (ih f (run_grows s limit t past f r i) e)

-- a history that a replay of turns gives is a settled run with just these turns
pub replays_run : (s : Script) (limit : ℕ) (list : List Turn) (h : List Event) → replayed s limit list ≡ Ok h → IsRunOf s limit list h
replays_run s limit list h e = replay_runs s limit 0 [] list h tt e
