-- What an event leaves of the states is as sound as they were.
use Rattle.std.proofs.Common.{◌≡◌, ◌∷◌, ◌<◌, Bool, IsTrue, List, Option, Some, ap, eqb, false, get_or, if◌then◌else◌, length, not, refl, replicate, set, subst}
use Rattle.std.proofs.Common.{suc, sym, true, zero, ℕ, ◌∙◌}
use Rattle.std.proofs.lemmas.Bool.{eqb-false, eqb-true}
use Rattle.std.proofs.lemmas.List.{get_or-set_other, get_or-set_same, length-replicate, length-set}
use Rattle.std.proofs.lemmas.List.Elements.{All-cons, All-filter, All-from_get_or, All-nil, All-weaker}
use Rattle.std.specs.List.{All}
use Rattle.nt_event.specs.declared.commands.Command.TheVariants.{InsertApc, RemoveApc}
use Rattle.nt_event.specs.declared.commands.Reply.TheVariants.{Yes}
use Rattle.nt_event.specs.declared.events.Begun.TheVariants.{Apc}
use Rattle.nt_event.specs.declared.events.What.{What}
use Rattle.nt_event.specs.declared.events.What.TheVariants.{Begin, Call, End, Flush}
use Rattle.nt_event.specs.declared.frames.Body.{Body}
use Rattle.nt_event.specs.declared.frames.Body.TheVariants.{Base as OnBase}
use Rattle.nt_event.specs.declared.jobs.Stand.{Stand}
use Rattle.nt_event.specs.declared.numbers.ApcNo.{ApcNo}
use Rattle.nt_event.specs.declared.numbers.ThreadNo.{ThreadNo}
use Rattle.nt_event.specs.declared.scripts.Script.{Script}
use Rattle.nt_event.specs.Apcs.{ApcQueues, is_of_apc, without_apc}
use Rattle.nt_event.specs.Routines.{kind_of, owner_of}
use Rattle.nt_event.specs.Script.{fits}
use Rattle.nt_event.specs.Threads.{ThreadFacts, start_facts}
use Rattle.nt_event.specs.Waits.{made_facts, new_pick}
use Rattle.nt_event.specs.Lists.{table, table_from}
use Rattle.nt_states.specs.ThreadFits.{CanTell, named_thread, told_facts}
use Rattle.nt_states.specs.ThreadLanes.{ThreadLanes, facts_in}
use Rattle.nt_thread_lanes.specs.Sound.{AreOurs, IsOurs, IsSound}
use Rattle.nt_thread_lanes.proofs.Changed.{ended_queue, made_changes, made_queue, told_changes, told_queue}

-- equal options of threads hold equal threads
some_thread : (u t : ThreadNo) → Some u ≡ Some t → u ≡ t
some_thread u t h = cc

-- removing an APC keeps the queue's APCs those of the thread
ours_without : (s : Script) (t : ThreadNo) (a : ApcNo) (q : ApcQueues) → AreOurs s t q → AreOurs s t (without_apc a q)
ours_without s t a q h = All-filter (λ x. not (is_of_apc a x)) (IsOurs s t) q.pending h

-- the end of a frame keeps the queue's APCs those of the thread
ours_ended : (s : Script) (t : ThreadNo) (b : Option Body) (q : ApcQueues) → AreOurs s t q → AreOurs s t (ended_queue b q)
ours_ended s t (Some (OnBase u)) q h = h
ours_ended s t b q h = h

-- an event made by a thread keeps its queue's APCs its own
ours_made : (s : Script) (t : ThreadNo) (st : Stand) (w : What) (q : ApcQueues) → AreOurs s t q → AreOurs s t (made_queue st w q)
ours_made s t st (Begin (Apc a) from) q h = ours_without s t a q h
ours_made s t st (Flush a from) q h = ours_without s t a q h
ours_made s t st (End f) q h = ours_ended s t st.body q h
ours_made s t st w q h = h

-- an event that names a thread, and may, keeps that thread's queue's APCs its own
ours_told : (s : Script) (t : ThreadNo) (n : ℕ) (w : What) (z : ThreadFacts) (q : ApcQueues) → named_thread s w ≡ Some t → CanTell s w z → AreOurs s t q →
    AreOurs s t (told_queue s n w q)
ours_told s t n (Call f (InsertApc a) Yes) z q e may h =
    All-cons (IsOurs s t) (new_pick s a n) q.pending (record { apc = may.apc; kind = refl; owner = some_thread (owner_of s a) t e }) h
ours_told s t n (Call f (RemoveApc a) Yes) z q e may h = ours_without s t a q h
ours_told s t n w z q e may h = h

-- ---- the states

-- the facts of a thread where those of one are written
pub set_facts : (x : ThreadLanes) (t u : ThreadNo) (y : ThreadFacts) (b : Bool) → t.0 < length x.facts → eqb t.0 u.0 ≡ b →
    facts_in (record x { facts = set x.facts t.0 y }) u ≡ (if b then y else facts_in x u)
set_facts x t u y true h e =
    subst (λ (k : ℕ). get_or (set x.facts t.0 y) k start_facts ≡ y) (eqb-true t.0 u.0 e) (get_or-set_same x.facts t.0 y start_facts h)
set_facts x t u y false h e =
    get_or-set_other x.facts t.0 u.0 y start_facts (λ k. eqb-false t.0 u.0 e (sym k))

-- threads with equal numbers are the same
same_number : (t u : ThreadNo) → t.0 ≡ u.0 → t ≡ u
same_number t u h = λ i. record { 0 = h i }

-- the states stay sound if one thread is set with a queue of its own APCs
sound_set : (x : ThreadLanes) (t : ThreadNo) (y : ThreadFacts) → IsSound x → t.0 < length x.facts → AreOurs x.script t y.apcs →
    IsSound (record x { facts = set x.facts t.0 y })
sound_set x t y h b k = record {
  script = h.script;
  threads = length-set x.facts t.0 y ∙ h.threads;
  picks = λ u. go u (eqb t.0 u.0) refl;
} where
  go : (u : ThreadNo) (c : Bool) → eqb t.0 u.0 ≡ c → AreOurs x.script u (facts_in (record x { facts = set x.facts t.0 y }) u).apcs
  go u true e =
      let mine : AreOurs x.script u y.apcs = subst (λ (v : ThreadNo). AreOurs x.script v y.apcs) (same_number t u (eqb-true t.0 u.0 e)) k in
      subst (λ (z : ThreadFacts). AreOurs x.script u z.apcs) (sym (set_facts x t u y true b e)) mine
  go u false e = subst (λ (z : ThreadFacts). AreOurs x.script u z.apcs) (sym (set_facts x t u y false b e)) (h.picks u)

-- a thread makes an event
pub sound_made : (x : ThreadLanes) (t : ThreadNo) (n : ℕ) (st : Stand) (w : What) → IsSound x → t.0 < length x.facts →
    IsSound (record x { facts = set x.facts t.0 (made_facts x.script n st w (facts_in x t)) })
sound_made x t n st w h b =
    sound_set x t (made_facts x.script n st w (facts_in x t)) h b
    (subst (λ (q : ApcQueues). AreOurs x.script t q) (sym (made_changes x.script n st w (facts_in x t)))
    (ours_made x.script t st w (facts_in x t).apcs (h.picks t)))

-- an event names a thread
pub sound_told : (x : ThreadLanes) (t : ThreadNo) (n : ℕ) (w : What) → IsSound x → t.0 < length x.facts → named_thread x.script w ≡ Some t →
    CanTell x.script w (facts_in x t) → IsSound (record x { facts = set x.facts t.0 (told_facts x.script n w (facts_in x t)) })
sound_told x t n w h b e may =
    sound_set x t (told_facts x.script n w (facts_in x t)) h b
    (subst (λ (q : ApcQueues). AreOurs x.script t q) (sym (told_changes x.script n w (facts_in x t)))
    (ours_told x.script t n w (facts_in x t) (facts_in x t).apcs e may (h.picks t)))

-- in sound states each pending APC has the kind that the script gives its object
pub kinds_hold : (x : ThreadLanes) → IsSound x → All (λ y. All (λ pick. pick.kind ≡ kind_of x.script pick.apc) y.apcs.pending) x.facts
kinds_hold x h =
    All-from_get_or (λ y. All (λ pick. pick.kind ≡ kind_of x.script pick.apc) y.apcs.pending) x.facts start_facts
    (λ i k. All-weaker (IsOurs x.script (record { 0 = i })) (λ pick. pick.kind ≡ kind_of x.script pick.apc) (λ pick q. q.kind)
    (get_or x.facts i start_facts).apcs.pending (h.picks (record { 0 = i })))

-- ---- new threads have no APCs

-- a list of start states is the table of start states from any number on
starts_from : (k n : ℕ) → replicate n start_facts ≡ table_from k n (λ t. start_facts)
unfolding table_from
starts_from k zero = refl
starts_from k (suc n) = ap (λ (xs : List ThreadFacts). start_facts ∷ xs) (starts_from (suc k) n)

-- a list of start facts repeated is the table of start facts
pub starts : (n : ℕ) → replicate n start_facts ≡ table n (λ t. start_facts)
starts n = starts_from 0 n

-- at each place of repeated start facts, and beyond them, stand the start facts
pub start_at : (n i : ℕ) → get_or (replicate n start_facts) i start_facts ≡ start_facts
start_at zero i = refl
start_at (suc n) zero = refl
start_at (suc n) (suc i) = start_at n i

-- the start facts of a script that fits are sound
pub sound_start : (s : Script) (n : ℕ) → IsTrue (fits s) → n ≡ length s.threads → IsSound (record { script = s; facts = replicate n start_facts })
sound_start s n f k = record {
  script = f;
  threads = length-replicate n start_facts ∙ k;
  picks = λ t. subst (λ (y : ThreadFacts). AreOurs s t y.apcs) (sym (start_at n t.0)) (All-nil (IsOurs s t));
}
