-- After a turn of a processor, the processors and the floor follow the longer history.
use Rattle.std.proofs.Common.{ap, add-one, arith, sym, ◌∙◌}
use Rattle.std.proofs.lemmas.Bool.Decides.{nat_tests}
use Rattle.std.specs.Prelude.{Bool, Err, List, None, Ok, Option, Some, [], false, if◌then◌else◌, length, max, option_and_then, option_map, refl, true, ℕ, ◌&&◌}
use Rattle.std.specs.Prelude.{◌+◌, ◌<◌, ◌==◌, ◌||◌, ◌∷◌, ◌≡◌, ◌≢◌}
use Rattle.nt_event.specs.declared.events.Event.{Event}
use Rattle.nt_event.specs.declared.events.Turn.{Turn}
use Rattle.nt_event.specs.declared.events.What.{What}
use Rattle.nt_event.specs.declared.jobs.Lane.{Lane}
use Rattle.nt_event.specs.declared.jobs.Task.{Task}
use Rattle.nt_event.specs.declared.jobs.Task.TheVariants.{Alone, Shared}
use Rattle.nt_event.specs.declared.numbers.CpuNo.{CpuNo}
use Rattle.nt_event.specs.declared.scripts.Script.{Script}
use Rattle.nt_event.specs.Acting.{acted_event}
use Rattle.nt_event.specs.Frames.{due_of, time}
use Rattle.nt_event.specs.Jobs.{job_event}
use Rattle.nt_event.specs.Lanes.{Lanes, lanes_after, lanes_at, what_lanes}
use Rattle.nt_event.specs.Own.{Own, own_of, stand_in}
use Rattle.nt_event.specs.Regions.{stand_at}
use Rattle.nt_event.specs.Requests.{asked, asks_in, raised, seen_after, told_by, told_by_all}
use Rattle.nt_event.specs.Step.{event_at, is_cut}
use Rattle.nt_event.specs.Numbers.{is_of}
use Rattle.nt_event.specs.Lists.{value_at}
use Rattle.nt_event.proofs.Moves.{lanes_move, own_moves_here, own_stays}
use Rattle.nt_event.specs.Acts.{Found, Told, is_among, told_over}
use Rattle.nt_floor.specs.Views.{HasWord, IsMoved, View}
use Rattle.nt_cpu.specs.Leaves.{own_with}
use Rattle.nt_cpu.specs.Runs.{Follows, asks_at, state_of}
use Rattle.nt_cpu.specs.States.{CpuState}
use Rattle.nt_cpu.specs.Turns.{IsTurned, event_or_refusal, own_then, task_makes, turn_gives, turn_refusal, turn_task}
use Rattle.nt_cpu.specs.declared.turn.TurnRefusal.TheVariants.{NothingToDo}
use Rattle.nt_cpu.proofs.Taken.{own_with_same}

-- the event of a turn is the processor's
task_cpu : (s : Script) (p : CpuNo) (x : Own) (l : Lanes) (t : Task) (e : Event) → task_makes s p x l t ≡ Some e → e.cpu ≡ p
task_cpu s p x l (Alone w) e h =
    let i : event_at s p w x.frames ≡ e = cc in ap (λ (y : Event). y.cpu) (sym i)
task_cpu s p x l (Shared job) e h = go (job_event s (stand_in p x) l job) h
  where
    go : (o : Option What) → option_map (acted_event (stand_in p x) l) o ≡ Some e → e.cpu ≡ p
    go None k = absurd cc
    go (Some w) k =
        let i : acted_event (stand_in p x) l w ≡ e = cc in ap (λ (y : Event). y.cpu) (sym i)

-- the event that a turn gives is of the processor that takes the turn
pub gives_cpu : (c : CpuState) (l : Lanes) (t : Turn) (e : Event) → turn_gives c l t ≡ Ok e → e.cpu ≡ c.cpu
gives_cpu c l t e h = cut (is_cut c.limit c.own) h
  where
    made : (o : Option Task) → event_or_refusal (turn_refusal t) (option_and_then (task_makes c.script c.cpu c.own l) o) ≡ Ok e → e.cpu ≡ c.cpu
    made None k = absurd cc
    made (Some a) k = some (task_makes c.script c.cpu c.own l a) refl k
      where
        some : (o : Option Event) → task_makes c.script c.cpu c.own l a ≡ o → event_or_refusal (turn_refusal t) o ≡ Ok e → e.cpu ≡ c.cpu
        some None q k = absurd cc
        some (Some y) q k = let i : y ≡ e = cc in task_cpu c.script c.cpu c.own l a e (q ∙ ap Some i)

    cut : (b : Bool) → (if b then Err NothingToDo else event_or_refusal (turn_refusal t)
        (option_and_then (task_makes c.script c.cpu c.own l) (turn_task c.script c.cpu c.own t))) ≡ Ok e → e.cpu ≡ c.cpu
    cut true k = absurd cc
    cut false k = made (turn_task c.script c.cpu c.own t) k

-- ---- what is told

-- if each lane tells what the history says, so do several lanes together
told_all : (s : Script) (past : List Event) (f : Told) (xs : List Lane) (q : CpuNo) (k : ℕ) → ((x : Lane) → f x q k ≡ told_by s x q k past) →
    told_over f xs q k ≡ told_by_all s xs q k past
told_all s past f [] q k h = refl
told_all s past f (x ∷ xs) q k h =
    ap (λ (n : ℕ). max n (told_over f xs q k)) (h x) ∙ ap (λ (n : ℕ). max (told_by s x q k past) n) (told_all s past f xs q k h)

-- ---- one event

-- the states that were found are the history's
abbrev pub FoundIn : Script → List Event → Found → Type 0
FoundIn s past f = f.lanes ≡ lanes_at s past

-- an event is of the processor that made it
of_itself : (e : Event) (p : CpuNo) → e.cpu ≡ p → is_of e p ≡ true
of_itself e p c = let h : e.cpu.0 ≡ p.0 = ap (λ (q : CpuNo). q.0) c in grind (arith, nat_tests)

-- what the processor keeps moves on
pub own_moves_on : (s : Script) (limit : ℕ) (p : CpuNo) (past : List Event) (f : Found) (n : ℕ) (e : Event) → e.cpu ≡ p → n ≡ length past → FoundIn s past f →
    ((x : Lane) (k : ℕ) → k < 16 → f.told x p k ≡ told_by s x p k past) → own_then (state_of s p limit past) f n e ≡ own_of s p (e ∷ past)
own_moves_on s limit p past f n e c m l t =
    ap (λ (y : Lanes). own_with s n (due_of e.what y.timers.now) e
    (λ k. seen_after n e.what k (asks_in s (stand_at s p past) e.what y p k) (told_over f.told (what_lanes s (stand_at s p past) e.what y) p k)
    (value_at (own_of s p past).seen k)) (own_of s p past)) l
    ∙ own_with_same s n (due_of e.what (time past)) e _ _ (own_of s p past)
    (λ k b. ap (λ (x : ℕ). seen_after n e.what k (asks_in s (stand_at s p past) e.what (lanes_at s past) p k) x (value_at (own_of s p past).seen k))
    (told_all s past f.told (what_lanes s (stand_at s p past) e.what (lanes_at s past)) p k (λ x. t x k b)))
    ∙ ap (λ (x : ℕ). own_with s x (due_of e.what (time past)) e
    (λ k. seen_after x e.what k (asks_in s (stand_at s p past) e.what (lanes_at s past) p k)
    (told_by_all s (what_lanes s (stand_at s p past) e.what (lanes_at s past)) p k past) (value_at (own_of s p past).seen k)) (own_of s p past)) m
    ∙ ap (λ (q : CpuNo). own_with s (length past) (due_of e.what (time past)) e
    (λ k. seen_after (length past) e.what k (asks_in s (stand_at s q past) e.what (lanes_at s past) p k)
    (told_by_all s (what_lanes s (stand_at s q past) e.what (lanes_at s past)) p k past) (value_at (own_of s p past).seen k)) (own_of s p past)) (sym c)
    ∙ sym (own_moves_here s p e past (of_itself e p c))

-- the other processors keep what they kept
pub own_stays_on : (s : Script) (q : CpuNo) (past : List Event) (e : Event) → e.cpu.0 ≢ q.0 → own_of s q (e ∷ past) ≡ own_of s q past
own_stays_on s q past e n = own_stays s q e past (grind (arith, nat_tests))

-- the floor follows the longer history, where it goes on telling its states
pub follows_on : (s : Script) (p : CpuNo) (past : List Event) (f : Found) (n : ℕ) (e : Event) (v w : View) (m : Lanes) → e.cpu ≡ p → Follows s past v →
    IsMoved s n e (stand_at s p past) f v w → w.states ≡ Some m → Follows s (e ∷ past) w
follows_on s p past f n e v w m c h i k = record {
  cpus = i.cpus ∙ h.cpus;
  alone = i.alone ∙ h.alone;
  next = (i.exact h.alone).1 ∙ (ap (λ (x : ℕ). x + 1) number ∙ add-one (length past));
  states = states;
  told = λ x q d b. i.told_after h.alone x q d (word q d b)
      ∙ (found (λ y. raised (is_among x (what_lanes s (stand_at s p past) e.what y) && asks_in s (stand_at s p past) e.what y q d) n (f.told x q d))
      ∙ (ap (λ (z : ℕ). raised (is_among x (what_lanes s (stand_at s p past) e.what (lanes_at s past))
      && asks_in s (stand_at s p past) e.what (lanes_at s past) q d) n z) (sym (i.told_before h.alone x q d (word q d b)) ∙ h.told x q d (word q d b))
      ∙ (ap (λ (z : ℕ). raised (is_among x (what_lanes s (stand_at s p past) e.what (lanes_at s past))
      && asks_in s (stand_at s p past) e.what (lanes_at s past) q d) z (told_by s x q d past)) number
      ∙ here (λ r. raised (is_among x (what_lanes s (stand_at s r past) e.what (lanes_at s past))
      && asks_in s (stand_at s r past) e.what (lanes_at s past) q d) (length past) (told_by s x q d past)))));
  value = λ q d b. i.value h.alone q d (word q d b) ∙ (found (λ y. raised (asks_in s (stand_at s p past) e.what y q d) n (v.value q d))
      ∙ (ap (λ (z : ℕ). raised (asks_in s (stand_at s p past) e.what (lanes_at s past) q d) n z) (h.value q d (word q d b))
      ∙ (ap (λ (z : ℕ). raised (asks_in s (stand_at s p past) e.what (lanes_at s past) q d) z (asked s q d past)) number
      ∙ here (λ r. raised (asks_in s (stand_at s r past) e.what (lanes_at s past) q d) (length past) (asked s q d past)))));
  marked = λ j q d b. i.marked j q d (word q d b) ∙ (found_bool (λ y. v.marked j q d || ((j == n) && asks_in s (stand_at s p past) e.what y q d))
      ∙ (ap (λ (z : Bool). z || ((j == n) && asks_in s (stand_at s p past) e.what (lanes_at s past) q d)) (h.marked j q d (word q d b))
      ∙ (ap (λ (z : ℕ). asks_at s j q d past || ((j == z) && asks_in s (stand_at s p past) e.what (lanes_at s past) q d)) number
      ∙ here_bool (λ r. asks_at s j q d past || ((j == length past) && asks_in s (stand_at s r past) e.what (lanes_at s past) q d)))));
}
  where
    number : n ≡ length past
    number = (i.exact h.alone).0 ∙ h.next

    lanes : f.lanes ≡ lanes_at s past
    lanes = sym (rw h.states at i.before)

    word : (q : CpuNo) (d : ℕ) → HasWord w q d → HasWord v q d
    word q d b = let x = i.cpus in (omega arith, b.1)

    found : (g : Lanes → ℕ) → g f.lanes ≡ g (lanes_at s past)
    found g = ap g lanes

    found_bool : (g : Lanes → Bool) → g f.lanes ≡ g (lanes_at s past)
    found_bool g = ap g lanes

    here : (g : CpuNo → ℕ) → g p ≡ g e.cpu
    here g = ap g (sym c)

    here_bool : (g : CpuNo → Bool) → g p ≡ g e.cpu
    here_bool g = ap g (sym c)

    states : w.states ≡ Some (lanes_at s (e ∷ past))
    states =
        let a : m ≡ lanes_after s n (stand_at s p past) e f.lanes = rw k at i.after in
        k ∙ ap (λ (y : Lanes). Some y) (a ∙ (ap (λ (y : Lanes). lanes_after s n (stand_at s p past) e y) lanes
        ∙ (ap (λ (z : ℕ). lanes_after s z (stand_at s p past) e (lanes_at s past)) number
        ∙ (ap (λ (q : CpuNo). lanes_after s (length past) (stand_at s q past) e (lanes_at s past)) (sym c) ∙ sym (lanes_move s e past)))))

-- ---- the whole turn

-- what a turn of a processor leaves of a run: the processor and the floor follow the longer history
pub record MovesOn (s : Script) (limit : ℕ) (p : CpuNo) (past : List Event) (e : Event) (d : CpuState) (w : View) : Type 0 where
  pub cpu : e.cpu ≡ p
  pub state : d ≡ state_of s p limit (e ∷ past)
  pub floor : Follows s (e ∷ past) w

-- after a turn of a processor that follows a history, processor and floor follow the history with its event
pub moves_on : (s : Script) (limit : ℕ) (p : CpuNo) (past : List Event) (t : Turn) (f : Found) (n : ℕ) (e : Event) (d : CpuState) (v w : View) (m : Lanes) →
    p.0 < s.cpus → Follows s past v → IsTurned (state_of s p limit past) d t f n e v w → w.states ≡ Some m → MovesOn s limit p past e d w
moves_on s limit p past t f n e d v w m b h i k =
    let c : e.cpu ≡ p = gives_cpu (state_of s p limit past) f.lanes t e i.event in
    let g = i.floor in
    let lanes : f.lanes ≡ lanes_at s past = sym (rw h.states at g.before) in
    let number : n ≡ length past = (g.exact h.alone).0 ∙ h.next in
    let told : (x : Lane) (k : ℕ) → k < 16 → f.told x p k ≡ told_by s x p k past = λ x k q. let y : HasWord v p k = (let z = h.cpus in omega arith, q) in
    sym (g.told_before h.alone x p k y) ∙ h.told x p k y in
    record {
      cpu = c;
      state = i.state ∙ ap (λ (x : Own). record { script = s; cpu = p; limit = limit; own = x })
          (own_moves_on s limit p past f n e c number lanes told);
      floor = follows_on s p past f n e v w m c h g k;
    }
