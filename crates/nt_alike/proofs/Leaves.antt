-- What events that are alike leave of histories that are alike.
use Rattle.std.proofs.Common.{ap, arith, subst, sym, ◌∙◌}
use Rattle.std.proofs.lemmas.Bool.{ltb-false, ltb-true}
use Rattle.std.proofs.lemmas.List.{get_or_past}
use Rattle.std.specs.List.{list_any}
use Rattle.std.specs.Prelude.{Bool, List, None, Option, [], false, if◌then◌else◌, length, map, nat_lt, refl, true, ℕ, ◌+◌, ◌<◌, ◌==◌, ◌∷◌, ◌≡◌}
use Rattle.nt_event.specs.declared.commands.TimerKey.{TimerKey}
use Rattle.nt_event.specs.declared.commands.TimerKey.TheVariants.{Delay as DelayKey, Timer as TimerKeyOf}
use Rattle.nt_event.specs.declared.events.Begun.TheVariants.{Apc, Dpc, Int, Threaded}
use Rattle.nt_event.specs.declared.events.Event.{Event}
use Rattle.nt_event.specs.declared.events.What.{What}
use Rattle.nt_event.specs.declared.events.What.TheVariants.{Begin, Call, Expire}
use Rattle.nt_event.specs.declared.frames.Again.{Again}
use Rattle.nt_event.specs.declared.jobs.Lane.{Lane}
use Rattle.nt_event.specs.declared.jobs.Stand.{Stand}
use Rattle.nt_event.specs.declared.numbers.CpuNo.{CpuNo}
use Rattle.nt_event.specs.declared.numbers.DpcNo.{DpcNo}
use Rattle.nt_event.specs.declared.numbers.ThreadNo.{ThreadNo}
use Rattle.nt_event.specs.declared.numbers.TimerNo.{TimerNo}
use Rattle.nt_event.specs.declared.scripts.Script.{Script}
use Rattle.nt_event.specs.Frames.{Frames, due_of, frames_after, frames_of, level_in, running, time}
use Rattle.nt_event.specs.Jobs.{is_due}
use Rattle.nt_event.specs.Lanes.{Lanes, facts_at, lanes_after, lanes_at, lanes_of, lock_at, object_at, queue_at, same_lane, touches, what_lanes}
use Rattle.nt_event.specs.Lists.{table}
use Rattle.nt_event.specs.Locks.{LockMove, LockState, lock_move, lock_moved}
use Rattle.nt_event.specs.Numbers.{cpu, dpc, is_by, is_of, is_thread, lock, thread}
use Rattle.nt_event.specs.Objects.{ObjectState, object_after}
use Rattle.nt_event.specs.Own.{Own, fire, fire_after, is_rest, own_after_event, own_of, rested}
use Rattle.nt_event.specs.Queues.{QueueState, queue_after}
use Rattle.nt_event.specs.Regions.{owes_sweep, stand_at, sweep_after}
use Rattle.nt_event.specs.Requests.{asks, is_ask, seen, served, serves, told, told_by, what_asks}
use Rattle.nt_event.specs.Routines.{cpu_of}
use Rattle.nt_event.specs.Step.{IsRun, event_at, thread_field, unleveled}
use Rattle.nt_event.specs.Threads.{ThreadFacts, start_facts}
use Rattle.nt_event.specs.Timers.{Timers}
use Rattle.nt_event.specs.Waits.{facts, facts_after}
use Rattle.nt_event.proofs.Moves.{lanes_move, own_moves}
use Rattle.nt_event.proofs.Tables.{get_or-table, length-table_from, table-same}
use Rattle.nt_alike.specs.Alike.{Alike, SameOrder, unnoticed}
use Rattle.nt_alike.specs.Bare.{bare_lanes, bare_event, bare_facts, bare_frames, bare_but_timers, bare_object, bare_own, bare_queue, bare_stand, bare_what}
use Rattle.nt_alike.specs.Parts.{IsTimely}
use Rattle.nt_alike.proofs.Asked.{base_place, due, due_after, due_moves, IsFound, lane_place, look_place, own_place, place_after, told_places}
use Rattle.nt_alike.proofs.Facts.{facts_bare}
use Rattle.nt_alike.proofs.Frames.{NamesInner, frames_bare, frames_moved, level_bare, map_table}
use Rattle.nt_alike.proofs.Jobs.{asks_bare, facts_read, queue_read}
use Rattle.nt_alike.proofs.Parts.{lanes_bare, object_bare, object_read, queue_bare}
use Rattle.nt_alike.proofs.Timers.{all_below, order_after, sets, sets_timer, blocks_delay, timers_bare}
use Rattle.nt_alike.proofs.Timely.{timely}
use Rattle.nt_alike.proofs.Tasks.{due_bare, stand_in_bare}
use Rattle.nt_alike.proofs.Moves.{asks_apart, due_same, lanes_apart, level_same, thread_same}
use Rattle.nt_event.specs.Own.{stand_in}
use Rattle.nt_runs.proofs.Running.{same_cpu}
use Rattle.nt_event.specs.Timers.{timers_after, timers_at}
use Rattle.nt_event.proofs.Moves.{timers_move}

-- ---- lanes

-- a move of a lock has no number
move_bare : (w : What) → lock_move w ≡ lock_move (bare_what w)
move_bare (Call f c y) = refl
move_bare w = refl

-- what an event does to the lanes, but for numbers, does not depend on any number, where expiries are timely
lanes_left : (s : Script) (n : ℕ) (st : Stand) (e : Event) (l : Lanes) → ((t : ThreadNo) → IsTimely t e.what (facts_at l t)) →
    bare_lanes (lanes_after s n st e l) ≡ lanes_after s 0 (bare_stand st) (bare_event e) (bare_lanes l)
lanes_left s n st e l timely =
    let a = map_table bare_object (length s.dpcs) (λ d. object_after (dpc d) n e.cpu e.what (object_at l (dpc d)))
    ∙ table-same (length s.dpcs) (λ d. bare_object (object_after (dpc d) n e.cpu e.what (object_at l (dpc d))))
    (λ d. object_after (dpc d) 0 e.cpu (bare_what e.what) (object_at (bare_lanes l) (dpc d)))
    (λ d h. object_bare (dpc d) n e.cpu e.what (object_at l (dpc d))
    ∙ ap (object_after (dpc d) 0 e.cpu (bare_what e.what)) (sym (object_read l.objects (dpc d)))) in
    let b = map_table bare_queue s.cpus (λ p. queue_after s (cpu p) n e.cpu e.what l.objects (queue_at l (cpu p)))
    ∙ table-same s.cpus (λ p. bare_queue (queue_after s (cpu p) n e.cpu e.what l.objects (queue_at l (cpu p))))
    (λ p. queue_after s (cpu p) 0 e.cpu (bare_what e.what) (map bare_object l.objects) (queue_at (bare_lanes l) (cpu p)))
    (λ p h. queue_bare s (cpu p) n e.cpu e.what l.objects (queue_at l (cpu p))
    ∙ ap (queue_after s (cpu p) 0 e.cpu (bare_what e.what) (map bare_object l.objects)) (sym (queue_read l (cpu p)))) in
    let c = map_table bare_facts (length s.threads) (λ t. facts_after s (thread t) n st e (facts_at l (thread t)))
    ∙ table-same (length s.threads) (λ t. bare_facts (facts_after s (thread t) n st e (facts_at l (thread t))))
    (λ t. facts_after s (thread t) 0 (bare_stand st) (bare_event e) (facts_at (bare_lanes l) (thread t)))
    (λ t h. facts_bare s (thread t) n st e (facts_at l (thread t)) (timely (thread t))
    ∙ ap (facts_after s (thread t) 0 (bare_stand st) (bare_event e)) (sym (facts_read l (thread t)))) in
    let d = timers_bare s n st e l.timers in
    let f = ap (λ (m : LockMove). table s.locks (λ k. lock_moved s (lock k) e.cpu m (lock_at l (lock k)))) (move_bare e.what) in
    same a b c d f
  where
    same : {a b : List ObjectState} {c d : List QueueState} {x y : List ThreadFacts} {t u : Timers} {v w : List LockState} →
        a ≡ b → c ≡ d → x ≡ y → t ≡ u → v ≡ w →
        ◌≡◌ {A = Lanes} (record { objects = a; queues = c; threads = x; timers = t; locks = v })
        (record { objects = b; queues = d; threads = y; timers = u; locks = w })
    same h k l m n = cc

-- in a run
timely_there : (s : Script) (limit : ℕ) (e : Event) (past : List Event) → IsRun s limit (e ∷ past) → (t : ThreadNo) →
    IsTimely t e.what (facts_at (lanes_at s past) t)
timely_there s limit e past r t = at (nat_lt t.0 (length s.threads)) refl
  where
    none : (w : What) → IsTimely t w start_facts
    none (Expire (DelayKey u) from) = λ h. refl
    none w = tt

    at : (b : Bool) → nat_lt t.0 (length s.threads) ≡ b → IsTimely t e.what (facts_at (lanes_at s past) t)
    at true l =
        let there = get_or-table {A = ThreadFacts} (length s.threads) t.0 (λ t. facts s (thread t) past) start_facts (ltb-true t.0 (length s.threads) l) in
        subst (IsTimely t e.what) (sym there)
        (timely s limit t e past r)
    at false l =
        let k = length-table_from {A = ThreadFacts} 0 (length s.threads) (λ t. facts s (thread t) past) in
        let g = ltb-false t.0 (length s.threads) l in
        subst (IsTimely t e.what) (sym (get_or_past (table (length s.threads) (λ t. facts s (thread t) past)) t.0 start_facts (omega (arith, k, g))))
        (none e.what)

-- ---- small questions by bare events

-- whether an event is a Rest does not depend on its numbers
rest_bare : (w : What) → is_rest w ≡ is_rest (bare_what w)
rest_bare (Call f c y) = refl
rest_bare w = refl

-- what an event leaves to be fired does not depend on its numbers
fire_bare : (s : Script) (w : What) (o : Option DpcNo) → fire_after s w o ≡ fire_after s (bare_what w) o
fire_bare s (Call f c y) o = refl
fire_bare s (Expire (TimerKeyOf t) from) o = refl
fire_bare s (Expire (DelayKey t) from) o = refl
fire_bare s w o = refl

-- what an event leaves of the timer sweep does not depend on its numbers
sweep_bare : (w : What) (b : Bool) → sweep_after w b ≡ sweep_after (bare_what w) b
sweep_bare (Call f c y) b = refl
sweep_bare (Begin (Int level) from) b = refl
sweep_bare (Begin (Dpc d) from) b = refl
sweep_bare (Begin (Threaded d) from) b = refl
sweep_bare (Begin (Apc a) from) b = refl
sweep_bare w b = refl

-- whether an event serves a class does not depend on its numbers
serves_bare : (c : ℕ) (w : What) → serves c w ≡ serves c (bare_what w)
serves_bare c (Begin (Int level) from) = refl
serves_bare c (Begin (Dpc d) from) = refl
serves_bare c (Begin (Threaded d) from) = refl
serves_bare c (Begin (Apc a) from) = refl
serves_bare c (Call f c2 y) = refl
serves_bare c w = refl

-- whether an event sets a timer does not depend on its numbers
sets_bare : (t : TimerNo) (w : What) → sets_timer t w ≡ sets_timer t (bare_what w)
sets_bare t (Call f c y) = refl
sets_bare t (Expire (TimerKeyOf u) from) = refl
sets_bare t (Expire (DelayKey u) from) = refl
sets_bare t w = refl

-- whether an event blocks in a delay does not depend on its numbers
blocks_bare : (o : Option Again) (w : What) → blocks_delay o w ≡ blocks_delay o (bare_what w)
blocks_bare o (Call f c y) = refl
blocks_bare o w = refl

-- ---- two histories

module _ (s : Script) (limit : ℕ) (h k : List Event) (e f : Event) (rh : IsRun s limit (e ∷ h)) (rk : IsRun s limit (f ∷ k)) (al : Alike s h k)
    (same_cpus : e.cpu ≡ f.cpu) (same_what : bare_what e.what ≡ bare_what f.what)
    (made_e : event_at s e.cpu e.what (frames_of s e.cpu h) ≡ e) (made_f : event_at s f.cpu f.what (frames_of s f.cpu k) ≡ f)
    (inner_e : NamesInner e (frames_of s e.cpu h)) (inner_f : NamesInner f (frames_of s f.cpu k))
    (found_e : (c : ℕ) → IsFound s e.cpu c limit h rh.1 e.what) (found_f : (c : ℕ) → IsFound s f.cpu c limit k rk.1 f.what)
    (look : (c : ℕ) → look_place s e.cpu c e.what h ≡ look_place s f.cpu c f.what k) where
  frames_same : (p : CpuNo) → bare_frames (frames_of s p h) ≡ bare_frames (frames_of s p k)
  frames_same p = ap (λ (x : Own). x.frames) (al.own p)

  at_cpu : bare_frames (frames_of s e.cpu h) ≡ bare_frames (frames_of s f.cpu k)
  at_cpu = frames_same e.cpu ∙ ap (λ (p : CpuNo). bare_frames (frames_of s p k)) same_cpus

  threads_same : e.thread ≡ f.thread
  threads_same =
      sym (ap (λ (z : Event). z.thread) made_e)
      ∙ thread_same e.what f.what (running e.cpu h) (running f.cpu k) same_what (ap (λ (x : Frames). x.running) at_cpu)
      ∙ ap (λ (z : Event). z.thread) made_f

  stands_same : bare_stand (stand_at s e.cpu h) ≡ bare_stand (stand_at s f.cpu k)
  stands_same =
      sym (stand_in_bare e.cpu (own_of s e.cpu h)) ∙ ap (stand_in e.cpu) (al.own e.cpu)
      ∙ ap (λ (p : CpuNo). stand_in p (bare_own (own_of s p k))) same_cpus ∙ stand_in_bare f.cpu (own_of s f.cpu k)

  dues_same : due_of e.what (time h) ≡ due_of f.what (time k)
  dues_same = due_same e.what f.what (time h) (time k) same_what (ap (λ (l : Lanes). l.timers.now) al.lanes)

  start_inner : (g : Event) (x : Frames) → event_at s g.cpu g.what x ≡ g → NamesInner g x → NamesInner (unleveled g.cpu g.what x) x
  start_inner g x m i =
      let t : thread_field g.what x.running ≡ g.thread = ap (λ (z : Event). z.thread) m in
      record { own = i.own; thread = λ u b n q. i.thread u (ap (λ (o : Option ThreadNo). is_thread o u) (sym t) ∙ b) n q }

  level_left : (g : Event) (x : Frames) → event_at s g.cpu g.what x ≡ g → NamesInner g x →
      level_in (frames_after s 0 None (unleveled g.cpu g.what x) x)
      ≡ level_in (frames_moved s None (record { cpu = g.cpu; thread = g.thread; level = 0; what = bare_what g.what }) (bare_frames x))
  level_left g x m i =
      let t : thread_field g.what x.running ≡ g.thread = ap (λ (z : Event). z.thread) m in
      sym (level_bare (frames_after s 0 None (unleveled g.cpu g.what x) x))
      ∙ ap level_in (frames_bare s 0 None (unleveled g.cpu g.what x) x (start_inner g x m i))
      ∙ ap (λ (o : Option ThreadNo). level_in (frames_moved s None (record { cpu = g.cpu; thread = o; level = 0; what = bare_what g.what }) (bare_frames x))) t

  levels_same : e.level ≡ f.level
  levels_same =
      let a = level_left e (frames_of s e.cpu h) made_e inner_e in
      let b = level_left f (frames_of s f.cpu k) made_f inner_f in
      sym (ap (λ (z : Event). z.level) made_e)
      ∙ level_same e.what f.what (frames_after s 0 None (unleveled e.cpu e.what (frames_of s e.cpu h)) (frames_of s e.cpu h))
      (frames_after s 0 None (unleveled f.cpu f.what (frames_of s f.cpu k)) (frames_of s f.cpu k)) same_what
      (a ∙ together same_cpus threads_same same_what at_cpu ∙ sym b)
      ∙ ap (λ (z : Event). z.level) made_f
    where
      together : {p q : CpuNo} {t u : Option ThreadNo} {w v : What} {x y : Frames} → p ≡ q → t ≡ u → w ≡ v → x ≡ y →
          level_in (frames_moved s None (record { cpu = p; thread = t; level = 0; what = w }) x)
          ≡ level_in (frames_moved s None (record { cpu = q; thread = u; level = 0; what = v }) y)
      together a b c d = cc

  -- the two next events of histories that are alike are the same but for numbers
  pub events_same : bare_event e ≡ bare_event f
  events_same = all same_cpus threads_same levels_same same_what
    where
      all : {p q : CpuNo} {t u : Option ThreadNo} {l m : ℕ} {w v : What} → p ≡ q → t ≡ u → l ≡ m → w ≡ v →
          ◌≡◌ {A = Event} (record { cpu = p; thread = t; level = l; what = w }) (record { cpu = q; thread = u; level = m; what = v })
      all a b c d = cc

  -- ---- lanes

  lanes_now : bare_lanes (lanes_at s (e ∷ h)) ≡ bare_lanes (lanes_at s (f ∷ k))
  lanes_now =
      ap bare_lanes (lanes_move s e h)
      ∙ lanes_left s (length h) (stand_at s e.cpu h) e (lanes_at s h) (timely_there s limit e h rh)
      ∙ together stands_same events_same al.lanes
      ∙ sym (lanes_left s (length k) (stand_at s f.cpu k) f (lanes_at s k) (timely_there s limit f k rk))
      ∙ sym (ap bare_lanes (lanes_move s f k))
    where
      together : {a b : Stand} {c d : Event} {l m : Lanes} → a ≡ b → c ≡ d → l ≡ m → lanes_after s 0 a c l ≡ lanes_after s 0 b d m
      together p q r = cc

  of_same : (p : CpuNo) → is_of e p ≡ is_of f p
  of_same p = ap (λ (q : CpuNo). q.0 == p.0) same_cpus

  by_same : (t : ThreadNo) → is_by e t ≡ is_by f t
  by_same t = ap (λ (o : Option ThreadNo). is_thread o t) threads_same

  sets_same : (a : TimerKey) → sets s (stand_at s e.cpu h) e a ≡ sets s (stand_at s f.cpu k) f a
  sets_same (TimerKeyOf t) = sets_bare t e.what ∙ ap (sets_timer t) same_what ∙ sym (sets_bare t f.what)
  sets_same (DelayKey t) =
      let a = of_same (cpu_of s t) in
      let b = by_same t in
      let g : (stand_at s e.cpu h).again ≡ (stand_at s f.cpu k).again = ap (λ (st : Stand). st.again) stands_same in
      let c = blocks_bare (stand_at s e.cpu h).again e.what ∙ ap (blocks_delay (stand_at s e.cpu h).again) same_what
      ∙ ap (λ (o : Option Again). blocks_delay o (bare_what f.what)) g ∙ sym (blocks_bare (stand_at s f.cpu k).again f.what) in
      rw (a, b, c) refl

  order_now : SameOrder (lanes_at s (e ∷ h)).timers (lanes_at s (f ∷ k)).timers
  order_now =
      let o =
      order_after s (length h) (length k) (stand_at s e.cpu h) (stand_at s f.cpu k) e f (timers_at s h) (timers_at s k)
      (all_below s h) (all_below s k) sets_same al.order in
      subst (λ (y : Timers). SameOrder (timers_at s (e ∷ h)) y) (sym (timers_move s f k))
      (subst (λ (x : Timers). SameOrder x (timers_after s (length k) (stand_at s f.cpu k) f (timers_at s k))) (sym (timers_move s e h)) o)

  -- ---- requests

  bare_same : record (bare_lanes (lanes_at s h)) { timers = (lanes_at s h).timers } ≡ record (bare_lanes (lanes_at s k)) { timers = (lanes_at s h).timers }
  bare_same = ap (λ (l : Lanes). record l { timers = (lanes_at s h).timers }) al.lanes

  what_asks_same : what_asks s (stand_at s e.cpu h) e.what (lanes_at s h) ≡ what_asks s (stand_at s f.cpu k) f.what (lanes_at s k)
  what_asks_same =
      asks_bare s (stand_at s e.cpu h) e.what (lanes_at s h) (timely_there s limit e h rh)
      ∙ together stands_same same_what bare_same
      ∙ sym (asks_apart s (bare_stand (stand_at s f.cpu k)) (bare_what f.what) (bare_but_timers (lanes_at s k)) (lanes_at s h).timers)
      ∙ sym (asks_bare s (stand_at s f.cpu k) f.what (lanes_at s k) (timely_there s limit f k rk))
    where
      together : {a b : Stand} {w v : What} {l m : Lanes} → a ≡ b → w ≡ v → l ≡ m → what_asks s a w l ≡ what_asks s b v m
      together p q r = cc

  asks_same : (p : CpuNo) (c : ℕ) → asks s p c e h ≡ asks s p c f k
  asks_same p c = ap (list_any (is_ask p c)) what_asks_same

  lanes_same : lanes_of s e h ≡ lanes_of s f k
  lanes_same =
      lanes_bare s (stand_at s e.cpu h) e.what (lanes_at s h)
      ∙ together stands_same same_what bare_same
      ∙ sym (lanes_apart s (bare_stand (stand_at s f.cpu k)) (bare_what f.what) (bare_but_timers (lanes_at s k)) (lanes_at s h).timers)
      ∙ sym (lanes_bare s (stand_at s f.cpu k) f.what (lanes_at s k))
    where
      together : {a b : Stand} {w v : What} {l m : Lanes} → a ≡ b → w ≡ v → l ≡ m → what_lanes s a w l ≡ what_lanes s b v m
      together p q r = cc

  touches_same : (x : Lane) → touches s x e h ≡ touches s x f k
  touches_same x = ap (list_any (same_lane x)) lanes_same

  places_same : (p : CpuNo) (c : ℕ) (xs : List Lane) → told_places s p c xs h ≡ told_places s p c xs k
  places_same p c [] = al.asks p c
  places_same p c (x ∷ xs) = let a = al.told x p c in let b = places_same p c xs in rw (a, b) refl

  own_places_same : (p : CpuNo) (c : ℕ) → is_of e p ≡ true → own_place s p c e h ≡ own_place s p c f k
  own_places_same p c b =
      let here : e.cpu ≡ p = same_cpu e p b in
      let there : f.cpu ≡ p = sym same_cpus ∙ here in
      let l : look_place s p c e.what h ≡ look_place s p c f.what k =
      ap (λ (q : CpuNo). look_place s q c e.what h) (sym here) ∙ look c ∙ ap (λ (q : CpuNo). look_place s q c f.what k) there in
      let t : told_places s p c (lanes_of s e h) h ≡ told_places s p c (lanes_of s f k) k =
      places_same p c (lanes_of s e h) ∙ ap (λ (xs : List Lane). told_places s p c xs k) lanes_same in
      rw (l, t) refl

  after_same : (q a t : Bool) (x y m n : ℕ) → (q ≡ true → x ≡ y) → m ≡ n → place_after q a t x m ≡ place_after q a t y n
  after_same true true t x y m n g h = refl
  after_same true false t x y m n g h = let z = g refl in rw (z, h) refl
  after_same false true true x y m n g h = refl
  after_same false true false x y m n g h = ap (λ (i : ℕ). 1 + i) h
  after_same false false t x y m n g h = h

  base_now : (p : CpuNo) (c : ℕ) → unnoticed s p c 0 (e ∷ h) ≡ unnoticed s p c 0 (f ∷ k)
  base_now p c =
      base_place s p c limit h rh.1 e
      ∙ after_same (is_of e p) (asks s p c e h) false _ _ _ _ (own_places_same p c) (al.asks p c)
      ∙ together (of_same p) (asks_same p c)
      ∙ sym (base_place s p c limit k rk.1 f)
    where
      together : {q r a b : Bool} → q ≡ r → a ≡ b →
          place_after q a false (own_place s p c f k) (unnoticed s p c 0 k) ≡ place_after r b false (own_place s p c f k) (unnoticed s p c 0 k)
      together g i = cc

  told_now : (x : Lane) (p : CpuNo) (c : ℕ) → unnoticed s p c (told_by s x p c (e ∷ h)) (e ∷ h) ≡ unnoticed s p c (told_by s x p c (f ∷ k)) (f ∷ k)
  told_now x p c =
      lane_place s p c limit h rh.1 x e
      ∙ after_same (is_of e p) (asks s p c e h) (touches s x e h) _ _ _ _ (own_places_same p c) (al.told x p c)
      ∙ together (of_same p) (asks_same p c) (touches_same x)
      ∙ sym (lane_place s p c limit k rk.1 x f)
    where
      together : {q r a b t u : Bool} → q ≡ r → a ≡ b → t ≡ u →
          place_after q a t (own_place s p c f k) (unnoticed s p c (told_by s x p c k) k)
          ≡ place_after r b u (own_place s p c f k) (unnoticed s p c (told_by s x p c k) k)
      together g i j = cc

  -- ---- what each processor keeps

  due_own : (p : CpuNo) (c : ℕ) (past : List Event) → c < 16 → is_due (own_of s p past) c ≡ due s p c limit h rh.1 past
  due_own p c past l =
      let a = get_or-table {A = ℕ} 16 c (λ c. seen s p c past) 0 l in
      let b = get_or-table {A = ℕ} 16 c (λ c. served s p c past) 0 l in
      rw (a, b) refl

  due_before : (p : CpuNo) (c : ℕ) → c < 16 → due s p c limit h rh.1 h ≡ due s p c limit h rh.1 k
  due_before p c l =
      sym (due_own p c h l) ∙ sym (due_bare (own_of s p h) c l) ∙ ap (λ (x : Own). is_due x c) (al.own p) ∙ due_bare (own_of s p k) c l ∙ due_own p c k l

  due_now : (p : CpuNo) (c : ℕ) → c < 16 → is_of e p ≡ true → is_due (own_of s p (e ∷ h)) c ≡ is_due (own_of s p (f ∷ k)) c
  due_now p c l b =
      let here : e.cpu ≡ p = same_cpu e p b in
      let there : f.cpu ≡ p = sym same_cpus ∙ here in
      due_own p c (e ∷ h) l
      ∙ due_moves s p c limit h rh.1 e (subst (λ (q : CpuNo). IsFound s q c limit h rh.1 e.what) here (found_e c))
      ∙ together (of_same p) (serves_bare c e.what ∙ ap (serves c) same_what ∙ sym (serves_bare c f.what)) (asks_same p c) (due_before p c l) (base_now p c)
      (al.asks p c)
      ∙ sym (due_moves s p c limit k rk.1 f (subst (λ (q : CpuNo). IsFound s q c limit k rk.1 f.what) there (found_f c)))
      ∙ sym (due_own p c (f ∷ k) l)
    where
      together : {q r a b v w x y : Bool} {m n i j : ℕ} → q ≡ r → a ≡ b → v ≡ w → x ≡ y → m ≡ n → i ≡ j → due_after q a v x m i ≡ due_after r b w y n j
      together g1 g2 g3 g4 g5 g6 = cc

  frames_own : (p : CpuNo) (g : Event) (past : List Event) → is_of g p ≡ true →
      frames_of s p (g ∷ past) ≡ frames_after s (length past) (due_of g.what (time past)) g (frames_of s p past)
  frames_own p g past b =
      let m : own_of s p (g ∷ past) ≡ own_after_event s (length past) (due_of g.what (time past)) g (λ c. asks s p c g past) (λ c. told s p c g past)
      (own_of s p past) =
      own_moves s p g past ∙ rw b refl in
      ap (λ (x : Own). x.frames) m

  other_own : (p : CpuNo) (g : Event) (past : List Event) → is_of g p ≡ false → own_of s p (g ∷ past) ≡ own_of s p past
  other_own p g past b = own_moves s p g past ∙ rw b refl

  frames_now : (p : CpuNo) → is_of e p ≡ true → bare_frames (frames_of s p (e ∷ h)) ≡ bare_frames (frames_of s p (f ∷ k))
  frames_now p b =
      let here : e.cpu ≡ p = same_cpu e p b in
      let there : f.cpu ≡ p = sym same_cpus ∙ here in
      ap bare_frames (frames_own p e h b)
      ∙ frames_bare s (length h) (due_of e.what (time h)) e (frames_of s p h) (subst (λ (q : CpuNo). NamesInner e (frames_of s q h)) here inner_e)
      ∙ together dues_same events_same (frames_same p)
      ∙ sym (frames_bare s (length k) (due_of f.what (time k)) f (frames_of s p k) (subst (λ (q : CpuNo). NamesInner f (frames_of s q k)) there inner_f))
      ∙ sym (ap bare_frames (frames_own p f k (sym (of_same p) ∙ b)))
    where
      together : {a b : Option ℕ} {c d : Event} {x y : Frames} → a ≡ b → c ≡ d → x ≡ y → frames_moved s a c x ≡ frames_moved s b d y
      together p q r = cc

  own_now : (p : CpuNo) → bare_own (own_of s p (e ∷ h)) ≡ bare_own (own_of s p (f ∷ k))
  own_now p = go (is_of e p) refl
    where
      fields : {x y : Frames} {a b : List ℕ} {c d : Bool} {o q : Option DpcNo} {m n : Bool} → x ≡ y → a ≡ b → c ≡ d → o ≡ q → m ≡ n →
          ◌≡◌ {A = Own} (record { made = 0; frames = x; seen = a; served = table 16 (λ c. 0); rested = c; took = None; fire = o; sweep = m })
          (record { made = 0; frames = y; seen = b; served = table 16 (λ c. 0); rested = d; took = None; fire = q; sweep = n })
      fields g1 g2 g3 g4 g5 = cc

      go : (b : Bool) → is_of e p ≡ b → bare_own (own_of s p (e ∷ h)) ≡ bare_own (own_of s p (f ∷ k))
      go false b = ap bare_own (other_own p e h b) ∙ al.own p ∙ sym (ap bare_own (other_own p f k (sym (of_same p) ∙ b)))
      go true b =
          let d : is_of f p ≡ true = sym (of_same p) ∙ b in
          let seen_now : table 16 (λ c. if is_due (own_of s p (e ∷ h)) c then 1 else 0) ≡ table 16 (λ c. if is_due (own_of s p (f ∷ k)) c then 1 else 0) =
          table-same {A = ℕ} 16 (λ c. if is_due (own_of s p (e ∷ h)) c then 1 else 0) (λ c. if is_due (own_of s p (f ∷ k)) c then 1 else 0)
          (λ c l. ap (λ (t : Bool). if t then 1 else 0) (due_now p c l b)) in
          let r : rested p (e ∷ h) ≡ rested p (f ∷ k) =
          (let x : rested p (e ∷ h) ≡ is_rest e.what = rw b refl in let y : rested p (f ∷ k) ≡ is_rest f.what = rw d refl in
          x ∙ rest_bare e.what ∙ ap is_rest same_what ∙ sym (rest_bare f.what) ∙ sym y) in
          let o : fire s p (e ∷ h) ≡ fire s p (f ∷ k) = (let x : fire s p (e ∷ h) ≡ fire_after s e.what (fire s p h) = rw b refl in
          let y : fire s p (f ∷ k) ≡ fire_after s f.what (fire s p k) = rw d refl in
          x ∙ fire_bare s e.what (fire s p h) ∙ ap (λ (w : What). fire_after s w (fire s p h)) same_what
          ∙ ap (fire_after s (bare_what f.what)) (ap (λ (x : Own). x.fire) (al.own p)) ∙ sym (fire_bare s f.what (fire s p k)) ∙ sym y) in
          let m : owes_sweep p (e ∷ h) ≡ owes_sweep p (f ∷ k) = (let x : owes_sweep p (e ∷ h) ≡ sweep_after e.what (owes_sweep p h) = rw b refl in
          let y : owes_sweep p (f ∷ k) ≡ sweep_after f.what (owes_sweep p k) = rw d refl in
          x ∙ sweep_bare e.what (owes_sweep p h) ∙ ap (λ (w : What). sweep_after w (owes_sweep p h)) same_what
          ∙ ap (sweep_after (bare_what f.what)) (ap (λ (x : Own). x.sweep) (al.own p)) ∙ sym (sweep_bare f.what (owes_sweep p k)) ∙ sym y) in
          fields (frames_now p b) seen_now r o m

  -- histories that are alike stay alike after these two events
  pub alike_now : Alike s (e ∷ h) (f ∷ k)
  alike_now = record { lanes = lanes_now; order = order_now; own = own_now; asks = base_now; told = told_now }
